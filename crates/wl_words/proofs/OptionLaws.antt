-- What a word names: one option, with one value.
use Rattle.std.proofs.Common.{◌≡◌, ℕ, List, Option, Some, None, true≢false, sym, ap, ◌∙◌, slice_get}
use Rattle.wl_words.specs.declared.modes.ValuePlace.{ValuePlace}
use Rattle.wl_words.specs.Options.{front_of, value_of, taken_by, is_option}
use Rattle.wl_words.specs.Items.{NamesObject, NamesOption, HasValue, joined, parted}
use Rattle.wl_words.specs.declared.options.OptionKind.{OptionKind}
use Rattle.wl_words.specs.declared.options.OptionKind.TheVariants.{Nothing, Value, OptionalValue}
use Rattle.wl_words.specs.declared.options.Setting.{Setting}
use Rattle.wl_words.specs.declared.options.Flag.{Flag}
use Rattle.wl_words.specs.declared.options.MemoryOption.{MemoryOption}

-- ---- one value or none

pub some_same : {X : Type 0} (x y : X) → Some x ≡ Some y → x ≡ y
some_same x y is = cc

pub some_none : {X : Type 0} (x : X) → Some x ≡ None → ⊥
some_none x is = absurd cc

-- ---- what a word names

-- a word names one option, with one value after it
pub one_option : (words : List (List ℕ)) (at : ℕ) (s t : OptionKind) (u v : Option (List ℕ)) → NamesOption words at s u → NamesOption words at t v → (s ≡ t) × (u ≡ v)
one_option words at s t u v h k =
    let same : h.word ≡ k.word = some_same _ _ (sym h.here ∙ k.here) in
    (some_same _ _ (sym h.named ∙ ap (λ (w : List ℕ). taken_by (front_of w)) same ∙ k.named), sym h.value ∙ ap value_of same ∙ k.value)

-- a word that names an object names no option
pub no_option : (words : List (List ℕ)) (at : ℕ) (t : OptionKind) (v : Option (List ℕ)) → NamesObject words at → NamesOption words at t v → ⊥
no_option words at t v h k =
    let same : h.word ≡ k.word = some_same _ _ (sym h.here ∙ k.here) in
    absurd (true≢false (sym k.dashed ∙ ap is_option (sym same) ∙ h.plain))

-- a word that names an option isn't unknown
pub not_unnamed : (words : List (List ℕ)) (at : ℕ) (t : OptionKind) (v : Option (List ℕ)) (word : List ℕ) → NamesOption words at t v → slice_get words at ≡ Some word → taken_by (front_of word) ≡ None → ⊥
not_unnamed words at t v word h here none =
    let same : h.word ≡ word = some_same _ _ (sym h.here ∙ here) in
    some_none _ (sym h.named ∙ ap (λ (w : List ℕ). taken_by (front_of w)) same ∙ none)

-- options that take different things are two
pub flag_value : (f : Flag) (s : Setting) → Nothing f ≡ Value s → ⊥
flag_value f s is = absurd cc

pub flag_memory : (f : Flag) (m : MemoryOption) → Nothing f ≡ OptionalValue m → ⊥
flag_memory f m is = absurd cc

pub value_memory : (s : Setting) (m : MemoryOption) → Value s ≡ OptionalValue m → ⊥
value_memory s m is = absurd cc

pub same_flag : (f g : Flag) → Nothing f ≡ Nothing g → f ≡ g
same_flag f g is = cc

pub same_setting : (s t : Setting) → Value s ≡ Value t → s ≡ t
same_setting s t is = cc

pub same_memory : (m n : MemoryOption) → OptionalValue m ≡ OptionalValue n → m ≡ n
same_memory m n is = cc

-- ---- an option and its value

-- the option, whatever follows its equals sign
pub value_option : (words : List (List ℕ)) (at : ℕ) (s : Setting) (v : List ℕ) (p : ValuePlace) → HasValue words at s v p → (behind : Option (List ℕ)) × NamesOption words at (Value s) behind
value_option words at s v p (joined h is) = (Some v, h)
value_option words at s v p (parted h next is) = (None, h)
