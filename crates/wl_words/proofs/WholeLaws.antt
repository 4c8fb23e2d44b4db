-- What is wrong with words each of which is right.
use Rattle.std.proofs.Common.{rules, ◌≡◌, ◌<◌, ◌⊎◌, ℕ, List, [], ◌∷◌, length, Bool, true, false, if◌then◌else◌, nat_le, Option, Some, None, option_map, find, slice_get, All, refl, sym, ◌∙◌, inl, inr}
use Rattle.std.proofs.lemmas.Bool.{leb-false}
use Rattle.std.proofs.lemmas.List.Elements.{All-cons}
use Rattle.wl_words.specs.Args.{WholeFault, whole_fault, earlier, first_input, lost_in, lost_replacement}
use Rattle.wl_words.specs.Modes.{generates}
use Rattle.wl_words.specs.declared.args.WasmArgs.{WasmArgs}
use Rattle.wl_words.specs.declared.replacing.ObjectReplacement.{ObjectReplacement}
use Rattle.wl_words.specs.declared.error.ArgError.{ArgError}
use Rattle.wl_words.specs.declared.error.ArgError.TheVariants.{BadNumber, ExtraInput}
use Rattle.wl_words.proofs.OptionLaws.{some_same, some_none}

pub none_whole : (args : WasmArgs) → whole_fault args ≡ None → (e : ArgError) → WholeFault args e → ⊥
none_whole args none e h = some_none e (sym h ∙ none)

pub whole_or_sound : (args : WasmArgs) → ((e : ArgError) × WholeFault args e) ⊎ ((e : ArgError) → WholeFault args e → ⊥)
whole_or_sound args = by (whole_fault args) refl
  where
    by : (o : Option ArgError) → whole_fault args ≡ o → ((e : ArgError) × WholeFault args e) ⊎ ((e : ArgError) → WholeFault args e → ⊥)
    by None none = inr (none_whole args none)
    by (Some e) is = inl (e, is)

pub one_whole : (args : WasmArgs) (e f : ArgError) → WholeFault args e → WholeFault args f → e ≡ f
one_whole args e f h k = some_same e f (sym h ∙ k)

-- ---- each replacement is of an object that a word names

not_lost : (n : ℕ) (r : ObjectReplacement) (rs : List ObjectReplacement) (b : Bool) → nat_le n r.object ≡ b → (lost_in n rs ≡ None → All (λ x. x.object < n) rs) → option_map (λ (x : ObjectReplacement). x.place.word) (if b then Some r else find (λ (x : ObjectReplacement). nat_le n x.object) rs) ≡ None → All (λ x. x.object < n) (r ∷ rs)
not_lost n r rs true is rest h = absurd (some_none r.place.word h)
not_lost n r rs false is rest h = All-cons (λ (x : ObjectReplacement). x.object < n) r rs (leb-false n r.object is) (rest h)

-- no replacement is of an object that there is not
none_lost : (n : ℕ) (rs : List ObjectReplacement) → lost_in n rs ≡ None → All (λ r. r.object < n) rs
none_lost n [] none = search rules
none_lost n (r ∷ rs) none = not_lost n r rs (nat_le n r.object) refl (none_lost n rs) none

-- where no word names an object or a replacement, there is none
no_first : (o : Option ℕ) (n : ℕ) (rs : List ObjectReplacement) → earlier o (option_map (λ (r : ObjectReplacement). r.place.word) (slice_get rs 0)) ≡ None → All (λ r. r.object < n) rs
no_first o n [] none = search rules
no_first None n (r ∷ rs) none = absurd (some_none _ none)
no_first (Some word) n (r ∷ rs) none = absurd (some_none _ none)

mapped_none : {X Y : Type 0} (f : X → Y) (o : Option X) → option_map f o ≡ None → o ≡ None
mapped_none f None none = refl
mapped_none f (Some x) none = absurd (some_none (f x) none)

pub all_named : (args : WasmArgs) → whole_fault args ≡ None → All (λ r. r.object < length args.inputs) args.replacements
all_named args = by (generates args.mode)
  where
    by : (b : Bool) → (if b then option_map ExtraInput (first_input args) else option_map BadNumber (lost_replacement args)) ≡ None → All (λ r. r.object < length args.inputs) args.replacements
    by true none = no_first (slice_get args.inputs 0) (length args.inputs) args.replacements (mapped_none ExtraInput (first_input args) none)
    by false none = none_lost (length args.inputs) args.replacements (mapped_none BadNumber (lost_replacement args) none)
