-- Words are items or at fault.
use Rattle.std.proofs.Common.{◌≡◌, ◌⊎◌, ◌+◌, ◌<◌, ◌≤◌, ℕ, zero, suc, List, [], ◌∷◌, length, Bool, Option, Some, None, true, false, refl, ap, ◌∙◌, arith, slice_get, inl, inr}
use Rattle.std.proofs.Math.Nat.{eq-or-lt_of_le}
use Rattle.std.specs.Option.{option_and_then, option_or}
use Rattle.std.proofs.lemmas.Option.{slice_get_within, slice_get_cases}
use Rattle.wl_words.specs.Options.{front_of, value_of, taken_by, is_option}
use Rattle.wl_words.specs.Values.{number_of, stack_size_text, generated_count}
use Rattle.wl_words.specs.Replacing.{replaced_object}
use Rattle.wl_words.specs.Modes.{mode_in, KeepsMode}
use Rattle.wl_words.specs.declared.modes.ModeName.{ModeName}
use Rattle.wl_words.specs.declared.modes.ValuePlace.{ValuePlace}
use Rattle.wl_words.specs.Items.{ArgItem, Object, Given, Set, Memory, NamesOption, HasValue, joined, parted, joined_place, word_place, IsSoundValue, StandsAtWord, AreArgItems, mode_of_item, mode_after}
use Rattle.wl_words.specs.Faults.{unnamed, valued, ValueFault, ItemFault, unknown, lacking, unsound, with_value, StopFault, other, alone}
use Rattle.wl_words.specs.declared.options.OptionKind.{OptionKind}
use Rattle.wl_words.specs.declared.options.OptionKind.TheVariants.{Nothing, Value, OptionalValue}
use Rattle.wl_words.specs.declared.options.Setting.{Setting}
use Rattle.wl_words.specs.declared.options.Setting.TheVariants as setting
use Rattle.wl_words.specs.declared.error.ArgError.{ArgError}
use Rattle.wl_words.specs.declared.error.ArgError.TheVariants.{UnknownOption, MissingValue, BadNumber, TwoModes}
use Rattle.wl_words.proofs.ItemLaws.{stands_on}
use Rattle.wl_words.proofs.OptionLaws.{value_option}
use Rattle.wl_words.proofs.ModeLaws.{keeps_or_other, keeps_no_other, unnamed_no_other, valued_no_other, other_of_item}

-- an item stands at this word, or no item does
abbrev ItemOrFault : List (List ℕ) → ℕ → Type 0
ItemOrFault words at = ((item : ArgItem) × (next : ℕ) × StandsAtWord words at item next × (next ≤ length words)) ⊎ ((e : ArgError) × ItemFault words at e)

-- ---- a value

-- a value is sound, or has a fault
value_or_fault : (s : Setting) (v : List ℕ) (p : ℕ) → IsSoundValue s v ⊎ ((e : ArgError) × ValueFault s v p e)
value_or_fault setting.Export v p = inl tt
value_or_fault setting.ExportIfDefined v p = inl tt
value_or_fault setting.Entry v p = inl tt
value_or_fault setting.Keyword v p = keyword (stack_size_text v) refl
  where
    sized : (text : List ℕ) (n : Option ℕ) → stack_size_text v ≡ Some text → number_of 32 text ≡ n → IsSoundValue setting.Keyword v ⊎ ((e : ArgError) × ValueFault setting.Keyword v p e)
    sized text None some is = inr (BadNumber p, inr (text, some, is, refl))
    sized text (Some n) some is = inl (n, ap (option_and_then (number_of 32)) some ∙ is)

    keyword : (o : Option (List ℕ)) → stack_size_text v ≡ o → IsSoundValue setting.Keyword v ⊎ ((e : ArgError) × ValueFault setting.Keyword v p e)
    keyword None is = inr (UnknownOption p, inl (is, refl))
    keyword (Some text) is = sized text (number_of 32 text) is refl
value_or_fault setting.InitialMemory v p = size (number_of 64 v) refl
  where
    size : (o : Option ℕ) → number_of 64 v ≡ o → IsSoundValue setting.InitialMemory v ⊎ ((e : ArgError) × ValueFault setting.InitialMemory v p e)
    size None is = inr (BadNumber p, (is, refl))
    size (Some n) is = inl (n, is)
value_or_fault setting.MaxMemory v p = size (number_of 64 v) refl
  where
    size : (o : Option ℕ) → number_of 64 v ≡ o → IsSoundValue setting.MaxMemory v ⊎ ((e : ArgError) × ValueFault setting.MaxMemory v p e)
    size None is = inr (BadNumber p, (is, refl))
    size (Some n) is = inl (n, is)
value_or_fault setting.ExtraFeatures v p = inl tt
value_or_fault setting.KeepSection v p = inl tt
value_or_fault setting.Output v p = inl tt
value_or_fault setting.Check v p = inl tt
value_or_fault setting.Run v p = inl tt
value_or_fault setting.Generate v p = count (generated_count v) refl
  where
    count : (o : Option ℕ) → generated_count v ≡ o → IsSoundValue setting.Generate v ⊎ ((e : ArgError) × ValueFault setting.Generate v p e)
    count None is = inr (BadNumber p, (is, refl))
    count (Some n) is = inl (n, is)
value_or_fault setting.Replace v p = object (replaced_object v) refl
  where
    object : (o : Option ℕ) → replaced_object v ≡ o → IsSoundValue setting.Replace v ⊎ ((e : ArgError) × ValueFault setting.Replace v p e)
    object None is = inr (BadNumber p, (is, refl))
    object (Some n) is = inl (n, is)

-- ---- an item

value_item : (words : List (List ℕ)) (at : ℕ) (s : Setting) (v : List ℕ) (p : ValuePlace) → HasValue words at s v p → p.word < length words → IsSoundValue s v ⊎ ((e : ArgError) × ValueFault s v p.word e) → ItemOrFault words at
value_item words at s v p has within (inl sound) = inl (Set s v p, p.word + 1, (has, sound, refl), omega (arith, within))
value_item words at s v p has within (inr (e, fault)) = inr (e, unsound s v p has fault)

with_next : (words : List (List ℕ)) (at : ℕ) (s : Setting) → NamesOption words at (Value s) None → (o : Option (List ℕ)) → slice_get words (at + 1) ≡ o → ItemOrFault words at
with_next words at s named None last = inr (MissingValue at, lacking (record { setting = s; named = named; last = last }) refl)
with_next words at s named (Some v) next = value_item words at s v (word_place (at + 1)) (parted named next refl) (slice_get_within words (at + 1) v next) (value_or_fault s v (at + 1))

with_option : (words : List (List ℕ)) (at : ℕ) (t : OptionKind) (behind : Option (List ℕ)) → at < length words → NamesOption words at t behind → ItemOrFault words at
with_option words at (Nothing flag) None within named = inl (Given flag, at + 1, (named, refl), omega (arith, within))
with_option words at (Nothing flag) (Some value) within named = inr (UnknownOption at, unknown (valued flag value named) refl)
with_option words at (Value s) None within named = with_next words at s named (slice_get words (at + 1)) refl
with_option words at (Value s) (Some value) within named = value_item words at s value (joined_place at) (joined named refl) within (value_or_fault s value at)
with_option words at (OptionalValue option) behind within named = inl (Memory option behind, at + 1, (named, refl), omega (arith, within))

with_word : (words : List (List ℕ)) (at : ℕ) (word : List ℕ) → slice_get words at ≡ Some word → (dashed : Bool) → is_option word ≡ dashed → (t : Option OptionKind) → taken_by (front_of word) ≡ t → ItemOrFault words at
with_word words at word here false plain t named = inl (Object at, at + 1, (record { word = word; here = here; plain = plain }, refl, refl), omega (arith, slice_get_within words at word here))
with_word words at word here true dashed None none = inr (UnknownOption at, unknown (unnamed word here dashed none) refl)
with_word words at word here true dashed (Some t) named = with_option words at t (value_of word) (slice_get_within words at word here) (record { word = word; here = here; dashed = dashed; named = named; value = refl })

item_or_fault : (words : List (List ℕ)) (at : ℕ) → at < length words → ItemOrFault words at
item_or_fault words at within = elim (slice_get_cases words at).1 [
  | inl (word, inside, here, is) ↦ with_word words at word here (is_option word) refl (taken_by (front_of word)) refl
  | inr (past, none) ↦ absurd (omega (arith, within, past))
]

-- ---- the mode

-- where no item stands, the words end
alone_or_other : (words : List (List ℕ)) (at : ℕ) (before : Option ModeName) (s : Setting) (behind : Option (List ℕ)) (e : ArgError) → NamesOption words at (Value s) behind → ItemFault words at e → KeepsMode before (mode_in (Value s)) ⊎ (KeepsMode before (mode_in (Value s)) → ⊥) → (f : ArgError) × StopFault words at before f
alone_or_other words at before s behind e named fault (inl keeps) = (e, alone (keeps_no_other words at before (Value s) behind named keeps) fault)
alone_or_other words at before s behind e named fault (inr differs) = (TwoModes at, other (with_value s behind named differs) refl)

stop_of : (words : List (List ℕ)) (at : ℕ) (before : Option ModeName) (e : ArgError) → ItemFault words at e → (f : ArgError) × StopFault words at before f
stop_of words at before e (unknown (unnamed word here dashed none) is) = (e, alone (unnamed_no_other words at before word here none) (unknown (unnamed word here dashed none) is))
stop_of words at before e (unknown (valued flag value named) is) = (e, alone (valued_no_other words at before flag value named) (unknown (valued flag value named) is))
stop_of words at before e (lacking fault is) = alone_or_other words at before fault.setting None e fault.named (lacking fault is) (keeps_or_other before (mode_in (Value fault.setting)))
stop_of words at before e (unsound s v p has fault) =
    let o = value_option words at s v p has in
    alone_or_other words at before s o.0 e o.1 (unsound s v p has fault) (keeps_or_other before (mode_in (Value s)))

-- ---- the words

-- items up to the end, or up to a word at which they end
abbrev pub ItemsOrFault : List (List ℕ) → ℕ → Option ModeName → Type 0
ItemsOrFault words at before = ((items : List ArgItem) × AreArgItems words at before items (length words)) ⊎ ((items : List ArgItem) × (stop : ℕ) × (e : ArgError) × AreArgItems words at before items stop × StopFault words stop (mode_after before items) e)

-- one item first
item_before : (words : List (List ℕ)) (at : ℕ) (before : Option ModeName) (item : ArgItem) (next : ℕ) → StandsAtWord words at item next → KeepsMode before (mode_of_item item) → ItemsOrFault words next (option_or (mode_of_item item) before) → ItemsOrFault words at before
item_before words at before item next h keeps (inl (items, rest)) = inl (item ∷ items, (next, h, keeps, rest))
item_before words at before item next h keeps (inr (items, stop, e, rest, fault)) = inr (item ∷ items, stop, e, (next, h, keeps, rest), fault)

-- a word at which the items end
ends_here : (words : List (List ℕ)) (at : ℕ) (before : Option ModeName) → (e : ArgError) × StopFault words at before e → ItemsOrFault words at before
ends_here words at before (e, fault) = inr ([], at, e, refl, fault)

-- by the number of words that are left
pub items_or_fault : (left : ℕ) (words : List (List ℕ)) (at : ℕ) (before : Option ModeName) → at ≤ length words → length words ≤ at + left → ItemsOrFault words at before
items_or_fault zero words at before within enough = inl ([], omega (arith, within, enough))
items_or_fault (suc left) words at before within enough = elim (eq-or-lt_of_le within) [
  | inl end ↦ inl ([], end)
  | inr more ↦ elim (item_or_fault words at more) [
    | inl (item, next, h, inside) ↦ elim (keeps_or_other before (mode_of_item item)) [
      | inl keeps ↦ item_before words at before item next h keeps (items_or_fault left words next (option_or (mode_of_item item) before) inside (omega (arith, enough, stands_on words at item next h)))
      | inr differs ↦ ends_here words at before (TwoModes at, other (other_of_item words at before item next h differs) refl)
    ]
    | inr (e, fault) ↦ ends_here words at before (stop_of words at before e fault)
  ]
]
