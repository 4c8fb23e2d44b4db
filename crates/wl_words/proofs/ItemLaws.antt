-- Items one after the other.
use Rattle.std.proofs.Common.{rules, ℕ, ◌≡◌, ◌<◌, ◌≤◌, List, [], ◌∷◌, ◌++◌, Option, refl, sym, ap, subst, arith, All}
use Rattle.std.specs.Option.{option_or}
use Rattle.std.specs.List.{filter_map}
use Rattle.std.proofs.lemmas.List.Elements.{All-cons}
use Rattle.wl_words.specs.Items.{ArgItem, Object, Given, Set, Memory, StandsAtWord, AreArgItems, HasValue, joined, parted, mode_of_item, mode_after}
use Rattle.wl_words.specs.Modes.{KeepsMode}
use Rattle.wl_words.specs.declared.modes.ModeName.{ModeName}
use Rattle.wl_words.specs.declared.modes.ValuePlace.{ValuePlace}
use Rattle.wl_words.specs.Args.{input_of}
use Rattle.wl_words.specs.declared.options.Setting.{Setting}

-- the value of an option stands at its word, or after it
pub value_from : (words : List (List ℕ)) (at : ℕ) (setting : Setting) (value : List ℕ) (place : ValuePlace) → HasValue words at setting value place → at ≤ place.word
value_from words at setting value place (joined h is) = omega (arith, ap (λ (p : ValuePlace). p.word) is)
value_from words at setting value place (parted h next is) = omega (arith, ap (λ (p : ValuePlace). p.word) is)

-- the next item follows
pub stands_on : (words : List (List ℕ)) (at : ℕ) (item : ArgItem) (next : ℕ) → StandsAtWord words at item next → at < next
stands_on words at (Object place) next h = omega (arith, h.2)
stands_on words at (Given flag) next h = omega (arith, h.1)
stands_on words at (Set setting value place) next h = omega (arith, value_from words at setting value place h.0, h.2)
stands_on words at (Memory option value) next h = omega (arith, h.1)

-- one more item
pub items_more : (words : List (List ℕ)) (at : ℕ) (before : Option ModeName) (items : List ArgItem) (item : ArgItem) (middle end : ℕ) → AreArgItems words at before items middle → StandsAtWord words middle item end → KeepsMode (mode_after before items) (mode_of_item item) → AreArgItems words at before (items ++ item ∷ []) end
items_more words at before [] item middle end is h keeps = (end, subst (λ (n : ℕ). StandsAtWord words n item end) (sym is) h, keeps, refl)
items_more words at before (x ∷ items) item middle end (next, first, kept, rest) h keeps = (next, first, kept, items_more words next (option_or (mode_of_item x) before) items item middle end rest h keeps)

-- the mode after one more item
pub after_more : (before : Option ModeName) (items : List ArgItem) (item : ArgItem) → mode_after before (items ++ item ∷ []) ≡ option_or (mode_of_item item) (mode_after before items)
after_more before [] item = refl
after_more before (x ∷ items) item = after_more (option_or (mode_of_item x) before) items item

-- the end doesn't stand before the start
pub items_on : (words : List (List ℕ)) (at : ℕ) (before : Option ModeName) (items : List ArgItem) (end : ℕ) → AreArgItems words at before items end → at ≤ end
items_on words at before [] end h = omega (arith, h)
items_on words at before (item ∷ items) end (next, first, kept, rest) = omega (arith, stands_on words at item next first, items_on words next _ items end rest)

-- what names an object stands before the end
pub inputs_below : (words : List (List ℕ)) (at : ℕ) (before : Option ModeName) (items : List ArgItem) (end : ℕ) → AreArgItems words at before items end → All (λ i. i < end) (filter_map input_of items)
inputs_below words at before [] end h = search rules
inputs_below words at before (Object place ∷ items) end (next, first, kept, rest) =
    All-cons (λ i. i < end) place _ (omega (arith, first.1, first.2, items_on words next _ items end rest)) (inputs_below words next _ items end rest)
inputs_below words at before (Given flag ∷ items) end (next, first, kept, rest) = inputs_below words next _ items end rest
inputs_below words at before (Set setting value place ∷ items) end (next, first, kept, rest) = inputs_below words next _ items end rest
inputs_below words at before (Memory option value ∷ items) end (next, first, kept, rest) = inputs_below words next _ items end rest
