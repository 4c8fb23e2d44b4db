-- For each name the symbols that bear it.
use Rattle.std.specs.Prelude.{◌≡◌, ℕ, Bool, List, [], ◌∷◌, map, Option, Some, None, option_map, find}
use Rattle.std.specs.List.{filter}
use Rattle.std.specs.Str.{bytes_eq}
use Rattle.std.specs.HashMap.{HashMap, get_by}
use denote.Ref.{Bor}
use Rattle.wl_symbols.specs.Entries.{Entry, is_strength}
use Rattle.wl_symbols.specs.declared.bearers.Bearer.{Bearer}
use Rattle.wl_symbols.specs.declared.entry.Place.{Place}
use Rattle.wl_symbols.specs.declared.entry.Firsts.{Firsts}
use Rattle.wl_symbols.specs.declared.entry.Strength.{Strength}
use Rattle.wl_symbols.specs.declared.entry.Strength.TheVariants.{Strong, Weak, Undefined}

-- ---- a list for each name

-- what a map has for a name
abbrev pub found_in : {S : Type 0} → HashMap (Bor (List ℕ)) (List Bearer) S → List ℕ
    → Option (List Bearer)
found_in m name = get_by (λ k. bytes_eq name k.now) m

-- the symbol of an entry
abbrev pub bearer_of : Entry → Bearer
bearer_of e = record { strength = e.strength; place = e.place }

-- the entry has the name
abbrev pub is_named : List ℕ → Entry → Bool
is_named name e = bytes_eq e.name name

-- the symbols of these that bear the name, in order
abbrev pub bearers : List ℕ → List Entry → List Bearer
bearers name entries = map bearer_of (filter (is_named name) entries)

-- a list is kept only where something is in it
abbrev pub if_some : List Bearer → Option (List Bearer)
if_some [] = None
if_some (b ∷ bs) = Some (b ∷ bs)

-- for each name there are exactly the symbols of these that bear it
abbrev pub Lists : (List ℕ → Option (List Bearer)) → List Entry → Type 0
Lists found entries = (name : List ℕ) → found name ≡ if_some (bearers name entries)

-- ---- what a name stands for

-- the first of that strength
abbrev pub first_among : Strength → List Bearer → Option Place
first_among strength bs =
    option_map (λ b. b.place) (find (λ (b : Bearer). is_strength strength b.strength) bs)

-- the first of each strength
abbrev pub firsts_among : List Bearer → Firsts
firsts_among bs = record {
  strong = first_among Strong bs;
  weak = first_among Weak bs;
  undefined = first_among Undefined bs;
}
