-- The symbols that objects know by a name, in the order of their objects and tables.
use Rattle.std.specs.Prelude.{ℕ, ◌+◌, Bool, true, false, not, ◌&&◌, ◌||◌, if◌then◌else◌, List, [], ◌∷◌, ◌++◌, length, sum_by, Option, slice_get, option_map, find}
use Rattle.std.specs.Option.{option_and_then}
use Rattle.std.specs.Str.{bytes_eq}
use Rattle.wl_custom.specs.Symbols.{Symbol as LinkedSymbol, is_undefined, is_weak, is_local, has_name}
use Rattle.wl_linking.specs.Object.{Object}
use Rattle.wl_symbols.specs.declared.entry.Place.{Place}
use Rattle.wl_symbols.specs.declared.entry.Firsts.{Firsts}
use Rattle.wl_symbols.specs.declared.entry.Strength.{Strength}
use Rattle.wl_symbols.specs.declared.entry.Strength.TheVariants.{Strong, Weak, Undefined}

-- ---- a symbol

-- how a symbol defines its name: not at all (UNDEFINED), or weakly (WEAK), or else strongly
-- (object file linking, version 2, "Symbol Table Subsection")
abbrev pub strength_of : LinkedSymbol → Strength
strength_of s = if is_undefined s then Undefined else (if is_weak s then Weak else Strong)

-- other objects don't know the symbol by a name: it is local, or has none
abbrev pub is_private : LinkedSymbol → Bool
is_private s = is_local s || not (has_name s)

-- the symbol of that number in the object of that number
abbrev pub symbol_in : List Object → ℕ → ℕ → Option LinkedSymbol
symbol_in objects object symbol =
    option_and_then (λ o. slice_get o.symbols symbol) (slice_get objects object)

-- how many symbols these objects have
abbrev pub symbol_count : List Object → ℕ
symbol_count objects = sum_by (λ o. length o.symbols) objects

-- ---- entries

-- a symbol that other objects know by its name
pub record Entry : Type 0 where
  pub name : List ℕ
  pub strength : Strength
  pub place : Place

-- the entry of a symbol
abbrev pub entry_for : ℕ → ℕ → LinkedSymbol → Entry
entry_for object k s =
    record {
      name = s.name;
      strength = strength_of s;
      place = record { object = object; symbol = k };
    }

-- its entry, where other objects know it
abbrev pub entries_at : ℕ → ℕ → LinkedSymbol → List Entry
entries_at object k s = if is_private s then [] else entry_for object k s ∷ []

-- the entries of an object's symbols, the first of which has number k
abbrev pub entries_from : ℕ → ℕ → List LinkedSymbol → List Entry
entries_from object k [] = []
entries_from object k (s ∷ symbols) = entries_at object k s ++ entries_from object (k + 1) symbols

-- the entries of these objects, object by object, the first of which has number i
abbrev pub entries_of : ℕ → List Object → List Entry
entries_of i [] = []
entries_of i (object ∷ objects) = entries_from i 0 object.symbols ++ entries_of (i + 1) objects

-- ---- the first of a name

-- both are the same
abbrev pub is_strength : Strength → Strength → Bool
is_strength Strong Strong = true
is_strength Weak Weak = true
is_strength Undefined Undefined = true
is_strength a b = false

-- the entry has the name and the strength
abbrev pub is_of : List ℕ → Strength → Entry → Bool
is_of name strength e = is_strength strength e.strength && bytes_eq e.name name

-- the first symbol of the name and strength
abbrev pub first_of : List ℕ → Strength → List Entry → Option Place
first_of name strength entries = option_map (λ e. e.place) (find (is_of name strength) entries)

-- the first symbol of the name, of each strength
abbrev pub firsts_of : List ℕ → List Entry → Firsts
firsts_of name entries = record {
  strong = first_of name Strong entries;
  weak = first_of name Weak entries;
  undefined = first_of name Undefined entries;
}
