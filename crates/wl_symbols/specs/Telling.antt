-- What names stand for, found from the symbols that bear each of them.
use Rattle.std.specs.Prelude.{◌≡◌, ℕ, ◌+◌, List, [], ◌∷◌, ◌++◌, length, Option, if◌then◌else◌, MatchOption}
use Rattle.std.specs.List.{list_any}
use Rattle.wl_linking.specs.Object.{Object}
use Rattle.wl_symbols.specs.Entries.{Entry, entries_of, firsts_of}
use Rattle.wl_symbols.specs.Repeats.{Pair}
use Rattle.wl_symbols.specs.Adding.{no_firsts, NoneRepeats, AreTwo}
use Rattle.wl_symbols.specs.Bearers.{is_named, Lists}
use Rattle.wl_symbols.specs.declared.bearers.Bearer.{Bearer}
use Rattle.wl_symbols.specs.declared.entry.Firsts.{Firsts}

-- how many names these entries have that none before them has
abbrev pub new_names : List Entry → List Entry → ℕ
new_names before [] = 0
new_names before (e ∷ entries) =
    (if list_any (is_named e.name) before then 0 else 1) + new_names (before ++ e ∷ []) entries

-- how many names these entries have
abbrev pub name_count : List Entry → ℕ
name_count entries = new_names [] entries

-- for each name of the entries before there are the first symbols of all, and none of them repeats
-- a strong name
pub record IsTold (all before : List Entry) (found : List ℕ → Firsts) : Type 0 where
  pub names : (name : List ℕ) → found name
      ≡ (if list_any (is_named name) before then firsts_of name all else no_firsts)
  pub clear : NoneRepeats before

-- the entries are taken after those before, in so many steps, or the first repeat is found
abbrev pub Tells : (List ℕ → Option (List Bearer)) → (List ℕ → Firsts) → (List ℕ → Firsts)
    → List Entry → ℕ → ℕ → Option Pair → Type 0
Tells lists old new entries old_steps steps told =
    (objects : List Object) (before back : List Entry) → Lists lists (entries_of 0 objects)
    → before ++ (entries ++ back) ≡ entries_of 0 objects
    → IsTold (entries_of 0 objects) before old
    → MatchOption told
    (IsTold (entries_of 0 objects) (before ++ entries) new
    × (steps ≡ old_steps + length entries + new_names before entries))
    (AreTwo (entries_of 0 objects))
