-- What names have, where the symbols of an object are exchanged.
use Rattle.std.specs.Prelude.{ℕ, nat_lt, List, [], ◌∷◌, ◌++◌, map, Option, unwrap_or, if◌then◌else◌}
use Rattle.std.specs.List.{filter}
use Rattle.std.specs.Str.{bytes_eq}
use Rattle.wl_symbols.specs.Entries.{Entry}
use Rattle.wl_symbols.specs.Bearers.{bearers, if_some}
use Rattle.wl_symbols.specs.declared.bearers.Bearer.{Bearer}

-- the symbols of earlier objects
abbrev pub bearers_before : ℕ → List Bearer → List Bearer
bearers_before object bs = filter (λ (b : Bearer). nat_lt b.place.object object) bs

-- the symbols of later objects
abbrev pub bearers_behind : ℕ → List Bearer → List Bearer
bearers_behind object bs = filter (λ (b : Bearer). nat_lt object b.place.object) bs

-- these symbols of an object in place of those that its number had
abbrev pub exchanged : ℕ → List Bearer → List Bearer → List Bearer
exchanged object added old = bearers_before object old ++ (added ++ bearers_behind object old)

-- what a name has from now on
pub record Change : Type 0 where
  pub name : List ℕ
  pub list : List Bearer

-- what the names of these entries have, where an object's entries become the new ones
abbrev pub changes_for : (List ℕ → Option (List Bearer)) → ℕ → List Entry → List Entry
    → List Change
changes_for found object new entries = map
    (λ (e : Entry). record {
      name = e.name;
      list = exchanged object (bearers e.name new) (unwrap_or (found e.name) []);
    })
    entries

-- what is found for a name after these: what the first that has it gives it, or what was found
abbrev pub changed : List Change → (List ℕ → Option (List Bearer)) → List ℕ
    → Option (List Bearer)
changed [] found name = found name
changed (c ∷ changes) found name =
    if bytes_eq c.name name then if_some c.list else changed changes found name
