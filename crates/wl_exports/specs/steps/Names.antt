-- How names are taken.
use Rattle.std.specs.Prelude.{◌≡◌, ℕ, Bool, List, [], ◌∷◌, ◌++◌, if◌then◌else◌}
use Rattle.std.specs.Borrow.{Bor}
use Rattle.std.specs.HashSet.{HashSet, contains_by}
use Rattle.std.specs.List.{list_any}
use Rattle.std.specs.Str.{bytes_eq}
use Rattle.wl_module.specs.Exports.{Exported}

-- the set has the name
abbrev pub holds_name : {S : Type 0} → HashSet (Bor (List ℕ)) S → List ℕ → Bool
holds_name taken wanted = contains_by (λ (k : Bor (List ℕ)). bytes_eq wanted k.now) taken

-- one of the exports has the name
abbrev pub has_export : List ℕ → List Exported → Bool
has_export wanted exports = list_any (λ (x : Exported). bytes_eq wanted x.name) exports

-- the set has the names of these exports
abbrev pub HoldsNames : {S : Type 0} → HashSet (Bor (List ℕ)) S → List Exported → Type 0
HoldsNames taken exports = (wanted : List ℕ) → holds_name taken wanted ≡ has_export wanted exports

-- each of these whose name none before it has
abbrev pub untaken : List Exported → List Exported → List Exported
untaken before [] = []
untaken before (x ∷ exports) =
    (if has_export x.name before then [] else x ∷ []) ++ untaken (before ++ x ∷ []) exports
