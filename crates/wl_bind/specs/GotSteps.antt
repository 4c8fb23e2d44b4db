-- Keys with names, each key once: how the two lists of the GOT are built and searched.
use Rattle.std.specs.Prelude.{◌≡◌, ◌==◌, ◌&&◌, ℕ, Bool, not, List, [], ◌∷◌, ◌++◌, fold, length, position, Option, None, Some, bytes_eq, if◌then◌else◌}
use Rattle.std.specs.HashMap.{HashMap, get_by}
use Rattle.std.specs.List.{list_any}
use denote.Ref.{Bor}
use Rattle.indexmap.specs.IndexSet.{insert_key}
use Rattle.wl_symbols.specs.declared.entry.Definition.{Definition}
use Rattle.wl_symbols.specs.Input.{Input}
use Rattle.wl_bind.specs.Scan.{Named, got_mem_entry, got_func_entry}
use Rattle.wl_bind.specs.Sameness.{same_definition, same_pair}
use Rattle.wl_bind.specs.declared.binding.FunctionTarget.{FunctionTarget}

-- ---- keys with names

-- a key with its name
abbrev pub named : {K : Type 0} → K × Bor (List ℕ) → Named K
named e = record { key = e.0; name = e.1.now }

-- the name is the one that is wanted; nothing has an empty one
abbrev pub is_name : List ℕ → List ℕ → Bool
is_name wanted name = not (length wanted == 0) && bytes_eq name wanted

-- the first place whose key has the name
abbrev pub place_named : {K : Type 0} → List (K × Bor (List ℕ)) → List ℕ → Option ℕ
place_named entries wanted = position (λ e. is_name wanted e.1.now) entries

-- the map has the first place of each name
abbrev pub ArePlaces : {K S : Type 0} → HashMap (Bor (List ℕ)) ℕ S → List (K × Bor (List ℕ))
    → Type 0
ArePlaces places entries =
    (wanted : List ℕ) → get_by (λ k. bytes_eq wanted k.now) places ≡ place_named entries wanted

-- the keys after one more, where there is one
abbrev pub insert_some : {K : Type 0} → (K → K → Bool) → List K → Option K → List K
insert_some eq keys None = keys
insert_some eq keys (Some key) = insert_key eq keys key

-- ---- entries of keys

module _ {K : Type 0} (eq : K → K → Bool) where
  -- the entries after one more, where there is one, unless the same key has one
  abbrev pub add_entry : List (Named K) → Option (Named K) → List (Named K)
  add_entry entries None = entries
  add_entry entries (Some e) =
      if list_any (λ (o : Named K). eq e.key o.key) entries then entries else entries ++ e ∷ []

  -- the entries after those of these keys, one by one
  abbrev pub insert_all_as : (K → Named K) → List (Named K) → List K → List (Named K)
  insert_all_as entry entries keys = fold (λ es k. add_entry es (Some (entry k))) entries keys

-- the GOT list of data with these definitions
abbrev pub with_all_mem : Input → List (Named Definition) → List Definition
    → List (Named Definition)
with_all_mem input = insert_all_as same_definition (got_mem_entry input)

-- the GOT list of functions with these definitions and functions
abbrev pub with_all_func : Input → List (Named (Definition × FunctionTarget))
    → List (Definition × FunctionTarget) → List (Named (Definition × FunctionTarget))
with_all_func input = insert_all_as same_pair (got_func_entry input)
