-- Going through the imports of an object for the types of slots that are left to the host.
use Rattle.std.proofs.Common.{◌≡◌, ◌∙◌, ℕ, ◌+◌, ◌<◌, ◌≤◌, Bool, true, false, List, [], ◌∷◌, Option, Some, None, length, map, sym, ap, get_or, drop, slice_get, if◌then◌else◌}
use Rattle.std.specs.Option.{option_map_or}
use Rattle.std.proofs.lemmas.List.{drop_all}
use Rattle.wl_module.specs.Imports.{Imported}
use Rattle.wl_linking.specs.Object.{Object}
use Rattle.wl_custom.specs.Symbols.{Symbol}
use Rattle.wl_custom.specs.declared.symbols.WasmSymbolKind.TheVariants.{Func}
use Rattle.wl_symbols.specs.ImportSlots.{is_slot_of, slot_imports, numbered_slots, object_slots}
use Rattle.wl_symbols.specs.Input.{Input}
use Rattle.wl_bind.specs.FunctionTypes.{type_number}
use Rattle.wl_bind.specs.steps.Merging.{mark, mark_all, host_type, host_types}
use Rattle.wl_bind.specs.steps.Shared.{is_host_at}
use Rattle.wl_bind.proofs.ListLaws.{drop_here}
use Rattle.wl_bind.proofs.WalkLaws.{slots_here, slots_behind}

-- the types of the slots that these imports have, the first of which has that number
abbrev pub types_left : Input → ℕ → List Symbol → ℕ → List Imported → List (Option ℕ)
types_left input object symbols n imports = map (host_type input) (numbered_slots object Func symbols n (slot_imports Func imports))

-- before the first import
pub all_left : (input : Input) (object : ℕ) (o : Object) (items : List Imported) → slice_get input.link.objects object ≡ Some o → items ≡ o.imports
    → types_left input object o.symbols 0 items ≡ host_types input object
all_left input object o items here is =
    ap (types_left input object o.symbols 0) is
    ∙ ap (λ (x : Option Object). map (host_type input) (option_map_or (object_slots object Func) x [])) (sym here)

module _ (input : Input) (object : ℕ) (symbols : List Symbol) (items : List Imported) (k n m : ℕ) (i : Imported) (old new all : List Bool) where
  -- an import that has a slot
  pub host_marked : k < length items → i ≡ get_or items k i → is_slot_of Func i.entity ≡ true → m ≡ n + 1
      → new ≡ mark old (if is_host_at input Func object n then type_number i.entity else None)
      → mark_all old (types_left input object symbols n (drop k items)) ≡ all
      → mark_all new (types_left input object symbols m (drop (k + 1) items)) ≡ all
  host_marked lt at so next is rest =
      let slots : slot_imports Func (drop k items) ≡ i ∷ slot_imports Func (drop (k + 1) items) =
      ap (slot_imports Func) (drop_here items k i lt at) ∙ slots_here Func i (drop (k + 1) items) so in
      rw (next, is)
      (ap (λ (is : List Imported). mark_all old (map (host_type input) (numbered_slots object Func symbols n is))) (sym slots) ∙ rest)

  -- another import
  pub other_passed : k < length items → i ≡ get_or items k i → is_slot_of Func i.entity ≡ false → m ≡ n → new ≡ old
      → mark_all old (types_left input object symbols n (drop k items)) ≡ all
      → mark_all new (types_left input object symbols m (drop (k + 1) items)) ≡ all
  other_passed lt at so next is rest =
      let slots : slot_imports Func (drop k items) ≡ slot_imports Func (drop (k + 1) items) =
      ap (slot_imports Func) (drop_here items k i lt at) ∙ slots_behind Func i (drop (k + 1) items) so in
      rw (next, is)
      (ap (λ (is : List Imported). mark_all old (map (host_type input) (numbered_slots object Func symbols n is))) (sym slots) ∙ rest)

-- behind the last import
pub types_done : (input : Input) (object : ℕ) (symbols : List Symbol) (items : List Imported) (k n : ℕ) (marks all : List Bool) → length items ≤ k
    → mark_all marks (types_left input object symbols n (drop k items)) ≡ all → marks ≡ all
types_done input object symbols items k n marks all past rest =
    ap (λ (is : List Imported). mark_all marks (types_left input object symbols n is)) (sym (drop_all k items past)) ∙ rest
