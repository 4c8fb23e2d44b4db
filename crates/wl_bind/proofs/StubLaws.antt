-- Function slots with what they are resolved to, and the rows of resolutions.
use Rattle.std.proofs.Common.{◌≡◌, ◌⊎◌, ◌∙◌, inl, inr, arith, length, ℕ, ◌+◌, Bool, true, false, List, [], ◌∷◌, map, Option, Some, None, is_some, Contains, refl, sym, ap, if◌then◌else◌, unwrap_or}
use Rattle.std.specs.List.{position}
use Rattle.std.specs.Option.{option_or, option_map, option_map_or, is_none}
use Rattle.std.specs.Str.{bytes_eq}
use Rattle.wl_linking.specs.Object.{Object}
use Rattle.wl_custom.specs.declared.symbols.WasmSymbolKind.TheVariants.{Func, Global}
use Rattle.wl_symbols.specs.ImportSlots.{ImportSlot, object_slots}
use Rattle.wl_symbols.specs.SlotTargets.{by_definition, by_symbol_name, by_field_name, slot_target}
use Rattle.wl_symbols.specs.Left.{HostImport, same_field, first_like, is_stub, first_slot, place_of_name}
use Rattle.wl_symbols.specs.declared.targets.SlotTarget.{SlotTarget}
use Rattle.wl_symbols.specs.declared.targets.SlotTarget.TheVariants as slot
use Rattle.wl_symbols.specs.Input.{Input}
use Rattle.wl_symbols.specs.KeptSlots.{slots_from, is_kept_slot, kept_slots}
use Rattle.wl_bind.specs.FunctionBinding.{left_functions, link_stubs, named_function, by_stub, by_host, binds_function}
use Rattle.wl_bind.specs.Resolutions.{resolved, as_function, function_resolution, global_resolution, rows_from, by_names_and_got, by_all_rules, resolutions}
use Rattle.wl_bind.specs.Stepped.{stepped}
use Rattle.wl_bind.specs.Later.{with_functions}
use Rattle.wl_bind.specs.BindingSteps.{left_resolution}
use Rattle.wl_bind.specs.SlotRows.{slot_rows}
use Rattle.wl_bind.specs.steps.SlotRows.{joined_rows}
use Rattle.wl_bind.specs.declared.binding.FunctionTarget.{FunctionTarget}
use Rattle.wl_bind.specs.declared.binding.FunctionTarget.TheVariants as function
use Rattle.wl_bind.specs.declared.resolution.ImportResolution.{ImportResolution}
use Rattle.wl_bind.specs.declared.resolution.ImportResolution.TheVariants.{Unresolved, WeakUndefStub}
use Rattle.wl_bind.specs.declared.resolution.ObjectImportResolutions.{ObjectImportResolutions}
use Rattle.wl_lists.proofs.In.{Contains-filter}
use Rattle.wl_bind.proofs.ResolvingLaws.{mapped_position, joined}

-- the resolutions of an object
abbrev the_row : List ImportResolution → List ImportResolution → ObjectImportResolutions
the_row functions globals = record { function_resolutions = functions; global_resolutions = globals }

-- a slot is a stub's exactly where its field name has a place among the stubs
abbrev pub StubsAreTold : Input → Type 0
StubsAreTold input = (t : ImportSlot) → Contains (left_functions input) t
    → is_stub input.link.objects (left_functions input) t
    ≡ is_some (place_of_name t.item.name (map first_slot (link_stubs input)))

-- ---- by names, or later

-- what a slot is bound to by what names bind it to
pub binds : (input : Input) (t : ImportSlot) (target : Option SlotTarget) → slot_target input.link t ≡ target
    → binds_function input t ≡ unwrap_or (option_or (option_map named_function target) (by_stub input t)) (by_host input t)
binds input t target is =
    ap (λ (g : Option FunctionTarget). unwrap_or g (by_host input t))
    (joined named_function (by_definition input.link t) (by_symbol_name input.link t) (by_field_name input.link t) (by_stub input t)
    ∙ ap (λ (s : Option SlotTarget). option_or (option_map named_function s) (by_stub input t)) is)

-- ---- stubs

-- the place of a stub, or nothing
stub_or_none : (input : Input) (t : ImportSlot) (stub : Bool) (place : Option ℕ) (first : ImportSlot) → stub ≡ is_some place
    → position (same_field t) (link_stubs input) ≡ place
    → option_map_or (λ k. WeakUndefStub k) place Unresolved
    ≡ as_function input t (unwrap_or (if stub then Some (function.Stub first.object first.number) else None) (by_host input t))
stub_or_none input t true None first is at = absurd cc
stub_or_none input t false None first is at = refl
stub_or_none input t true (Some k) first is at = ap (λ (p : Option ℕ). WeakUndefStub (unwrap_or p 0)) (sym at)
stub_or_none input t false (Some k) first is at = absurd cc

-- what such a slot is resolved to is what it is bound to, or nothing
pub left_is : (input : Input) (t : ImportSlot) → StubsAreTold input → Contains (left_functions input) t
    → left_resolution (map first_slot (link_stubs input)) t ≡ as_function input t (unwrap_or (by_stub input t) (by_host input t))
left_is input t told left =
    stub_or_none input t (is_stub input.link.objects (left_functions input) t) (place_of_name t.item.name (map first_slot (link_stubs input)))
    (first_like same_field (link_stubs input) t) (told t left)
    (sym (mapped_position first_slot (λ (h : HostImport). bytes_eq t.item.name h.name) (same_field t) (λ u. refl) (link_stubs input)))

-- ---- a slot

-- a kept slot that names leave is one of those
pub is_left : (input : Input) (t : ImportSlot) → Contains (slots_from Func 0 input.link.objects) t → is_kept_slot input t ≡ true
    → slot_target input.link t ≡ None → Contains (left_functions input) t
is_left input t one kept none =
    Contains-filter (λ (u : ImportSlot). is_none (slot_target input.link u)) (kept_slots input Func) t
    (Contains-filter (is_kept_slot input) (slots_from Func 0 input.link.objects) t one kept)
    (ap is_none none)

-- a kept slot that names leave is resolved by its stub
pub left_resolved : (input : Input) (t : ImportSlot) → StubsAreTold input → Contains (slots_from Func 0 input.link.objects) t → is_kept_slot input t ≡ true
    → slot_target input.link t ≡ None → left_resolution (map first_slot (link_stubs input)) t ≡ function_resolution input t
left_resolved input t told one kept none =
    let bound : as_function input t (unwrap_or (by_stub input t) (by_host input t)) ≡ as_function input t (binds_function input t) = ap (as_function input t) (sym (binds input t None none)) in
    let whole : function_resolution input t ≡ as_function input t (binds_function input t) = ap (λ (k : Bool). if k then as_function input t (binds_function input t) else Unresolved) kept in
    left_is input t told (is_left input t one kept none) ∙ bound ∙ sym whole

resolved_is : (input : Input) (t : ImportSlot) (target : SlotTarget) → resolved input Func target ≡ as_function input t (named_function target)
resolved_is input t (slot.Defined object number) = refl
resolved_is input t (slot.Made m) = refl

-- a kept slot that names bind is resolved to what they bind it to
pub named_resolved : (input : Input) (t : ImportSlot) (target : SlotTarget) → is_kept_slot input t ≡ true
    → slot_target input.link t ≡ Some target → resolved input Func target ≡ function_resolution input t
named_resolved input t target kept some =
    let whole : function_resolution input t ≡ as_function input t (binds_function input t) = ap (λ (k : Bool). if k then as_function input t (binds_function input t) else Unresolved) kept in
    resolved_is input t target ∙ ap (as_function input t) (sym (binds input t (Some target) some)) ∙ sym whole

-- ---- the rows of resolutions

set_rows : (input : Input) (n : ℕ) (os : List Object)
    → stepped with_functions n (slot_rows (function_resolution input) Func n os) (rows_from (by_names_and_got input) n os) ≡ rows_from (by_all_rules input) n os
set_rows input n [] = refl
set_rows input n (o ∷ os) =
    ap (λ (rows : List ObjectImportResolutions). the_row (map (function_resolution input) (object_slots n Func o)) (map (global_resolution input) (object_slots n Global o)) ∷ rows)
    (set_rows input (n + 1) os)

-- rows that names and the GOT lists resolve, with what all rules make of function slots
pub stubbed : (input : Input) (functions : List (List ImportResolution)) (old new : List ObjectImportResolutions)
    → functions ≡ slot_rows (function_resolution input) Func 0 input.link.objects
    → old ≡ resolutions input (by_names_and_got input) → new ≡ stepped with_functions 0 functions old
    → new ≡ resolutions input (by_all_rules input)
stubbed input functions old new fs were are = rw (are, fs, were) (set_rows input 0 input.link.objects)

-- no row follows where one of the lists has ended
pub none_joined : (functions globals : List (List ImportResolution)) → (length functions ≡ 0) ⊎ (length globals ≡ 0) → joined_rows functions globals ≡ []
none_joined (fs ∷ functions) (gs ∷ globals) (inl none) = absurd (omega (arith, none))
none_joined (fs ∷ functions) (gs ∷ globals) (inr none) = absurd (omega (arith, none))
none_joined _ _ ended = refl

-- the rows of function slots and those of global slots, by all rules
joined_from : (input : Input) (n : ℕ) (os : List Object)
    → joined_rows (slot_rows (function_resolution input) Func n os) (slot_rows (global_resolution input) Global n os) ≡ rows_from (by_all_rules input) n os
joined_from input n [] = refl
joined_from input n (o ∷ os) =
    ap (λ (rows : List ObjectImportResolutions). the_row (map (function_resolution input) (object_slots n Func o)) (map (global_resolution input) (object_slots n Global o)) ∷ rows)
    (joined_from input (n + 1) os)

pub all_joined : (input : Input) (functions globals : List (List ImportResolution)) (rows : List ObjectImportResolutions)
    → functions ≡ slot_rows (function_resolution input) Func 0 input.link.objects
    → globals ≡ slot_rows (global_resolution input) Global 0 input.link.objects → rows ≡ joined_rows functions globals
    → rows ≡ resolutions input (by_all_rules input)
all_joined input functions globals rows fs gs are = rw (are, fs, gs) (joined_from input 0 input.link.objects)
