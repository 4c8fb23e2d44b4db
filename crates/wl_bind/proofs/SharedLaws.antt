-- The host's slots and the places of their imports.
use Rattle.std.proofs.Common.{◌≡◌, ◌∙◌, ℕ, ◌&&◌, Bool, true, false, not, List, map, Option, Some, None, is_some, Contains, refl, sym, ap, inl, inr, slice_get, codes, if◌then◌else◌}
use Rattle.std.specs.Option.{option_or, option_map, option_map_or, is_none, unwrap_or}
use Rattle.std.specs.List.{position}
use Rattle.wl_linking.specs.Steps.{Clear, Refuses}
use Rattle.wl_linking.specs.declared.error.LinkError.{LinkError}
use Rattle.wl_custom.specs.declared.symbols.WasmSymbolKind.{WasmSymbolKind}
use Rattle.wl_custom.specs.declared.symbols.WasmSymbolKind.TheVariants.{Func, Global}
use Rattle.wl_symbols.specs.ImportSlots.{ImportSlot, import_slots}
use Rattle.wl_symbols.specs.SlotTargets.{slot_target}
use Rattle.wl_symbols.specs.Left.{HostImport, same_field, same_import, first_like, first_imports, first_slot, is_stub, place_of_name, place_of_import}
use Rattle.wl_symbols.specs.declared.targets.SlotTarget.{SlotTarget}
use Rattle.wl_symbols.specs.declared.targets.SlotTarget.TheVariants as slot
use Rattle.wl_symbols.specs.Input.{Input}
use Rattle.wl_symbols.specs.KeptSlots.{is_kept_slot}
use Rattle.wl_bind.specs.BindingSteps.{left_place}
use Rattle.wl_bind.specs.FunctionBinding.{left_functions, link_stubs, host_functions, named_function}
use Rattle.wl_bind.specs.GlobalBinding.{host_globals, named_global, is_called, is_from, by_got}
use Rattle.wl_bind.specs.steps.GlobalSlots.{left_global_place}
use Rattle.wl_bind.specs.Scan.{got_mem, got_func, scan_of}
use Rattle.wl_symbols.specs.declared.entry.Definition.{Definition}
use Rattle.wl_bind.specs.Conflicts.{IsConflict, IsHostConflict}
use Rattle.wl_bind.specs.Undefined.{is_host_function, is_host_global, is_host_slot}
use Rattle.wl_bind.specs.FunctionSymbols.{function_bindings}
use Rattle.wl_bind.specs.Bound.{Bound, bound_of}
use Rattle.wl_bind.specs.FunctionTypes.{stub_types}
use Rattle.wl_bind.specs.Resolutions.{resolutions, by_all_rules}
use Rattle.wl_bind.specs.Shared.{import_place, shared_of}
use Rattle.wl_bind.specs.steps.Shared.{is_host_at, is_host_of}
use Rattle.wl_bind.specs.declared.binding.FunctionTarget.{FunctionTarget}
use Rattle.wl_bind.specs.declared.binding.FunctionTarget.TheVariants as function
use Rattle.wl_bind.specs.declared.binding.GlobalTarget.TheVariants as global
use Rattle.wl_bind.proofs.StubLaws.{StubsAreTold, binds as binds_by_stub}
use Rattle.wl_bind.proofs.GlobalLaws.{left_by_lists, binds as binds_by_got}
use Rattle.wl_bind.proofs.HostLaws.{placed}

-- ---- the slots of an object

-- the slot of a place is that of its numbers
pub host_here : (input : Input) (object : ℕ) (kind : WasmSymbolKind) (k : ℕ) (t : ImportSlot)
    → slice_get (import_slots input.link.objects object kind) k ≡ Some t → is_host_of input t ≡ is_host_slot input kind t
host_here input object kind k t here =
    let at = placed input.link.objects object kind k t here in
    ap (λ (kind : WasmSymbolKind). is_host_at input kind t.object t.number) at.kind_is
    ∙ (ap (λ (object : ℕ). is_host_at input kind object t.number) at.object_is
    ∙ (ap (λ (number : ℕ). is_host_at input kind object number) at.number_is
    ∙ ap (λ (found : Option ImportSlot). option_map_or (is_host_slot input kind) found false) here))

-- ---- the host's slots

-- neither by names nor as a stub
host_function_cases : (target : Option SlotTarget) (stub : Bool) (a b c d : ℕ)
    → is_host_function (unwrap_or (option_or (option_map named_function target) (if stub then Some (function.Stub a b) else None)) (function.Host c d))
    ≡ (is_none target && not stub)
host_function_cases (Some (slot.Defined object number)) stub a b c d = refl
host_function_cases None true a b c d = refl
host_function_cases _ _ a b c d = refl

-- neither by names nor by the GOT lists
host_global_cases : (target : Option SlotTarget) (mem func : Bool) (m f : Option ℕ) (c d : ℕ)
    → is_host_global (unwrap_or (option_or (option_map named_global target)
    (if mem then option_map global.GotMem m else if func then option_map global.GotFunc f else None)) (global.Host c d))
    ≡ (is_none target && is_none (if mem then option_map global.GotMem m else if func then option_map global.GotFunc f else None))
host_global_cases (Some (slot.Defined object number)) mem func m f c d = refl
host_global_cases None true func (Some k) f c d = refl
host_global_cases None false true m (Some k) c d = refl
host_global_cases _ _ _ _ _ c d = refl

-- the first slot of a slot's stub, and that of its import
abbrev stub_of : Input → ImportSlot → ImportSlot
stub_of input t = first_like same_field (link_stubs input) t

abbrev host_of : List ImportSlot → ImportSlot → ImportSlot
host_of slots t = first_like same_import (first_imports slots) t

pub is_function : (input : Input) (t : ImportSlot)
    → is_host_slot input Func t
    ≡ (is_kept_slot input t && (is_none (slot_target input.link t) && not (is_stub input.link.objects (left_functions input) t)))
is_function input t =
    ap (λ (host : Bool). is_kept_slot input t && host)
    (ap is_host_function (binds_by_stub input t (slot_target input.link t) refl)
    ∙ host_function_cases (slot_target input.link t) (is_stub input.link.objects (left_functions input) t)
    (stub_of input t).object (stub_of input t).number (host_of (host_functions input) t).object (host_of (host_functions input) t).number)

pub is_global : (input : Input) (t : ImportSlot)
    → is_host_slot input Global t ≡ (is_kept_slot input t && (is_none (slot_target input.link t) && is_none (by_got input t)))
is_global input t =
    ap (λ (host : Bool). is_kept_slot input t && host)
    (ap is_host_global (binds_by_got input t (slot_target input.link t) refl)
    ∙ host_global_cases (slot_target input.link t) (is_from (codes "GOT.mem") t) (is_from (codes "GOT.func") t)
    (position (is_called input t.item.name) (got_mem input))
    (position (λ (p : Definition × FunctionTarget). is_called input t.item.name p.0) (got_func input))
    (host_of (host_globals input) t).object (host_of (host_globals input) t).number)

-- ---- places

by_place : {X : Type 0} (stub : Bool) (place : Option ℕ) (p : Option X) → stub ≡ is_some place
    → option_map_or (λ k. None) place p ≡ (if not stub then p else None)
by_place true None p is = absurd cc
by_place false None p is = refl
by_place true (Some k) p is = refl
by_place false (Some k) p is = absurd cc

-- the place of a kept function slot that names leave
pub left_placed : (input : Input) (hosts : List HostImport) (t : ImportSlot) → StubsAreTold input → Contains (left_functions input) t
    → is_kept_slot input t ≡ true → slot_target input.link t ≡ None
    → left_place (map first_slot (link_stubs input)) hosts t ≡ import_place input Func hosts t
left_placed input hosts t told left kept none =
    let host : is_host_slot input Func t ≡ not (is_stub input.link.objects (left_functions input) t) = is_function input t ∙ rw (kept, none) refl in
    let place = place_of_import t.item.origin t.item.name hosts in
    by_place (is_stub input.link.objects (left_functions input) t) (place_of_name t.item.name (map first_slot (link_stubs input))) place (told t left)
    ∙ ap (λ (h : Bool). if h then place else None) (sym host)

-- the place of a kept global slot that names leave
pub left_global_placed : (input : Input) (hosts : List HostImport) (t : ImportSlot) → is_kept_slot input t ≡ true → slot_target input.link t ≡ None
    → left_global_place (scan_of input) hosts t ≡ import_place input Global hosts t
left_global_placed input hosts t kept none =
    let host : is_host_slot input Global t ≡ is_none (by_got input t) = is_global input t ∙ rw (kept, none) refl in
    let place = place_of_import t.item.origin t.item.name hosts in
    ap (λ (h : Bool). if h then place else None) (left_by_lists input t ∙ sym host)

-- what has the parts of what references are bound to is that
pub all_bound : (input : Input) (b : Bound) → b.functions ≡ function_bindings input → b.resolutions ≡ resolutions input (by_all_rules input) → b.scan ≡ scan_of input
    → b.stubs ≡ stub_types input → b.shared ≡ shared_of input → b ≡ bound_of input
all_bound input b functions rows scan stubs shared = λ i. record { functions = functions i; resolutions = rows i; scan = scan i; stubs = stubs i; shared = shared i }

-- ---- conflicts

pub no_conflict : (input : Input) → Clear (IsConflict input.link.objects same_import (host_functions input))
    → Clear (IsConflict input.link.objects same_import (host_globals input)) → Clear (IsHostConflict input)
no_conflict input functions globals = record {
  none = λ (e : LinkError) (h : IsHostConflict input e). elim h [ inl f ↦ functions.none e f | inr g ↦ globals.none e g ];
}

pub function_conflict : (input : Input) (e : LinkError) → Refuses (IsConflict input.link.objects same_import (host_functions input)) e → Refuses (IsHostConflict input) e
function_conflict input e h = record { cause_is = λ other. inl (h.cause_is other) }

pub global_conflict : (input : Input) (e : LinkError) → Refuses (IsConflict input.link.objects same_import (host_globals input)) e → Refuses (IsHostConflict input) e
global_conflict input e h = record { cause_is = λ other. inr (h.cause_is other) }
