-- Global slots with what names and the GOT lists resolve them to.
use Rattle.std.proofs.Common.{◌≡◌, ◌∙◌, ℕ, ◌+◌, ◌&&◌, Bool, true, false, List, [], ◌∷◌, map, Option, Some, None, refl, sym, ap, codes, if◌then◌else◌}
use Rattle.std.specs.List.{position}
use Rattle.std.specs.Option.{option_or, option_map, option_map_or, unwrap_or, is_none}
use Rattle.std.specs.Str.{bytes_eq}
use Rattle.wl_module.specs.Imports.{Imported}
use Rattle.wl_linking.specs.Object.{Object}
use Rattle.wl_custom.specs.Symbols.{Symbol as LinkedSymbol}
use Rattle.wl_custom.specs.declared.symbols.WasmSymbolKind.TheVariants.{Func, Global}
use Rattle.wl_symbols.specs.declared.entry.Definition.{Definition}
use Rattle.wl_symbols.specs.ImportSlots.{ImportSlot, slot_imports, slot_at, numbered_slots, object_slots}
use Rattle.wl_symbols.specs.SlotTargets.{by_definition, by_symbol_name, by_field_name, slot_target}
use Rattle.wl_symbols.specs.declared.targets.SlotTarget.{SlotTarget}
use Rattle.wl_symbols.specs.declared.targets.SlotTarget.TheVariants as slot
use Rattle.wl_symbols.specs.Input.{Input, keeps_slot}
use Rattle.wl_bind.specs.Scan.{Named, got_mem, got_func, got_mem_entry, got_func_entry, scan_of}
use Rattle.wl_bind.specs.GlobalBinding.{named_global, is_called, is_from, by_got, by_host, binds_global, host_globals}
use Rattle.wl_bind.specs.steps.GlobalSlots.{is_host_by_lists}
use Rattle.wl_symbols.specs.KeptSlots.{is_kept_slot}
use Rattle.wl_symbols.specs.Left.{same_import, first_like, first_imports}
use Rattle.wl_bind.specs.Resolutions.{resolved, named_resolution, as_global, global_resolution, rows_from, by_names, by_names_and_got, resolutions}
use Rattle.wl_bind.specs.Stepped.{stepped}
use Rattle.wl_bind.specs.Later.{later_by_got, has_that_name, is_unresolved, walk_of, walked_at, globals_walked}
use Rattle.wl_bind.specs.declared.binding.FunctionTarget.{FunctionTarget}
use Rattle.wl_bind.specs.declared.binding.GlobalTarget.{GlobalTarget}
use Rattle.wl_bind.specs.declared.binding.GlobalTarget.TheVariants as global
use Rattle.wl_bind.specs.declared.resolution.ImportResolution.{ImportResolution}
use Rattle.wl_bind.specs.declared.resolution.ImportResolution.TheVariants.{Unresolved, GotMemSlot, GotFuncSlot}
use Rattle.wl_bind.specs.declared.resolution.ObjectImportResolutions.{ObjectImportResolutions}
use Rattle.wl_bind.proofs.ResolvingLaws.{mapped_position, joined, called}

-- the resolutions of an object
abbrev the_row : List ImportResolution → List ImportResolution → ObjectImportResolutions
the_row functions globals = record { function_resolutions = functions; global_resolutions = globals }

-- ---- by names, or later

-- what a slot is bound to by what names bind it to
pub binds : (input : Input) (t : ImportSlot) (target : Option SlotTarget) → slot_target input.link t ≡ target
    → binds_global input t ≡ unwrap_or (option_or (option_map named_global target) (by_got input t)) (by_host input t)
binds input t target is =
    ap (λ (g : Option GlobalTarget). unwrap_or g (by_host input t))
    (joined named_global (by_definition input.link t) (by_symbol_name input.link t) (by_field_name input.link t) (by_got input t)
    ∙ ap (λ (s : Option SlotTarget). option_or (option_map named_global s) (by_got input t)) is)

-- ---- the GOT lists

mem_place : (input : Input) (host : GlobalTarget) (host_is : as_global input host ≡ Unresolved) (place : Option ℕ)
    → option_map_or GotMemSlot place Unresolved ≡ as_global input (unwrap_or (option_map global.GotMem place) host)
mem_place input host host_is (Some k) = refl
mem_place input host host_is None = sym host_is

func_place : (input : Input) (host : GlobalTarget) (host_is : as_global input host ≡ Unresolved) (place : Option ℕ)
    → option_map_or GotFuncSlot place Unresolved ≡ as_global input (unwrap_or (option_map global.GotFunc place) host)
func_place input host host_is (Some k) = refl
func_place input host host_is None = sym host_is

-- one of two, or nothing
one_of : (input : Input) (a b : Bool) (x y : ImportResolution) (g h : Option GlobalTarget) (host : GlobalTarget)
    → x ≡ as_global input (unwrap_or g host) → y ≡ as_global input (unwrap_or h host) → Unresolved ≡ as_global input host
    → (if a then x else if b then y else Unresolved)
    ≡ as_global input (unwrap_or (if a then g else if b then h else None) host)
one_of input true b x y g h host first second none = first
one_of input false true x y g h host first second none = second
one_of input false false x y g h host first second none = none

-- what the rule makes of an import is what the slot is bound to by it, or nothing
later_is : (input : Input) (t : ImportSlot)
    → later_by_got (scan_of input) t.item.origin t.item.name ≡ as_global input (unwrap_or (by_got input t) (by_host input t))
later_is input t =
    let name = t.item.name in
    let mem = position (is_called input name) (got_mem input) in
    let func = position (λ (p : Definition × FunctionTarget). is_called input name p.0) (got_func input) in
    one_of input (bytes_eq t.item.origin (codes "GOT.mem")) (bytes_eq t.item.origin (codes "GOT.func"))
    (option_map_or GotMemSlot (position (λ (e : Named Definition). has_that_name name e.name) (map (got_mem_entry input) (got_mem input))) Unresolved)
    (option_map_or GotFuncSlot (position (λ (e : Named (Definition × FunctionTarget)). has_that_name name e.name) (map (got_func_entry input) (got_func input))) Unresolved)
    (option_map global.GotMem mem) (option_map global.GotFunc func) (by_host input t)
    (ap (λ (p : Option ℕ). option_map_or GotMemSlot p Unresolved)
    (mapped_position (got_mem_entry input) (λ (e : Named Definition). has_that_name name e.name) (is_called input name) (called input name) (got_mem input))
    ∙ mem_place input (by_host input t) refl mem)
    (ap (λ (p : Option ℕ). option_map_or GotFuncSlot p Unresolved)
    (mapped_position (got_func_entry input) (λ (e : Named (Definition × FunctionTarget)). has_that_name name e.name)
    (λ (p : Definition × FunctionTarget). is_called input name p.0) (λ (p : Definition × FunctionTarget). called input name p.0) (got_func input))
    ∙ func_place input (by_host input t) refl func)
    refl

-- ---- a slot

picked : (input : Input) (kept : Bool) (target : Option SlotTarget) (later : ImportResolution) (got : Option GlobalTarget) (host : GlobalTarget)
    → later ≡ as_global input (unwrap_or got host)
    → (if is_unresolved (if kept then option_map_or (resolved input Global) target Unresolved else Unresolved) && kept
    then later else (if kept then option_map_or (resolved input Global) target Unresolved else Unresolved))
    ≡ (if kept then as_global input (unwrap_or (option_or (option_map named_global target) got) host) else Unresolved)
picked input false target later got host is = refl
picked input true (Some (slot.Defined object number)) later got host is = refl
picked input true (Some (slot.Made m)) later got host is = refl
picked input true None later got host is = is

walked_global : (input : Input) (object n : ℕ) (symbols : List LinkedSymbol) (i : Imported)
    → walked_at (walk_of input (scan_of input) object) n i (named_resolution input (slot_at object Global symbols n i))
    ≡ global_resolution input (slot_at object Global symbols n i)
walked_global input object n symbols i =
    let t = slot_at object Global symbols n i in
    let kept = keeps_slot input Global object n in
    picked input kept (slot_target input.link t) (later_by_got (scan_of input) i.origin i.name) (by_got input t) (by_host input t) (later_is input t)
    ∙ ap (λ (g : GlobalTarget). if kept then as_global input g else Unresolved) (sym (binds input t (slot_target input.link t) refl))

-- a kept slot that names leave is resolved by the lists
pub left_resolved : (input : Input) (t : ImportSlot) → is_kept_slot input t ≡ true → slot_target input.link t ≡ None
    → later_by_got (scan_of input) t.item.origin t.item.name ≡ global_resolution input t
left_resolved input t kept none =
    let bound : as_global input (unwrap_or (by_got input t) (by_host input t)) ≡ as_global input (binds_global input t) = ap (as_global input) (sym (binds input t None none)) in
    let whole : global_resolution input t ≡ as_global input (binds_global input t) = ap (λ (k : Bool). if k then as_global input (binds_global input t) else Unresolved) kept in
    later_is input t ∙ bound ∙ sym whole

resolved_is : (input : Input) (target : SlotTarget) → resolved input Global target ≡ as_global input (named_global target)
resolved_is input (slot.Defined object number) = refl
resolved_is input (slot.Made m) = refl

-- a kept slot that names bind is resolved to what they bind it to
pub named_resolved : (input : Input) (t : ImportSlot) (target : SlotTarget) → is_kept_slot input t ≡ true
    → slot_target input.link t ≡ Some target → resolved input Global target ≡ global_resolution input t
named_resolved input t target kept some =
    let whole : global_resolution input t ≡ as_global input (binds_global input t) = ap (λ (k : Bool). if k then as_global input (binds_global input t) else Unresolved) kept in
    resolved_is input target ∙ ap (as_global input) (sym (binds input t (Some target) some)) ∙ sym whole

unresolved_is : (input : Input) (mem func : Bool) (m f : Option ℕ) (c d : ℕ)
    → is_unresolved (as_global input (unwrap_or (if mem then option_map global.GotMem m else if func then option_map global.GotFunc f else None) (global.Host c d)))
    ≡ is_none (if mem then option_map global.GotMem m else if func then option_map global.GotFunc f else None)
unresolved_is input true func (Some k) f c d = refl
unresolved_is input false true m (Some k) c d = refl
unresolved_is input _ _ _ _ c d = refl

-- the lists leave a slot to the host where the fourth rule gives nothing
pub left_by_lists : (input : Input) (t : ImportSlot) → is_host_by_lists (scan_of input) t ≡ is_none (by_got input t)
left_by_lists input t =
    ap is_unresolved (later_is input t)
    ∙ unresolved_is input (is_from (codes "GOT.mem") t) (is_from (codes "GOT.func") t)
    (position (is_called input t.item.name) (got_mem input))
    (position (λ (p : Definition × FunctionTarget). is_called input t.item.name p.0) (got_func input))
    (first_like same_import (first_imports (host_globals input)) t).object (first_like same_import (first_imports (host_globals input)) t).number

-- ---- the slots of an object

walked_slots : (input : Input) (object n : ℕ) (symbols : List LinkedSymbol) (is : List Imported)
    → stepped (walked_at (walk_of input (scan_of input) object)) n is
    (map (named_resolution input) (numbered_slots object Global symbols n is))
    ≡ map (global_resolution input) (numbered_slots object Global symbols n is)
walked_slots input object n symbols [] = refl
walked_slots input object n symbols (i ∷ is) =
    let t = slot_at object Global symbols n i in
    let rest = numbered_slots object Global symbols (n + 1) is in
    ap (λ (r : ImportResolution). r
    ∷ stepped (walked_at (walk_of input (scan_of input) object)) (n + 1) is (map (named_resolution input) rest))
    (walked_global input object n symbols i)
    ∙ ap (λ (rs : List ImportResolution). global_resolution input t ∷ rs) (walked_slots input object (n + 1) symbols is)

-- ---- the slots of all objects

walked_rows : (input : Input) (n : ℕ) (os : List Object)
    → stepped (globals_walked input (scan_of input)) n os (rows_from (by_names input) n os) ≡ rows_from (by_names_and_got input) n os
walked_rows input n [] = refl
walked_rows input n (o ∷ os) =
    let functions = map (named_resolution input) (object_slots n Func o) in
    let row = λ (globals : List ImportResolution). the_row functions globals in
    ap (λ (globals : List ImportResolution). row globals ∷ stepped (globals_walked input (scan_of input)) (n + 1) os (rows_from (by_names input) (n + 1) os))
    (walked_slots input n 0 o.symbols (slot_imports Global o.imports))
    ∙ ap (λ (rows : List ObjectImportResolutions). row (map (global_resolution input) (object_slots n Global o)) ∷ rows) (walked_rows input (n + 1) os)

-- rows that names resolve, with the GOT lists
pub absorbed : (input : Input) (old new : List ObjectImportResolutions) → old ≡ resolutions input (by_names input)
    → new ≡ stepped (globals_walked input (scan_of input)) 0 input.link.objects old → new ≡ resolutions input (by_names_and_got input)
absorbed input old new were are =
    are ∙ (ap (stepped (globals_walked input (scan_of input)) 0 input.link.objects) were ∙ walked_rows input 0 input.link.objects)
