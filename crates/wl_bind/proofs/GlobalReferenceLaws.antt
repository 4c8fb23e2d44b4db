-- The globals that kept relocations name are in the output.
use Rattle.std.proofs.Common.{◌≡◌, ◌∙◌, ◌<◌, ◌==◌, not, ℕ, Bool, true, false, List, length, map, filter_map, position, refl, sym, ap, arith, inl, inr, Option, Some, None, slice_get, Contains, nat_lt, if◌then◌else◌, []}
use Rattle.std.specs.List.{list_any, range_with_len}
use Rattle.std.specs.Option.{option_and_then, option_map, option_map_or}
use Rattle.std.proofs.lemmas.Bool.{cases_Bool, ltb-true, and_from, or_right}
use Rattle.std.proofs.lemmas.List.{length-map}
use Rattle.std.proofs.lemmas.Option.{slice_get-map}
use Rattle.wl_module.specs.declared.imports.ExternalKind.TheVariants as external
use Rattle.wl_linking.specs.Object.{Object}
use Rattle.wl_custom.specs.Takings.{is_global, is_taken_of, has_global as may_be_global}
use Rattle.wl_custom.specs.RelocationTypes.{taking_of, names_a_type, is_global_index, is_table_index}
use Rattle.wl_linking.specs.Spaces.{count_imports, spaces_of, symbol_exists}
use Rattle.wl_custom.specs.Symbols.{Symbol as LinkedSymbol, is_data, is_undefined, is_function}
use Rattle.wl_custom.specs.declared.takings.Taking.{Taking}
use Rattle.wl_custom.specs.declared.takings.Taking.TheVariants.{GlobalIndex}
use Rattle.wl_linking.specs.declared.spaces.Counts.{Counts}
use Rattle.wl_custom.specs.declared.symbols.WasmSymbolKind.{WasmSymbolKind}
use Rattle.wl_custom.specs.declared.symbols.WasmSymbolKind.TheVariants.{Func, Data, Global}
use Rattle.wl_symbols.specs.LinkerNames.{is_imported_as}
use Rattle.wl_symbols.specs.declared.entry.Definition.{Definition}
use Rattle.wl_symbols.specs.declared.units.WasmGcUnit.TheVariants.{DefinedGlobal, GlobalImport}
use Rattle.wl_symbols.specs.ImportSlots.{ImportSlot, object_slots, import_slots}
use Rattle.wl_symbols.specs.SlotTargets.{is_definition_of}
use Rattle.wl_bind.specs.GlobalBinding.{binds_global}
use Rattle.wl_bind.specs.GlobalSpace.{GlobalEntry, GlobalOf, global_slot_entry, own_global_entry, local_globals}
use Rattle.wl_bind.specs.IndexMaps.{is_global_of, has_global, is_data_symbol, mem_place, got_mem_global, func_place, got_func_global}
use Rattle.wl_symbols.specs.Input.{Input, keeps}
use Rattle.wl_symbols.specs.KeptSlots.{is_kept_slot}
use Rattle.wl_bind.specs.References.{local_global, symbol_global, IsSettled, NamesGlobal}
use Rattle.wl_symbols.specs.Relocations.{object_relocations}
use Rattle.wl_bind.specs.Sameness.{same_definition, same_pair, same_target}
use Rattle.wl_symbols.specs.Relocations.{relocations}
use Rattle.wl_bind.specs.Scan.{names_data, names_function, definition_of, function_of as function_named, got_mem_of, got_mem, got_func_of, got_func}
use Rattle.wl_bind.specs.declared.binding.FunctionTarget.{FunctionTarget}
use Rattle.wl_bind.specs.declared.binding.GlobalTarget.TheVariants as global
use Rattle.wl_symbols.specs.declared.relocated.Relocated.{Relocated}
use Rattle.wl_lists.proofs.Found.{any_in}
use Rattle.wl_lists.proofs.In.{list_in}
use Rattle.wl_lists.proofs.Places.{get_in_front, get_behind, there_is}
use Rattle.wl_bind.proofs.ClosedLaws.{global_units}
use Rattle.wl_bind.specs.steps.Laws.{LinkLaws}
use Rattle.wl_bind.proofs.HostLaws.{IsAt, placed, kept_at, slots_here}
use Rattle.wl_bind.proofs.ListLaws.{made_of_one}
use Rattle.wl_bind.proofs.RedirectLaws.{under, range_at}
use Rattle.wl_bind.proofs.SameLaws.{eqb_self, definition_self, target_self}
use Rattle.wl_bind.proofs.ListedLaws.{some_place_of}
use Rattle.wl_bind.proofs.ReferenceLaws.{Names, as_named, fun_leads, named_unit_kept, names_one, no_type}
use Rattle.wl_bind.proofs.LeftLaws.{any_listed}

-- ---- globals

record HasGlobal (found : Option GlobalEntry) : Type 0 where
  entry : GlobalEntry
  is : found ≡ Some entry

global_below : (spaces : Counts) (s : LinkedSymbol) → s.kind ≡ Global → is_undefined s ≡ true → symbol_exists spaces s ≡ true
    → s.index < spaces.imported_globals
global_below spaces s kind so there =
    let e : symbol_exists spaces s ≡ nat_lt s.index spaces.imported_globals = rw (kind, so) refl in
    ltb-true s.index spaces.imported_globals (sym e ∙ there)

abbrev global_at : Option (Option GlobalEntry) → Option GlobalEntry
global_at found = option_and_then (λ (x : Option GlobalEntry). x) found

imported_global : LinkLaws → (input : Input) (r : Relocated) → IsSettled input → (n : Names input r) → n.symbol.kind ≡ Global
    → is_undefined n.symbol ≡ true → HasGlobal (local_global input r.object n.from.object n.symbol.index)
imported_global laws input r settled n kind so =
    let o : Object = n.from.object in
    let s : LinkedSymbol = n.symbol in
    let lt : s.index < count_imports external.Global o.imports = global_below (spaces_of o) s kind so n.thing in
    let count = laws.globals r.object o in
    let long : s.index < length (object_slots r.object Global o) = omega (arith, lt, count) in
    let there = there_is (object_slots r.object Global o) s.index long in
    let t : ImportSlot = there.0 in
    let at : slice_get (import_slots input.link.objects r.object Global) s.index ≡ Some t =
    ap (λ (ts : List ImportSlot). slice_get ts s.index) (slots_here input.link.objects r.object Global o n.from.here) ∙ there.1 in
    let is_at : IsAt r.object Global s.index t = placed input.link.objects r.object Global s.index t at in
    let unit : keeps input r.object (GlobalImport s.index) ≡ true =
    named_unit_kept laws input r settled n (GlobalImport s.index)
    (global_units.undefined r.object s.index o s (ap (is_imported_as Global) kind) so long) in
    let kept : is_kept_slot input t ≡ true = sym (kept_at input r.object Global s.index t is_at) ∙ unit in
    let entry : slice_get (local_globals input r.object o) s.index ≡ Some (global_slot_entry input t) =
    get_in_front (map (global_slot_entry input) (object_slots r.object Global o))
    (map (own_global_entry input r.object) (range_with_len 0 (length o.globals))) s.index (global_slot_entry input t)
    (slice_get-map (global_slot_entry input) (object_slots r.object Global o) s.index
    ∙ ap (λ (x : Option ImportSlot). option_map (global_slot_entry input) x) there.1) in
    record {
      entry = GlobalOf (binds_global input t);
      is = ap global_at entry ∙ ap (λ (b : Bool). if b then Some (GlobalOf (binds_global input t)) else None) kept;
    }

defined_global : LinkLaws → (input : Input) (r : Relocated) → IsSettled input → (n : Names input r) → n.symbol.kind ≡ Global
    → is_undefined n.symbol ≡ false → HasGlobal (local_global input r.object n.from.object n.symbol.index)
defined_global laws input r settled n kind not_so =
    let o : Object = n.from.object in
    let s : LinkedSymbol = n.symbol in
    let i : ℕ = r.object in
    let defines : is_definition_of Global s ≡ true =
    and_from (not (is_undefined s)) (is_imported_as Global s.kind) (ap not not_so) (ap (is_imported_as Global) kind) in
    let number = laws.numbers Global o r.relocation.index s n.whole n.at defines in
    let k : ℕ = number.0 in
    let kept : keeps input i (DefinedGlobal k) ≡ true =
    named_unit_kept laws input r settled n (DefinedGlobal k) (global_units.defined o s k defines number.1) in
    let p = under (count_imports external.Global o.imports) (length o.globals) s.index k number.1 in
    let behind = p.0 in
    let count = laws.globals i o in
    let front : List (Option GlobalEntry) = map (global_slot_entry input) (object_slots i Global o) in
    let long : length front ≡ length (object_slots i Global o) = length-map (object_slots i Global o) (global_slot_entry input) in
    let entry : slice_get (local_globals input i o) s.index ≡ Some (own_global_entry input i k) =
    get_behind front (map (own_global_entry input i) (range_with_len 0 (length o.globals))) k s.index
    (omega (arith, behind, long, count))
    ∙ (slice_get-map (own_global_entry input i) (range_with_len 0 (length o.globals)) k
    ∙ ap (λ (x : Option ℕ). option_map (own_global_entry input i) x) (range_at (length o.globals) k p.1)) in
    record {
      entry = GlobalOf (global.Defined i k);
      is = ap global_at entry ∙ ap (λ (b : Bool). if b then Some (GlobalOf (global.Defined i k)) else None) kept;
    }

-- a kept relocation of the object names the symbol so
named_so : (input : Input) (r : Relocated) → (n : Names input r) → is_global_index r.relocation.ty ≡ true
    → has_global input r.object n.from.object r.relocation.index ≡ true
named_so input r n so =
    any_in (is_global_of r.relocation.index) (object_relocations input.live r.object n.from.object) r n.from.among
    (and_from (is_global_index r.relocation.ty) (r.relocation.index == r.relocation.index) so (eqb_self r.relocation.index))

data_global : (input : Input) (r : Relocated) → Contains (relocations input) r → is_global_index r.relocation.ty ≡ true
    → (n : Names input r) → n.symbol.kind ≡ Data → HasGlobal (got_mem_global input r.object n.from.object r.relocation.index)
data_global input r listed so n kind =
    let number : ℕ = r.relocation.index in
    let d : Definition = definition_of input r in
    let of : names_data input r ≡ true =
    ap (λ (x : Option LinkedSymbol). option_map_or (λ (s : LinkedSymbol). is_data s.kind) x false) n.found ∙ ap is_data kind in
    let given : got_mem_of input r ≡ Some d =
    ap (λ (b : Bool). if b then Some d else None) (and_from (is_global_index r.relocation.ty) (names_data input r) so of) in
    let any : list_any (same_definition d) (got_mem input) ≡ true =
    any_listed same_definition [] (filter_map (got_mem_of input) (relocations input)) d (definition_self d)
    (made_of_one (got_mem_of input) (relocations input) r d (list_in (relocations input) r listed) given) in
    let place = some_place_of (same_definition d) (got_mem input) any in
    record {
      entry = GlobalOf (global.GotMem place.0);
      is = ap (λ (b : Bool). if b then option_map (λ (p : ℕ). GlobalOf (global.GotMem p)) (mem_place input r.object number) else None)
          (and_from (is_data_symbol input r.object number) (has_global input r.object n.from.object number) of (named_so input r n so))
          ∙ ap (λ (p : Option ℕ). option_map (λ (q : ℕ). GlobalOf (global.GotMem q)) p) place.1;
    }

function_global : LinkLaws → (input : Input) (r : Relocated) → IsSettled input → Contains (relocations input) r
    → is_global_index r.relocation.ty ≡ true → (n : Names input r) → n.symbol.kind ≡ Func
    → HasGlobal (got_func_global input r.object n.from.object r.relocation.index)
function_global laws input r settled listed so n kind =
    let number : ℕ = r.relocation.index in
    let d : Definition = definition_of input r in
    let of_kind : is_function n.symbol.kind ≡ true = ap is_function kind in
    let of : names_function input r ≡ true =
    ap (λ (x : Option LinkedSymbol). option_map_or (λ (s : LinkedSymbol). is_function s.kind) x false) n.found ∙ of_kind in
    let out = fun_leads laws input r settled n of_kind in
    let pair : Definition × FunctionTarget = (d, out.target) in
    let given : got_func_of input r ≡ Some pair =
    ap (λ (b : Bool). if b then option_map (λ (f : FunctionTarget). (d, f)) (function_named input r) else None)
    (and_from (is_global_index r.relocation.ty) (names_function input r) so of)
    ∙ ap (λ (x : Option FunctionTarget). option_map (λ (f : FunctionTarget). (d, f)) x) out.leads in
    let self : same_pair pair pair ≡ true =
    and_from (same_definition d d) (same_target out.target out.target) (definition_self d) (target_self out.target) in
    let any : list_any (same_pair pair) (got_func input) ≡ true =
    any_listed same_pair [] (filter_map (got_func_of input) (relocations input)) pair self
    (made_of_one (got_func_of input) (relocations input) r pair (list_in (relocations input) r listed) given) in
    let place = some_place_of (same_pair pair) (got_func input) any in
    let found : func_place input r.object number ≡ Some place.0 =
    ap (λ (x : Option FunctionTarget). option_and_then (λ (f : FunctionTarget). position (same_pair (d, f)) (got_func input)) x) out.leads
    ∙ place.1 in
    record {
      entry = GlobalOf (global.GotFunc place.0);
      is = ap (λ (b : Bool). if b then option_map (λ (p : ℕ). GlobalOf (global.GotFunc p)) (func_place input r.object number) else None)
          (named_so input r n so)
          ∙ ap (λ (p : Option ℕ). option_map (λ (q : ℕ). GlobalOf (global.GotFunc q)) p) found;
    }

-- what names the number of a global takes one, or data, or a function
takes_global : (taking : Taking) (kind : WasmSymbolKind) → is_global taking ≡ true → is_taken_of taking kind ≡ true
    → may_be_global kind ≡ true
takes_global GlobalIndex kind so taken = taken
takes_global _ kind so taken = absurd cc

own_global : LinkLaws → (input : Input) (r : Relocated) → IsSettled input → (n : Names input r) → n.symbol.kind ≡ Global
    → HasGlobal (local_global input r.object n.from.object n.symbol.index)
own_global laws input r settled n kind = elim (cases_Bool (is_undefined n.symbol)) [
  | inl so ↦ imported_global laws input r settled n kind so
  | inr not_so ↦ defined_global laws input r settled n kind not_so
]

stands_for_global : LinkLaws → (input : Input) (r : Relocated) → IsSettled input → Contains (relocations input) r
    → is_global_index r.relocation.ty ≡ true → (n : Names input r) → (kind : WasmSymbolKind) → n.symbol.kind ≡ kind
    → may_be_global kind ≡ true
    → HasGlobal (symbol_global input r n.from.object kind n.symbol.index)
stands_for_global laws input r settled listed so n Global is one = own_global laws input r settled n is
stands_for_global laws input r settled listed so n Data is one = data_global input r listed so n is
stands_for_global laws input r settled listed so n Func is one = function_global laws input r settled listed so n is
stands_for_global laws input r settled listed so n _ is one = absurd cc

pub global_is_named : LinkLaws → (input : Input) (r : Relocated) → IsSettled input → Contains (relocations input) r
    → is_global_index r.relocation.ty ≡ true → NamesGlobal input r
global_is_named laws input r settled listed so =
    let other : names_a_type r.relocation.ty ≡ false =
    no_type (taking_of r.relocation.ty) (or_right (is_table_index r.relocation.ty) (is_global_index r.relocation.ty) so) in
    let n : Names input r = names_one laws input r settled listed other in
    let g = stands_for_global laws input r settled listed so n n.symbol.kind refl
    (takes_global (taking_of r.relocation.ty) n.symbol.kind so n.taken) in
    record { named = as_named input r n; global = g.entry; stands = g.is }
