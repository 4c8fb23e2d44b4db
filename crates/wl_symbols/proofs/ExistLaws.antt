-- Units that symbols, names and exports refer to exist.
use Rattle.std.proofs.Common.{◌≡◌, ◌⊎◌, ℕ, ◌-◌, ◌<◌, ◌||◌, Bool, true, false, cond, nat_lt, nat_le, List, length, get_or, inl, inr, refl, ap, sym, ◌∙◌, subst, Option, Some, None, slice_get}
use Rattle.std.specs.Option.{option_map, option_or}
use Rattle.std.proofs.lemmas.Bool.{or_parts, leb-false, lt-ltb}
use Rattle.std.proofs.lemmas.List.{get_or-map}
use Rattle.std.proofs.lemmas.Option.{same_Some, cond_some, option_and_then_some, slice_get_within, slice_get-get_or}
use Rattle.wl_module.specs.declared.imports.ExternalKind.{ExternalKind}
use Rattle.wl_module.specs.declared.imports.ExternalKind.TheVariants as external
use Rattle.wl_linking.specs.Object.{Object}
use Rattle.wl_custom.specs.Symbols.{Symbol as LinkedSymbol, is_undefined, is_absolute}
use Rattle.wl_custom.specs.declared.symbols.WasmSymbolKind.{WasmSymbolKind}
use Rattle.wl_custom.specs.declared.symbols.WasmSymbolKind.TheVariants.{Func, Data, Global, Section, Event, Table}
use Rattle.wl_symbols.specs.Link.{Link}
use Rattle.wl_symbols.specs.Entries.{symbol_in}
use Rattle.wl_symbols.specs.Names.{named}
use Rattle.wl_symbols.specs.declared.entry.Definition.{Definition}
use Rattle.wl_symbols.specs.declared.entry.Definition.TheVariants.{Symbol, Made}
use Rattle.wl_symbols.specs.Units.{counts_of, units_of, units_at, no_units, defined_number, number_below, unit_by, unit_in, has_unit, exists}
use Rattle.wl_symbols.specs.DefinedUnits.{unit_at, defined_unit, definition_unit, definition_at, other_unit, named_unit, is_replaceable, replacing_unit}
use Rattle.wl_symbols.specs.Roots.{export_unit, IsRoot}
use Rattle.wl_symbols.specs.declared.units.LinkUnit.{LinkUnit}
use Rattle.wl_symbols.specs.declared.units.UnitCounts.{UnitCounts}
use Rattle.wl_symbols.specs.declared.units.WasmGcUnit.{WasmGcUnit}
use Rattle.wl_symbols.specs.declared.units.WasmGcUnit.TheVariants.{DefinedFunction, DefinedGlobal, DataSegment, FunctionImport, GlobalImport}
use Rattle.wl_symbols.specs.Roots.IsRoot.{by_export, by_symbol, by_init, by_name}
use Rattle.wl_lists.proofs.Found.{map_some}

-- the unit of the object of that number
abbrev pub at_object : ℕ → WasmGcUnit → LinkUnit
at_object object unit = record { object = object; unit = unit }

pub units_of-at : (objects : List Object) (k : ℕ) (o : Object) → slice_get objects k ≡ Some o → units_at (units_of objects) k ≡ counts_of o
units_of-at objects k o at =
    let lt : k < length objects = slice_get_within objects k o at in
    let here : get_or objects k o ≡ o = same_Some (get_or objects k o) o (sym (slice_get-get_or objects k o lt) ∙ at) in
    get_or-map counts_of objects k o no_units lt ∙ ap counts_of here

-- ---- options

pub option_or_parts : {X : Type 0} (o p : Option X) (x : X) → option_or o p ≡ Some x → (o ≡ Some x) ⊎ (p ≡ Some x)
option_or_parts None p x e = inr e
option_or_parts (Some y) p x e = inl e

pub none_if : {X : Type 0} (b : Bool) (o : Option X) (x : X) → cond b None o ≡ Some x → (b ≡ false) × (o ≡ Some x)
none_if true o x e = absurd (cc)
none_if false o x e = (refl, e)

pub some_if : {X : Type 0} (b : Bool) (o : Option X) (x : X) → cond b o None ≡ Some x → (b ≡ true) × (o ≡ Some x)
some_if true o x e = (refl, e)
some_if false o x e = absurd (cc)

-- ---- what stands under an index

pub imported_within : (count index k : ℕ) → number_below count index ≡ Some k → nat_lt k count ≡ true
imported_within count index k e = let p = cond_some (nat_lt index count) index k e in rw (← p.1) p.0

pub defined_within : (imports count index k : ℕ) → defined_number imports count index ≡ Some k → nat_lt k count ≡ true
defined_within imports count index k e =
    let p = none_if (nat_lt index imports || nat_le count (index - imports)) (Some (index - imports)) k e in
    let q = or_parts (nat_lt index imports) (nat_le count (index - imports)) p.0 in
    rw (← same_Some (index - imports) k p.1) (lt-ltb (index - imports) count (leb-false count (index - imports) q.1))

-- ---- symbols

pub function_import_has : (n : UnitCounts) (index : ℕ) (u : WasmGcUnit) → option_map FunctionImport (number_below n.function_imports index) ≡ Some u → has_unit n u ≡ true
function_import_has n index u e =
    let p = map_some FunctionImport (number_below n.function_imports index) u e in
    subst (λ (w : WasmGcUnit). has_unit n w ≡ true) p.2 (imported_within n.function_imports index p.0 p.1)

pub function_has : (n : UnitCounts) (index : ℕ) (u : WasmGcUnit) → option_map DefinedFunction (defined_number n.function_imports n.functions index) ≡ Some u → has_unit n u ≡ true
function_has n index u e =
    let p = map_some DefinedFunction (defined_number n.function_imports n.functions index) u e in
    subst (λ (w : WasmGcUnit). has_unit n w ≡ true) p.2 (defined_within n.function_imports n.functions index p.0 p.1)

pub global_import_has : (n : UnitCounts) (index : ℕ) (u : WasmGcUnit) → option_map GlobalImport (number_below n.global_imports index) ≡ Some u → has_unit n u ≡ true
global_import_has n index u e =
    let p = map_some GlobalImport (number_below n.global_imports index) u e in
    subst (λ (w : WasmGcUnit). has_unit n w ≡ true) p.2 (imported_within n.global_imports index p.0 p.1)

pub global_has : (n : UnitCounts) (index : ℕ) (u : WasmGcUnit) → option_map DefinedGlobal (defined_number n.global_imports n.globals index) ≡ Some u → has_unit n u ≡ true
global_has n index u e =
    let p = map_some DefinedGlobal (defined_number n.global_imports n.globals index) u e in
    subst (λ (w : WasmGcUnit). has_unit n w ≡ true) p.2 (defined_within n.global_imports n.globals index p.0 p.1)

pub segment_has : (n : UnitCounts) (index : ℕ) (u : WasmGcUnit) → option_map DataSegment (number_below n.segments index) ≡ Some u → has_unit n u ≡ true
segment_has n index u e =
    let p = map_some DataSegment (number_below n.segments index) u e in
    subst (λ (w : WasmGcUnit). has_unit n w ≡ true) p.2 (imported_within n.segments index p.0 p.1)

pub unit_by_has : (n : UnitCounts) (kind : WasmSymbolKind) (undefined : Bool) (index : ℕ) (u : WasmGcUnit) → unit_by n kind undefined index ≡ Some u → has_unit n u ≡ true
unit_by_has n Func true index u e = function_import_has n index u e
unit_by_has n Func false index u e = function_has n index u e
unit_by_has n Global true index u e = global_import_has n index u e
unit_by_has n Global false index u e = global_has n index u e
unit_by_has n Data true index u e = absurd (cc)
unit_by_has n Data false index u e = segment_has n index u e
unit_by_has n Section undefined index u e = absurd (cc)
unit_by_has n Event undefined index u e = absurd (cc)
unit_by_has n Table undefined index u e = absurd (cc)

pub unit_in_has : (n : UnitCounts) (s : LinkedSymbol) (u : WasmGcUnit) → unit_in n s ≡ Some u → has_unit n u ≡ true
unit_in_has n s u e = let p = none_if (is_absolute s) (unit_by n s.kind (is_undefined s) s.index) u e in unit_by_has n s.kind (is_undefined s) s.index u p.1

pub unit_at_exists : (ns : List UnitCounts) (k : ℕ) (s : LinkedSymbol) (v : LinkUnit) → unit_at ns k s ≡ Some v → exists ns v ≡ true
unit_at_exists ns k s v e =
    let p = map_some (λ (u : WasmGcUnit). at_object k u) (unit_in (units_at ns k) s) v e in
    subst (λ (w : LinkUnit). exists ns w ≡ true) p.2 (unit_in_has (units_at ns k) s p.0 p.1)

-- the unit of an object that has it
pub here_exists : (objects : List Object) (u : LinkUnit) (o : Object) → slice_get objects u.object ≡ Some o → has_unit (counts_of o) u.unit ≡ true → exists (units_of objects) u ≡ true
here_exists objects u o here has = subst (λ (n : UnitCounts). has_unit n u.unit ≡ true) (sym (units_of-at objects u.object o here)) has

-- ---- definitions

pub defined_unit_exists : (ns : List UnitCounts) (k : ℕ) (s : LinkedSymbol) (v : LinkUnit) → defined_unit ns k s ≡ Some v → exists ns v ≡ true
defined_unit_exists ns k s v e = let p = none_if (is_undefined s) (unit_at ns k s) v e in unit_at_exists ns k s v p.1

pub definition_unit_exists : (link : Link) (ns : List UnitCounts) (d : Definition) (v : LinkUnit) → definition_unit link ns d ≡ Some v → exists ns v ≡ true
definition_unit_exists link ns (Symbol object number) v e =
    option_and_then_some (λ (s : LinkedSymbol). defined_unit ns object s) (symbol_in link.objects object number) v e (λ s at f. defined_unit_exists ns object s v f)
definition_unit_exists link ns (Made m) v e = absurd (cc)

pub other_unit_exists : (link : Link) (ns : List UnitCounts) (k number : ℕ) (v : LinkUnit) → other_unit link ns k number ≡ Some v → exists ns v ≡ true
other_unit_exists link ns k number v e =
    option_and_then_some (λ (d : Definition). definition_unit link ns d) (definition_at link k number) v e (λ d at f. definition_unit_exists link ns d v f)

pub named_unit_exists : (link : Link) (ns : List UnitCounts) (name : List ℕ) (v : LinkUnit) → named_unit link ns name ≡ Some v → exists ns v ≡ true
named_unit_exists link ns name v e =
    option_and_then_some (λ (d : Definition). definition_unit link ns d) (named link name) v e (λ d at f. definition_unit_exists link ns d v f)

pub replacing_unit_exists : (link : Link) (ns : List UnitCounts) (k number : ℕ) (s : LinkedSymbol) (v : LinkUnit) → replacing_unit link ns k number s ≡ Some v → exists ns v ≡ true
replacing_unit_exists link ns k number s v e = let p = some_if (is_replaceable s) (other_unit link ns k number) v e in other_unit_exists link ns k number v p.1

-- ---- exports

pub export_unit_has : (n : UnitCounts) (kind : ExternalKind) (index : ℕ) (u : WasmGcUnit) → export_unit n kind index ≡ Some u → has_unit n u ≡ true
export_unit_has n external.Func index u e =
    elim (option_or_parts (option_map FunctionImport (number_below n.function_imports index)) (option_map DefinedFunction (defined_number n.function_imports n.functions index)) u e) [
      | inl from ↦ function_import_has n index u from
      | inr own ↦ function_has n index u own
    ]
export_unit_has n external.Global index u e =
    elim (option_or_parts (option_map GlobalImport (number_below n.global_imports index)) (option_map DefinedGlobal (defined_number n.global_imports n.globals index)) u e) [
      | inl from ↦ global_import_has n index u from
      | inr own ↦ global_has n index u own
    ]
export_unit_has n external.Table index u e = absurd (cc)
export_unit_has n external.Memory index u e = absurd (cc)

pub root_exists : (link : Link) (u : LinkUnit) → IsRoot link u → exists (units_of link.objects) u ≡ true
root_exists link u (by_export root) = here_exists link.objects u root.object root.here (export_unit_has (counts_of root.object) root.exported.kind root.exported.index u.unit root.is)
root_exists link u (by_symbol root) = here_exists link.objects u root.object root.here (unit_in_has (counts_of root.object) root.symbol u.unit root.is)
root_exists link u (by_init root) =
    elim root.leads [
      | inl own ↦ unit_at_exists (units_of link.objects) root.place root.symbol u own
      | inr other ↦ other_unit_exists link (units_of link.objects) root.place root.function.symbol_index u other.1
    ]
root_exists link u (by_name root) = named_unit_exists link (units_of link.objects) root.name u root.leads
