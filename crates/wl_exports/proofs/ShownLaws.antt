-- What symbols and names define is in the output, where it is exported.
use Rattle.std.proofs.Common.{◌≡◌, ◌⊎◌, ◌∙◌, ℕ, zero, suc, ◌+◌, ◌&&◌, Bool, true, false, not, List, [], ◌∷◌, filter, filter_map, refl, sym, ap, subst, arith, inl, inr, Option, Some, None, slice_get, if◌then◌else◌, Contains}
use Rattle.std.specs.List.{AllByRecursion}
use Rattle.std.specs.Option.{option_map, option_map_or, option_and_then}
use Rattle.std.proofs.lemmas.Bool.{cases_Bool, or_right, and_parts}
use Rattle.std.proofs.lemmas.Option.{same_Some}
use Rattle.wl_module.specs.Exports.{Exported}
use Rattle.wl_linking.specs.Fitting.{IsWhole}
use Rattle.wl_linking.specs.Object.{Object}
use Rattle.wl_custom.specs.Symbols.{Symbol as LinkedSymbol, is_data, is_undefined, has_name, is_defined_data}
use Rattle.wl_custom.specs.declared.symbols.WasmSymbolKind.{WasmSymbolKind}
use Rattle.wl_custom.specs.declared.symbols.WasmSymbolKind.TheVariants.{Func, Data, Global}
use Rattle.wl_symbols.specs.Entries.{symbol_in}
use Rattle.wl_symbols.specs.Link.{Link}
use Rattle.wl_symbols.specs.Names.{named}
use Rattle.wl_symbols.specs.declared.entry.Definition.{Definition}
use Rattle.wl_symbols.specs.declared.entry.Definition.TheVariants.{Symbol}
use Rattle.wl_symbols.specs.DefinedUnits.{named_unit, definition_unit, defined_unit, unit_at}
use Rattle.wl_symbols.specs.Live.{Live, is_live, IsLiveOf}
use Rattle.wl_symbols.specs.Roots.{IsRoot, by_name, by_symbol, is_candidate, is_kept_symbol, is_root_symbol}
use Rattle.wl_symbols.specs.Units.{counts_of, units_of, units_at, unit_in, unit_of}
use Rattle.wl_symbols.specs.declared.units.LinkUnit.{LinkUnit}
use Rattle.wl_symbols.specs.declared.units.UnitCounts.{UnitCounts}
use Rattle.wl_symbols.specs.declared.units.WasmGcUnit.{WasmGcUnit}
use Rattle.wl_symbols.specs.declared.units.WasmGcUnit.TheVariants.{DefinedFunction, DefinedGlobal}
use Rattle.wl_symbols.specs.SlotTargets.{own_number, is_definition_of}
use Rattle.wl_bind.specs.ExportedData.{is_dynamic_data, dynamic_from, dynamic_in, dynamic_data, is_made_name, is_dynamic, data_of, forced_by, forced_data}
use Rattle.wl_bind.specs.FunctionSpace.{FunctionOf, local_functions}
use Rattle.wl_bind.specs.GlobalSpace.{GlobalOf, DataOf, local_globals}
use Rattle.wl_symbols.specs.Input.{Input, keeps}
use Rattle.wl_bind.specs.Parts.{by_object}
use Rattle.wl_bind.specs.References.{there}
use Rattle.wl_bind.specs.declared.binding.FunctionTarget.TheVariants as function
use Rattle.wl_bind.specs.declared.binding.GlobalTarget.TheVariants as global
use Rattle.wl_bind.specs.declared.exported.DataSymbol.{DataSymbol}
use Rattle.wl_exports.specs.steps.DataPlaces.{exported_data}
use Rattle.wl_exports.specs.Exports.{Entity, OfFunction, OfGlobal, export_of, defined_of_kind, defined_entity, object_entity}
use Rattle.wl_exports.specs.steps.Exports.{IsPlainIf, IsShown}
use Rattle.wl_lists.proofs.In.{IsIn, filter_in, in_back, in_front, in_list, list_in}
use Rattle.wl_lists.proofs.Rows.{object_in}
use Rattle.wl_exports.proofs.DataLaws.{in_once}
use Rattle.wl_exports.proofs.ListLaws.{filter_map_in}
use Rattle.wl_exports.proofs.PlaceLaws.{AreCounted, AreGlobalsCounted, function_there, global_there}

-- ---- what is counted on

-- each definition has its number
abbrev pub AreNumbered : Type 0
AreNumbered =
    (kind : WasmSymbolKind) (o : Object) (k : ℕ) (s : LinkedSymbol) → IsWhole o
    → slice_get o.symbols k ≡ Some s → is_definition_of kind s ≡ true
    → (n : ℕ) × (own_number kind o s.index ≡ Some n)

-- a root is kept
abbrev pub AreKeptRoots : Type 0
AreKeptRoots =
    (link : Link) (live : Live) (u : LinkUnit) → IsLiveOf link live → IsRoot link u
    → is_live live u ≡ true

unless : {X : Type 0} (b : Bool) (x y : X) → b ≡ false → (if b then x else y) ≡ y
unless b x y e = rw e refl

when : {X : Type 0} (b : Bool) (x y : X) → b ≡ true → (if b then x else y) ≡ x
when b x y e = rw e refl

pub holds_at : (objects : List Object) (i : ℕ) (o : Object) → AllByRecursion IsWhole objects
    → slice_get objects i ≡ Some o → IsWhole o
holds_at [] i o h at = absurd cc
holds_at (x ∷ objects) zero o h at = subst IsWhole (same_Some x o at) h.0
holds_at (x ∷ objects) (suc i) o h at = holds_at objects i o h.1 at

units_here : (objects : List Object) (i : ℕ) (o : Object) → slice_get objects i ≡ Some o
    → units_at (units_of objects) i ≡ counts_of o
units_here [] i o at = absurd cc
units_here (x ∷ objects) zero o at = ap counts_of (same_Some x o at)
units_here (x ∷ objects) (suc i) o at = units_here objects i o at

-- ---- where a symbol stands

-- the symbol of those numbers, and its object
pub record Found (objects : List Object) (object number : ℕ) (s : LinkedSymbol) : Type 0 where
  pub owner : Object
  pub here : slice_get objects object ≡ Some owner
  pub at : slice_get owner.symbols number ≡ Some s

pub found : (objects : List Object) (object number : ℕ) (s : LinkedSymbol)
    → symbol_in objects object number ≡ Some s → Found objects object number s
found [] object number s e = absurd cc
found (o ∷ objects) zero number s e = record { owner = o; here = refl; at = e }
found (o ∷ objects) (suc object) number s e =
    let f = found objects object number s e in record { owner = f.owner; here = f.here; at = f.at }

pub entity_found : (input : Input) (object number : ℕ) (s : LinkedSymbol)
    → (f : Found input.link.objects object number s)
    → object_entity input (Symbol object number) ≡ defined_entity input object number f.owner s
entity_found input object number s f =
    let here = f.here in
    let at = f.at in
    rw (here, at) refl

-- ---- what names are asked for keeps

named_kept : AreKeptRoots → (input : Input) (name : List ℕ) (object number : ℕ) (o : Object) (s : LinkedSymbol)
    → IsLiveOf input.link input.live
    → (Contains input.link.args.export_symbols name ⊎ (input.link.args.entry ≡ Some name))
    → named input.link name ≡ Some (Symbol object number)
    → slice_get input.link.objects object ≡ Some o → slice_get o.symbols number ≡ Some s
    → is_undefined s ≡ false → (u : WasmGcUnit) → unit_of o s ≡ Some u → keeps input object u ≡ true
named_kept roots input name object number o s live asked names here at defined u unit =
    let units = units_of input.link.objects in
    let given : defined_unit units object s ≡ Some (record { object = object; unit = u }) =
    unless (is_undefined s) None (unit_at units object s) defined
    ∙ (ap (λ (n : UnitCounts). option_map (λ (v : WasmGcUnit). record { object = object; unit = v }) (unit_in n s))
    (units_here input.link.objects object o here)
    ∙ ap (option_map (λ (v : WasmGcUnit). record { object = object; unit = v })) unit) in
    let leads : named_unit input.link units name ≡ Some (record { object = object; unit = u }) =
    ap (option_and_then (λ (d : Definition). definition_unit input.link units d)) names
    ∙ rw (here, at) given in
    roots input.link input.live (record { object = object; unit = u }) live
    (by_name (record { name = name; asked = asked; leads = leads }))

-- ---- data

from_in : (input : Input) (object n k m : ℕ) (symbols : List LinkedSymbol) (s : LinkedSymbol) → n + k ≡ m
    → slice_get symbols k ≡ Some s → is_dynamic_data input object m s ≡ true
    → IsIn (dynamic_from input object n symbols) (record { object = object; symbol = m })
from_in input object n k m [] s same at passes = absurd cc
from_in input object n zero m (x ∷ symbols) s same at passes =
    let is : x ≡ s = cc in
    let number : m ≡ n = omega (arith, same) in
    let P : LinkedSymbol → Type 0 = λ y. is_dynamic_data input object m y ≡ true in
    let here : is_dynamic_data input object m x ≡ true = subst P (sym is) passes in
    let Q : ℕ → Type 0 = λ i. is_dynamic_data input object i x ≡ true in
    let now : is_dynamic_data input object n x ≡ true = subst Q number here in
    let one : DataSymbol = record { object = object; symbol = n } in
    let part : (if is_dynamic_data input object n x then one ∷ [] else []) ≡ one ∷ [] =
    when (is_dynamic_data input object n x) (one ∷ []) [] now in
    in_front (if is_dynamic_data input object n x then one ∷ [] else []) (dynamic_from input object (n + 1) symbols)
    (record { object = object; symbol = m })
    (subst (λ (ds : List DataSymbol). IsIn ds (record { object = object; symbol = m })) (sym part)
    (inl (ap (λ i. record { object = object; symbol = i }) (sym number))))
from_in input object n (suc k) m (x ∷ symbols) s same at passes =
    in_back (if is_dynamic_data input object n x then record { object = object; symbol = n } ∷ [] else [])
    (dynamic_from input object (n + 1) symbols) (record { object = object; symbol = m })
    (from_in input object (n + 1) k m symbols s (omega (arith, same)) at passes)

dynamic_there : (input : Input) (object number : ℕ) (o : Object) (s : LinkedSymbol)
    → input.link.args.export_dynamic ≡ true → slice_get input.link.objects object ≡ Some o
    → slice_get o.symbols number ≡ Some s → is_dynamic_data input object number s ≡ true
    → IsIn (dynamic_data input) (record { object = object; symbol = number })
dynamic_there input object number o s dynamic here at passes =
    let all : List DataSymbol = by_object (dynamic_in input) 0 input.link.objects in
    let is : dynamic_data input ≡ all = when input.link.args.export_dynamic all [] dynamic in
    subst (λ (ds : List DataSymbol). IsIn ds (record { object = object; symbol = number })) (sym is)
    (object_in (dynamic_in input) 0 object object input.link.objects o (record { object = object; symbol = number })
    (omega arith) here (from_in input object 0 number number o.symbols s (omega arith) at passes))

forced_there : (input : Input) (name : List ℕ) (object number : ℕ) (o : Object) (s : LinkedSymbol)
    → Contains input.link.args.export_symbols name → is_made_name input name ≡ false
    → named input.link name ≡ Some (Symbol object number)
    → slice_get input.link.objects object ≡ Some o → slice_get o.symbols number ≡ Some s
    → is_undefined s ≡ false → is_data s.kind ≡ true
    → Contains (exported_data input) (record { object = object; symbol = number })
forced_there input name object number o s asked unmade names here at defined data_kind =
    let d : DataSymbol = record { object = object; symbol = number } in
    let stands : symbol_in input.link.objects object number ≡ Some s = rw (here, at) refl in
    let is : is_defined_data s ≡ true = rw (data_kind, defined) refl in
    let given : data_of input (Symbol object number) ≡ Some d = rw (here, at, is) refl in
    let forced : forced_by input name ≡ Some d =
    unless (is_made_name input name) None (option_and_then (data_of input) (named input.link name)) unmade
    ∙ (ap (option_and_then (data_of input)) names ∙ given) in
    elim (cases_Bool (is_dynamic input d)) [
      | inl holds ↦
          let parts = and_parts input.link.args.export_dynamic
          (option_map_or (is_dynamic_data input object number) (symbol_in input.link.objects object number) false) holds in
          let passes : is_dynamic_data input object number s ≡ true =
          sym (ap (λ (x : Option LinkedSymbol). option_map_or (is_dynamic_data input object number) x false) stands)
          ∙ parts.1 in
          in_list (exported_data input) d
          (in_front (dynamic_data input) (forced_data input) d
          (dynamic_there input object number o s parts.0 here at passes))
      | inr fails ↦
          in_list (exported_data input) d
          (in_back (dynamic_data input) (forced_data input) d
          (in_once []
          (filter (λ (e : DataSymbol). not (is_dynamic input e))
          (filter_map (forced_by input) input.link.args.export_symbols)) d
          (filter_in (λ (e : DataSymbol). not (is_dynamic input e))
          (filter_map (forced_by input) input.link.args.export_symbols) d (ap not fails)
          (filter_map_in (forced_by input) input.link.args.export_symbols name d forced
          (list_in input.link.args.export_symbols name asked)))))
    ]

-- ---- symbols that are exported

pub shown_forced : AreKeptRoots → (input : Input) (name : List ℕ) (object number : ℕ) (o : Object) (s : LinkedSymbol)
    → IsLiveOf input.link input.live → Contains input.link.args.export_symbols name
    → is_made_name input name ≡ false → named input.link name ≡ Some (Symbol object number)
    → slice_get input.link.objects object ≡ Some o → slice_get o.symbols number ≡ Some s
    → IsShown input object number o s
shown_forced roots input name object number o s live asked unmade names here at = record {
  here = here;
  at = at;
  kept = λ defined u unit. named_kept roots input name object number o s live (inl asked) names here at
      defined u unit;
  data_shown = λ defined data_kind. forced_there input name object number o s asked unmade names here at
      defined data_kind;
}

pub shown_candidate : AreKeptRoots → (input : Input) (object number : ℕ) (o : Object) (s : LinkedSymbol)
    → IsLiveOf input.link input.live → input.link.args.export_dynamic ≡ true
    → slice_get input.link.objects object ≡ Some o → slice_get o.symbols number ≡ Some s
    → has_name s ≡ true → is_candidate input.link object number s ≡ true → IsShown input object number o s
shown_candidate roots input object number o s live dynamic here at has passes =
    let root : is_root_symbol input.link object number s ≡ true =
    or_right (is_kept_symbol s) (input.link.args.export_dynamic && is_candidate input.link object number s)
    (rw (dynamic, passes) refl) in
    record {
      here = here;
      at = at;
      kept = λ defined u unit. roots input.link input.live (record { object = object; unit = u }) live
          (by_symbol (record {
            object = o;
            here = here;
            number = number;
            symbol = s;
            at = at;
            kept = root;
            is = unit;
          }));
      data_shown = λ defined data_kind. in_list (exported_data input) (record { object = object; symbol = number })
          (in_front (dynamic_data input) (forced_data input) (record { object = object; symbol = number })
          (dynamic_there input object number o s dynamic here at (rw (passes, data_kind, has) refl)));
    }

-- ---- what symbols define

function_unit : (o : Object) (s : LinkedSymbol) (n : ℕ) → s.kind ≡ Func → is_undefined s ≡ false
    → own_number Func o s.index ≡ Some n → unit_of o s ≡ Some (DefinedFunction n)
function_unit o s n kind defined given = rw (defined, kind, given) refl

pub function_value : (object number : ℕ) (o : Object) (index n : ℕ) → own_number Func o index ≡ Some n
    → defined_of_kind object number o Func index ≡ Some (OfFunction (FunctionOf (function.Defined object n)))
function_value object number o index n given = ap (option_map (λ n. OfFunction (FunctionOf (function.Defined object n)))) given

function_is : AreNumbered → AreCounted → (input : Input) (object number : ℕ) (o : Object) (s : LinkedSymbol)
    → IsWhole o → slice_get o.symbols number ≡ Some s → s.kind ≡ Func → is_undefined s ≡ false
    → ((u : WasmGcUnit) → unit_of o s ≡ Some u → keeps input object u ≡ true)
    → option_map OfFunction (there (local_functions input object o) s.index)
    ≡ defined_of_kind object number o Func s.index
function_is numbered counted input object number o s whole at kind defined kept =
    let definition : is_definition_of Func s ≡ true = rw (kind, defined) refl in
    let n = numbered Func o number s whole at definition in
    let has = function_there counted input object o s.index n.0 n.1
    (kept (DefinedFunction n.0) (function_unit o s n.0 kind defined n.1)) in
    ap (option_map OfFunction) has ∙ sym (function_value object number o s.index n.0 n.1)

global_unit : (o : Object) (s : LinkedSymbol) (n : ℕ) → s.kind ≡ Global → is_undefined s ≡ false
    → own_number Global o s.index ≡ Some n → unit_of o s ≡ Some (DefinedGlobal n)
global_unit o s n kind defined given = rw (defined, kind, given) refl

pub global_value : (object number : ℕ) (o : Object) (index n : ℕ) → own_number Global o index ≡ Some n
    → defined_of_kind object number o Global index ≡ Some (OfGlobal (GlobalOf (global.Defined object n)))
global_value object number o index n given = ap (option_map (λ n. OfGlobal (GlobalOf (global.Defined object n)))) given

global_is : AreNumbered → AreGlobalsCounted → (input : Input) (object number : ℕ) (o : Object) (s : LinkedSymbol)
    → IsWhole o → slice_get o.symbols number ≡ Some s → s.kind ≡ Global → is_undefined s ≡ false
    → ((u : WasmGcUnit) → unit_of o s ≡ Some u → keeps input object u ≡ true)
    → option_map OfGlobal (there (local_globals input object o) s.index)
    ≡ defined_of_kind object number o Global s.index
global_is numbered counted input object number o s whole at kind defined kept =
    let definition : is_definition_of Global s ≡ true = rw (kind, defined) refl in
    let n = numbered Global o number s whole at definition in
    let has = global_there counted input object o s.index n.0 n.1
    (kept (DefinedGlobal n.0) (global_unit o s n.0 kind defined n.1)) in
    ap (option_map OfGlobal) has ∙ sym (global_value object number o s.index n.0 n.1)

-- the entity of a symbol that isn't undefined
entity_of : (input : Input) (object number : ℕ) (o : Object) (s : LinkedSymbol) (kind : WasmSymbolKind)
    → is_undefined s ≡ false → s.kind ≡ kind
    → defined_entity input object number o s ≡ defined_of_kind object number o kind s.index
entity_of input object number o s kind defined is =
    unless (is_undefined s) None (defined_of_kind object number o s.kind s.index) defined
    ∙ ap (λ (k : WasmSymbolKind). defined_of_kind object number o k s.index) is

pub function_shown : AreNumbered → AreCounted → (input : Input) (object number : ℕ) (o : Object) (s : LinkedSymbol)
    (name : List ℕ) (x : Option Exported)
    → IsWhole o → slice_get o.symbols number ≡ Some s → s.kind ≡ Func → is_undefined s ≡ false
    → ((u : WasmGcUnit) → unit_of o s ≡ Some u → keeps input object u ≡ true)
    → IsPlainIf input (option_map (export_of name) (option_map OfFunction (there (local_functions input object o) s.index))) x
    → IsPlainIf input (option_map (export_of name) (defined_entity input object number o s)) x
function_shown numbered counted input object number o s name x whole at kind defined kept is =
    subst (λ (e : Option Entity). IsPlainIf input (option_map (export_of name) e) x)
    (function_is numbered counted input object number o s whole at kind defined kept
    ∙ sym (entity_of input object number o s Func defined kind)) is

pub global_shown : AreNumbered → AreGlobalsCounted → (input : Input) (object number : ℕ) (o : Object) (s : LinkedSymbol)
    (name : List ℕ) (x : Option Exported)
    → IsWhole o → slice_get o.symbols number ≡ Some s → s.kind ≡ Global → is_undefined s ≡ false
    → ((u : WasmGcUnit) → unit_of o s ≡ Some u → keeps input object u ≡ true)
    → IsPlainIf input (option_map (export_of name) (option_map OfGlobal (there (local_globals input object o) s.index))) x
    → IsPlainIf input (option_map (export_of name) (defined_entity input object number o s)) x
global_shown numbered counted input object number o s name x whole at kind defined kept is =
    subst (λ (e : Option Entity). IsPlainIf input (option_map (export_of name) e) x)
    (global_is numbered counted input object number o s whole at kind defined kept
    ∙ sym (entity_of input object number o s Global defined kind)) is

pub data_shown : (input : Input) (object number : ℕ) (o : Object) (s : LinkedSymbol)
    (name : List ℕ) (x : Option Exported) → s.kind ≡ Data → is_undefined s ≡ false
    → IsPlainIf input (Some (export_of name (OfGlobal (DataOf (record { object = object; symbol = number }))))) x
    → IsPlainIf input (option_map (export_of name) (defined_entity input object number o s)) x
data_shown input object number o s name x kind defined is =
    subst (λ (e : Option Entity). IsPlainIf input (option_map (export_of name) e) x)
    (sym (entity_of input object number o s Data defined kind)) is

-- ---- the entry

pub kept_entry : AreKeptRoots → (input : Input) (name : List ℕ) (object number : ℕ) (o : Object) (s : LinkedSymbol)
    → IsLiveOf input.link input.live → input.link.args.entry ≡ Some name
    → named input.link name ≡ Some (Symbol object number)
    → slice_get input.link.objects object ≡ Some o → slice_get o.symbols number ≡ Some s
    → is_undefined s ≡ false → (u : WasmGcUnit) → unit_of o s ≡ Some u → keeps input object u ≡ true
kept_entry roots input name object number o s live asked names here at =
    named_kept roots input name object number o s live (inr asked) names here at
