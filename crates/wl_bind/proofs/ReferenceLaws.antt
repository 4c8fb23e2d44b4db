-- What kept relocations name is in the output: types, symbols and functions.
use Rattle.std.proofs.Common.{◌≡◌, ◌∙◌, ◌<◌, ◌||◌, ◌&&◌, ◌==◌, not, ℕ, zero, suc, ◌+◌, Bool, true, false, List, [], ◌∷◌, ◌++◌, length, filter_map, refl, sym, ap, subst, arith, inl, inr, Option, Some, None, slice_get, Contains, nat_lt, if◌then◌else◌}
use Rattle.std.specs.List.{list_any, list_all}
use Rattle.std.specs.Option.{option_and_then, option_map, option_map_or, option_or}
use Rattle.std.proofs.lemmas.Bool.{cases_Bool, ltb-true, and_from, not-true, and_parts, or_left, or_right}
use Rattle.wl_module.specs.Types.{FunctionType}
use Rattle.wl_module.specs.declared.imports.ExternalKind.TheVariants as external
use Rattle.wl_linking.specs.Fitting.{IsWhole, IsFitting}
use Rattle.wl_linking.specs.Object.{Object}
use Rattle.wl_custom.specs.RelocationTypes.{taking_of, names_a_type, takes_kind, is_global_index, is_table_index}
use Rattle.wl_linking.specs.Spaces.{count_imports, spaces_of, symbol_exists, relocation_exists}
use Rattle.wl_custom.specs.Symbols.{Symbol as LinkedSymbol, is_data, is_undefined, is_weak, is_function}
use Rattle.wl_linking.specs.declared.error.LinkError.TheVariants.{WrongKind}
use Rattle.wl_custom.specs.Takings.{is_type, is_slot, is_global}
use Rattle.wl_custom.specs.declared.takings.Taking.{Taking}
use Rattle.wl_custom.specs.declared.takings.Taking.TheVariants.{TypeIndex}
use Rattle.wl_custom.specs.declared.relocations.WasmRelocation.{WasmRelocation}
use Rattle.wl_linking.specs.declared.sites.Site.{Site}
use Rattle.wl_linking.specs.declared.spaces.Counts.{Counts}
use Rattle.wl_custom.specs.declared.symbols.WasmSymbolKind.TheVariants.{Func}
use Rattle.wl_symbols.specs.Entries.{symbol_in}
use Rattle.wl_symbols.specs.Link.{Link}
use Rattle.wl_symbols.specs.LinkerNames.{is_imported_as}
use Rattle.wl_symbols.specs.Names.{def}
use Rattle.wl_symbols.specs.declared.entry.Definition.{Definition}
use Rattle.wl_symbols.specs.declared.entry.Definition.TheVariants.{Symbol, Made as MadeName}
use Rattle.wl_symbols.specs.DefinedUnits.{unit_at, other_unit, is_replaceable, gives_way}
use Rattle.wl_symbols.specs.Live.{Live, is_live}
use Rattle.wl_symbols.specs.References.{HasRelocation}
use Rattle.wl_symbols.specs.Units.{units_of, unit_of, unit_in as unit_by_counts}
use Rattle.wl_symbols.specs.declared.units.LinkUnit.{LinkUnit}
use Rattle.wl_symbols.specs.declared.units.UnitCounts.{UnitCounts}
use Rattle.wl_symbols.specs.declared.units.WasmGcUnit.{WasmGcUnit}
use Rattle.wl_symbols.specs.declared.units.WasmGcUnit.TheVariants.{DefinedFunction, FunctionImport}
use Rattle.wl_symbols.specs.ImportSlots.{ImportSlot, object_slots, import_slots}
use Rattle.wl_symbols.specs.SlotTargets.{own_number, is_definition_of, object_target, symbol_target}
use Rattle.wl_symbols.specs.declared.targets.SlotTarget.{SlotTarget}
use Rattle.wl_symbols.specs.declared.targets.SlotTarget.TheVariants as slot
use Rattle.wl_bind.specs.FunctionBinding.{named_function, binds_function}
use Rattle.wl_bind.specs.FunctionSymbols.{kept_binding, binding_at, defined_function, own_function, function_of, fun}
use Rattle.wl_symbols.specs.Input.{Input, keeps}
use Rattle.wl_symbols.specs.KeptSlots.{slots_from, is_kept_slot}
use Rattle.wl_bind.specs.Kinds.{is_no_data}
use Rattle.wl_bind.specs.OutputTypes.{is_type_of_function, is_type_of_host, names_type, is_live_type, types_if, local_types}
use Rattle.wl_bind.specs.Parts.{by_object}
use Rattle.wl_bind.specs.References.{HasSlot, IsInOutput, IsSettled, NamesType, NamesSymbol, NamesFunction}
use Rattle.wl_symbols.specs.Relocations.{unit_in, keeps_unit, relocated_at, relocated_if, relocated_in, object_relocations, relocations_from}
use Rattle.wl_bind.specs.Sameness.{same_target}
use Rattle.wl_symbols.specs.Relocations.{relocations}
use Rattle.wl_bind.specs.Scan.{symbol_of, names_function, definition_of, function_of as function_named, unless_stub, table_function_of, table_functions}
use Rattle.wl_bind.specs.declared.binding.FunctionTarget.{FunctionTarget}
use Rattle.wl_bind.specs.declared.binding.FunctionTarget.TheVariants as function
use Rattle.wl_symbols.specs.declared.relocated.FixupPlace.{FixupPlace}
use Rattle.wl_symbols.specs.declared.relocated.FixupPlace.TheVariants.{Code, Segment}
use Rattle.wl_symbols.specs.declared.relocated.Relocated.{Relocated}
use Rattle.wl_lists.proofs.Firsts.{in_firsts}
use Rattle.wl_lists.proofs.Found.{cases_option, any_in}
use Rattle.wl_lists.proofs.In.{IsIn, in_split, Contains-filter as stays, at_is_in, list_in, in_list}
use Rattle.wl_lists.proofs.Places.{test_at, there_is, all_at}
use Rattle.wl_lists.proofs.Rows.{Given, given_by}
use Rattle.wl_bind.proofs.ClosedLaws.{function_units, counts_at, definition_is, other_is}
use Rattle.wl_bind.proofs.HostLaws.{IsAt, placed, kept_at, slots_here}
use Rattle.wl_bind.specs.steps.Laws.{LinkLaws}
use Rattle.wl_bind.proofs.SlotIndexLaws.{binding_of}
use Rattle.wl_bind.proofs.RedirectLaws.{target_is, undefined_below, kind_is}
use Rattle.wl_bind.proofs.RowLaws.{slot_is_one}
use Rattle.wl_bind.proofs.SameLaws.{eqb_self, target_self, target_one}
use Rattle.wl_bind.proofs.ListedLaws.{MadeOf, made_of_some, still_in}
use Rattle.wl_bind.proofs.FirstSlotLaws.{bound_is_there, kept_is_there}
use Rattle.wl_bind.proofs.ListLaws.{made_of_one}

-- ---- where a kept relocation is from

relocations_by_object : (live : Live) (i : ℕ) (objects : List Object)
    → relocations_from live i objects ≡ by_object (object_relocations live) i objects
relocations_by_object live i [] = refl
relocations_by_object live i (o ∷ objects) =
    ap (λ (rs : List Relocated). object_relocations live i o ++ rs) (relocations_by_object live (i + 1) objects)

kept_if : (live : Live) (q r : Relocated) → IsIn (relocated_if live q) r
    → (q ≡ r) × (keeps_unit live r.place r.object r.site.unit ≡ true)
kept_if live q r h = by (keeps_unit live q.place q.object q.site.unit) refl h
  where
    by : (b : Bool) → keeps_unit live q.place q.object q.site.unit ≡ b → IsIn (if b then q ∷ [] else []) r
        → (q ≡ r) × (keeps_unit live r.place r.object r.site.unit ≡ true)
    by true is (inl e) = (e, subst (λ (z : Relocated). keeps_unit live z.place z.object z.site.unit ≡ true) e is)
    by true is (inr none) = absurd none
    by false is none = absurd none

record IsRelocated (live : Live) (place : FixupPlace) (i : ℕ) (rs : List WasmRelocation) (ss : List Site) (r : Relocated) : Type 0 where
  object_is : r.object ≡ i
  place_is : r.place ≡ place
  k : ℕ
  relocation_at : slice_get rs k ≡ Some r.relocation
  site_at : slice_get ss k ≡ Some r.site
  kept : keeps_unit live r.place r.object r.site.unit ≡ true

relocated_is : (live : Live) (place : FixupPlace) (i : ℕ) (rs : List WasmRelocation) (ss : List Site) (r : Relocated)
    → IsIn (relocated_in live place i rs ss) r → IsRelocated live place i rs ss r
relocated_is live place i (x ∷ rs) (s ∷ ss) r h =
    elim (in_split (relocated_if live (relocated_at place i x s)) (relocated_in live place i rs ss) r h) [
      | inl first ↦ (let one = kept_if live (relocated_at place i x s) r first in
          record {
            object_is = ap (λ (q : Relocated). q.object) (sym one.0);
            place_is = ap (λ (q : Relocated). q.place) (sym one.0);
            k = zero;
            relocation_at = ap (λ (q : Relocated). Some q.relocation) one.0;
            site_at = ap (λ (q : Relocated). Some q.site) one.0;
            kept = one.1;
          })
      | inr later ↦ (let rest = relocated_is live place i rs ss r later in
          record {
            object_is = rest.object_is;
            place_is = rest.place_is;
            k = suc rest.k;
            relocation_at = rest.relocation_at;
            site_at = rest.site_at;
            kept = rest.kept;
          })
    ]
relocated_is live place i _ _ r h = absurd h

-- its object, and the unit in which its field lies
pub record IsFrom (input : Input) (r : Relocated) : Type 0 where
  pub object : Object
  pub here : slice_get input.link.objects r.object ≡ Some object
  pub among : IsIn (object_relocations input.live r.object object) r
  pub holds : HasRelocation object (unit_in r.place r.site.unit) r.relocation
  pub kept : is_live input.live (record { object = r.object; unit = unit_in r.place r.site.unit }) ≡ true
  pub names : IsFitting object → relocation_exists (spaces_of object) r.relocation ≡ true

-- relocations of code, or those of segments
from_part : (input : Input) (place : FixupPlace) (i : ℕ) (o : Object) (rs : List WasmRelocation) (ss : List Site) (r : Relocated)
    → slice_get input.link.objects i ≡ Some o → IsIn (object_relocations input.live i o) r → IsIn (relocated_in input.live place i rs ss) r
    → ((k : ℕ) (site : Site) → slice_get rs k ≡ Some r.relocation → slice_get ss k ≡ Some site → HasRelocation o (unit_in place site.unit) r.relocation)
    → (IsFitting o → list_all (relocation_exists (spaces_of o)) rs ≡ true) → IsFrom input r
from_part input place i o rs ss r here among h holds exist =
    let is : IsRelocated input.live place i rs ss r = relocated_is input.live place i rs ss r h in
    record {
      object = o;
      here = subst (λ (n : ℕ). slice_get input.link.objects n ≡ Some o) (sym is.object_is) here;
      among = subst (λ (n : ℕ). IsIn (object_relocations input.live n o) r) (sym is.object_is) among;
      holds = subst (λ (p : FixupPlace). HasRelocation o (unit_in p r.site.unit) r.relocation) (sym is.place_is)
          (holds is.k r.site is.relocation_at is.site_at);
      kept = is.kept;
      names = λ fit. test_at (relocation_exists (spaces_of o)) rs is.k r.relocation (exist fit) is.relocation_at;
    }

is_from : (input : Input) (r : Relocated) → Contains (relocations input) r → IsFrom input r
is_from input r listed =
    let objects : List Object = input.link.objects in
    let all : IsIn (by_object (object_relocations input.live) 0 objects) r =
    subst (λ (rs : List Relocated). IsIn rs r) (relocations_by_object input.live 0 objects) (list_in (relocations input) r listed) in
    let g : Given (object_relocations input.live) 0 objects r = given_by (object_relocations input.live) 0 objects r all in
    let same : 0 + g.place ≡ g.place = omega arith in
    let o : Object = g.object in
    let there : IsIn (object_relocations input.live g.place o) r =
    subst (λ (n : ℕ). IsIn (object_relocations input.live n o) r) same g.there in
    elim (in_split (relocated_in input.live Code g.place o.code_relocations o.code_sites)
    (relocated_in input.live Segment g.place o.data_relocations o.data_sites) r there) [
      | inl code ↦ from_part input Code g.place o o.code_relocations o.code_sites r g.at there code
          (λ k site at here. (k, site, at, here, refl)) (λ fit. fit.names.code)
      | inr segment ↦ from_part input Segment g.place o o.data_relocations o.data_sites r g.at there segment
          (λ k site at here. (k, site, at, here, refl)) (λ fit. fit.names.data_)
    ]

-- ---- types

types_there : (test : ℕ → Bool) (n : ℕ) (types : List FunctionType) (k m : ℕ) (ty : FunctionType) → m ≡ n + k
    → slice_get types k ≡ Some ty → test m ≡ true → slice_get (types_if test n types) k ≡ Some (Some ty)
types_there test n [] k m ty is at so = absurd cc
types_there test n (t ∷ types) zero m ty is at so =
    let same : t ≡ ty = cc in
    let here : n ≡ m = omega (arith, is) in
    let passed : test n ≡ true = ap test here ∙ so in
    ap (λ (b : Bool). Some (if b then Some t else None)) passed ∙ ap (λ (x : FunctionType). Some (Some x)) same
types_there test n (t ∷ types) (suc k) m ty is at so = types_there test (n + 1) types k m ty (omega (arith, is)) at so

-- a live type is there
pub live_there : (input : Input) (object : ℕ) (o : Object) (number : ℕ) (ty : FunctionType) → slice_get o.types number ≡ Some ty
    → is_live_type input object o number ≡ true → slice_get (local_types input object o) number ≡ Some (Some ty)
live_there input object o number ty at so =
    types_there (is_live_type input object o) 0 o.types number number ty (omega arith) at so

type_below : (spaces : Counts) (r : WasmRelocation) → names_a_type r.ty ≡ true → relocation_exists spaces r ≡ true → r.index < spaces.types
type_below spaces r so there =
    let lt : nat_lt r.index spaces.types ≡ true = rw so at there in ltb-true r.index spaces.types lt

symbol_below : (spaces : Counts) (r : WasmRelocation) → names_a_type r.ty ≡ false → relocation_exists spaces r ≡ true → r.index < spaces.symbols
symbol_below spaces r so there =
    let lt : nat_lt r.index spaces.symbols ≡ true = rw so at there in ltb-true r.index spaces.symbols lt

pub type_is_named : LinkLaws → (input : Input) (r : Relocated) → IsSettled input → Contains (relocations input) r
    → names_a_type r.relocation.ty ≡ true → NamesType input r
type_is_named laws input r settled listed so =
    let from : IsFrom input r = is_from input r listed in
    let o : Object = from.object in
    let number : ℕ = r.relocation.index in
    let fit : IsFitting o = laws.fitting o (all_at IsWhole input.link.objects r.object o settled.whole from.here) in
    let lt : number < length o.types = type_below (spaces_of o) r.relocation so (from.names fit) in
    let ty = there_is o.types number lt in
    let named : list_any (names_type number) (object_relocations input.live r.object o) ≡ true =
    any_in (names_type number) (object_relocations input.live r.object o) r from.among
    (and_from (names_a_type r.relocation.ty) (r.relocation.index == number) so (eqb_self number)) in
    let live : is_live_type input r.object o number ≡ true =
    or_right (is_type_of_function input r.object o number || list_any (is_type_of_host input number) (object_slots r.object Func o))
    (list_any (names_type number) (object_relocations input.live r.object o)) named in
    record {
      object = o;
      here = from.here;
      ty = ty.0;
      live = ap (λ (x : Option (Option FunctionType)). option_and_then (λ (y : Option FunctionType). y) x)
          (live_there input r.object o number ty.0 ty.1 live);
    }

-- ---- the symbol that a kept relocation names

symbol_found : (objects : List Object) (object number : ℕ) (o : Object) (s : LinkedSymbol) → slice_get objects object ≡ Some o
    → slice_get o.symbols number ≡ Some s → symbol_in objects object number ≡ Some s
symbol_found objects object number o s at there = rw at there

pub record Names (input : Input) (r : Relocated) : Type 0 where
  pub from : IsFrom input r
  pub whole : IsWhole from.object
  pub other : names_a_type r.relocation.ty ≡ false
  pub symbol : LinkedSymbol
  pub at : slice_get (from.object).symbols r.relocation.index ≡ Some symbol
  pub found : symbol_of input r ≡ Some symbol
  pub taken : takes_kind r.relocation.ty symbol.kind ≡ true
  pub thing : symbol_exists (spaces_of from.object) symbol ≡ true

pub names_one : LinkLaws → (input : Input) (r : Relocated) → IsSettled input → Contains (relocations input) r
    → names_a_type r.relocation.ty ≡ false → Names input r
names_one laws input r settled listed other =
    let from : IsFrom input r = is_from input r listed in
    let o : Object = from.object in
    let number : ℕ = r.relocation.index in
    let whole : IsWhole o = all_at IsWhole input.link.objects r.object o settled.whole from.here in
    let fit : IsFitting o = laws.fitting o whole in
    let lt : number < length o.symbols = symbol_below (spaces_of o) r.relocation other (from.names fit) in
    let s = there_is o.symbols number lt in
    let found : symbol_of input r ≡ Some s.0 = symbol_found input.link.objects r.object number o s.0 from.here s.1 in
    record {
      from = from;
      whole = whole;
      other = other;
      symbol = s.0;
      at = s.1;
      found = found;
      taken = elim (cases_Bool (takes_kind r.relocation.ty (s.0).kind)) [
        | inl so ↦ so
        | inr fails ↦ absurd (settled.kinds.none (WrongKind r.object number) (inl (record {
          relocated = r;
          kept = listed;
          by_symbol = other;
          symbol = s.0;
          names = found;
          wrong = or_left (not (takes_kind r.relocation.ty (s.0).kind)) (is_data (s.0).kind && is_no_data input (definition_of input r))
              (ap not fails);
          told = refl;
        })))
      ];
      thing = test_at (symbol_exists (spaces_of o)) o.symbols number s.0 fit.names.symbols s.1;
    }

abbrev pub as_named : (input : Input) (r : Relocated) → Names input r → NamesSymbol input r
as_named input r n = record {
  object = n.from.object;
  here = n.from.here;
  symbol = n.symbol;
  at = n.at;
  taken = n.taken;
}

pub symbol_is_named : LinkLaws → (input : Input) (r : Relocated) → IsSettled input → Contains (relocations input) r
    → names_a_type r.relocation.ty ≡ false → NamesSymbol input r
symbol_is_named laws input r settled listed other = as_named input r (names_one laws input r settled listed other)

-- ---- its unit is kept

unit_there : (objects : List Object) (i : ℕ) (o : Object) (s : LinkedSymbol) (unit : WasmGcUnit) → slice_get objects i ≡ Some o
    → unit_of o s ≡ Some unit → unit_at (units_of objects) i s ≡ Some (record { object = i; unit = unit })
unit_there objects i o s unit here is =
    let at_unit : WasmGcUnit → LinkUnit = λ (u : WasmGcUnit). record { object = i; unit = u } in
    ap (λ (n : UnitCounts). option_map at_unit (unit_by_counts n s)) (counts_at objects i o here)
    ∙ ap (λ (u : Option WasmGcUnit). option_map at_unit u) is

pub named_unit_kept : LinkLaws → (input : Input) (r : Relocated) → IsSettled input → (n : Names input r) → (unit : WasmGcUnit)
    → unit_of n.from.object n.symbol ≡ Some unit → keeps input r.object unit ≡ true
named_unit_kept laws input r settled n unit is =
    laws.by_symbol input.link input.live (record { object = r.object; unit = unit_in r.place r.site.unit })
    (record { object = r.object; unit = unit }) settled.kept n.from.kept
    (record {
      object = n.from.object;
      here = n.from.here;
      relocation = r.relocation;
      holds = n.from.holds;
      other = n.other;
      symbol = n.symbol;
      names = n.at;
      leads = inl (unit_there input.link.objects r.object n.from.object n.symbol unit n.from.here is);
    })

-- so is that of what stands in its place
other_unit_kept : LinkLaws → (input : Input) (r : Relocated) → IsSettled input → (n : Names input r) → (v : LinkUnit)
    → is_replaceable n.symbol ≡ true → other_unit input.link (units_of input.link.objects) r.object r.relocation.index ≡ Some v
    → is_live input.live v ≡ true
other_unit_kept laws input r settled n v so is =
    let ns : List UnitCounts = units_of input.link.objects in
    laws.by_symbol input.link input.live (record { object = r.object; unit = unit_in r.place r.site.unit }) v settled.kept n.from.kept
    (record {
      object = n.from.object;
      here = n.from.here;
      relocation = r.relocation;
      holds = n.from.holds;
      other = n.other;
      symbol = n.symbol;
      names = n.at;
      leads = inr (ap (λ (b : Bool). if b then other_unit input.link ns r.object r.relocation.index else None) so ∙ is);
    })

-- ---- what a function symbol leads to

pub record LeadsOut (input : Input) (found : Option FunctionTarget) : Type 0 where
  pub target : FunctionTarget
  pub leads : found ≡ Some target
  pub there : IsInOutput input target

undefined_leads : LinkLaws → (input : Input) (r : Relocated) → IsSettled input → (n : Names input r) → n.symbol.kind ≡ Func
    → is_undefined n.symbol ≡ true → LeadsOut input (binding_at input r.object n.symbol.index)
undefined_leads laws input r settled n kind so =
    let o : Object = n.from.object in
    let s : LinkedSymbol = n.symbol in
    let lt : s.index < count_imports external.Func o.imports = undefined_below (spaces_of o) s kind so n.thing in
    let count = laws.functions r.object o in
    let long : s.index < length (object_slots r.object Func o) = omega (arith, lt, count) in
    let there = there_is (object_slots r.object Func o) s.index long in
    let t : ImportSlot = there.0 in
    let same : import_slots input.link.objects r.object Func ≡ object_slots r.object Func o =
    slots_here input.link.objects r.object Func o n.from.here in
    let at : slice_get (import_slots input.link.objects r.object Func) s.index ≡ Some t =
    ap (λ (ts : List ImportSlot). slice_get ts s.index) same ∙ there.1 in
    let is_at : IsAt r.object Func s.index t = placed input.link.objects r.object Func s.index t at in
    let unit : keeps input r.object (FunctionImport s.index) ≡ true =
    named_unit_kept laws input r settled n (FunctionImport s.index)
    (function_units.undefined r.object s.index o s (ap (is_imported_as Func) kind) so long) in
    let kept : is_kept_slot input t ≡ true = sym (kept_at input r.object Func s.index t is_at) ∙ unit in
    record {
      target = binds_function input t;
      leads = ap (λ (x : Option ImportSlot). option_and_then (kept_binding input) x) at
          ∙ ap (λ (b : Bool). if b then Some (binds_function input t) else None) kept;
      there = bound_is_there (binding_of laws) input settled.kept r.object s.index o t (record {
        here = n.from.here;
        at = there.1;
        is_at = is_at;
        kept = kept;
        listed = stays (is_kept_slot input) (slots_from Func 0 input.link.objects) t
            (slot_is_one Func input.link.objects r.object t (at_is_in (import_slots input.link.objects r.object Func) s.index t at)) kept;
      });
    }

own_leads : LinkLaws → (input : Input) (r : Relocated) → IsSettled input → (n : Names input r) → is_definition_of Func n.symbol ≡ true
    → LeadsOut input (own_function r.object n.from.object n.symbol)
own_leads laws input r settled n defines =
    let o : Object = n.from.object in
    let s : LinkedSymbol = n.symbol in
    let number = laws.numbers Func o r.relocation.index s n.whole n.at defines in
    record {
      target = function.Defined r.object number.0;
      leads = ap (λ (x : Option SlotTarget). option_map named_function x) (target_is r.object o s number.0 defines number.1);
      there = kept_is_there input settled.kept r.object number.0
          (named_unit_kept laws input r settled n (DefinedFunction number.0) (function_units.defined o s number.0 defines number.1));
    }

-- the definition that a target is of
record IsOwn (objects : List Object) (i k : ℕ) (target : SlotTarget) : Type 0 where
  o : Object
  here : slice_get objects i ≡ Some o
  s : LinkedSymbol
  at : slice_get o.symbols k ≡ Some s
  defines : is_definition_of Func s ≡ true
  number : ℕ
  number_is : own_number Func o s.index ≡ Some number
  target_is : slot.Defined i number ≡ target

target_of : (i : ℕ) (target : SlotTarget) (b : Bool) (number : Option ℕ)
    → (if b then option_map (λ (n : ℕ). slot.Defined i n) number else None) ≡ Some target
    → (b ≡ true) × ((n : ℕ) × (number ≡ Some n) × (slot.Defined i n ≡ target))
target_of i target true (Some n) is = (refl, (n, refl, cc))
target_of i target _ _ is = absurd cc

own_of : (link : Link) (i k : ℕ) (target : SlotTarget) → object_target link Func (Symbol i k) ≡ Some target
    → IsOwn link.objects i k target
own_of link i k target is = elim (cases_option (slice_get link.objects i)) [
  | inl none ↦ absurd (let e : None ≡ Some target = rw none at is in cc)
  | inr o ↦ elim (cases_option (slice_get (o.0).symbols k)) [
    | inl none ↦ absurd (let e : None ≡ Some target = rw (o.1, none) at is in cc)
    | inr s ↦
        (let e : symbol_target Func i o.0 s.0 ≡ Some target = rw (o.1, s.1) at is in
        let t = target_of i target (is_definition_of Func s.0) (own_number Func o.0 (s.0).index) e in
        let number = t.1 in
        record {
          o = o.0;
          here = o.1;
          s = s.0;
          at = s.1;
          defines = t.0;
          number = number.0;
          number_is = number.1;
          target_is = number.2;
        })
  ]
]

not_undefined : (s : LinkedSymbol) → is_definition_of Func s ≡ true → is_undefined s ≡ false
not_undefined s so = not-true (is_undefined s) (and_parts (not (is_undefined s)) (is_imported_as Func s.kind) so).0

-- what is defined in place of a weak function is kept
replacing_kept : LinkLaws → (input : Input) (r : Relocated) → IsSettled input → (n : Names input r) → n.symbol.kind ≡ Func
    → is_weak n.symbol ≡ true → (i k : ℕ) → def input.link r.object r.relocation.index ≡ Symbol i k → (target : SlotTarget)
    → IsOwn input.link.objects i k target → IsInOutput input (named_function target)
replacing_kept laws input r settled n kind weak i k stands target own =
    let replaceable : is_replaceable n.symbol ≡ true =
    or_right (is_undefined n.symbol) (is_weak n.symbol && gives_way n.symbol.kind)
    (and_from (is_weak n.symbol) (gives_way n.symbol.kind) weak (ap gives_way kind)) in
    let unit : other_unit input.link (units_of input.link.objects) r.object r.relocation.index
    ≡ Some (record { object = i; unit = DefinedFunction own.number }) =
    other_is input.link r.object r.relocation.index n.symbol (Symbol i k) n.found stands
    ∙ definition_is input.link i k own.o own.s (DefinedFunction own.number) own.here own.at (not_undefined own.s own.defines)
    (function_units.defined own.o own.s own.number own.defines own.number_is) in
    subst (λ (t : SlotTarget). IsInOutput input (named_function t)) own.target_is
    (kept_is_there input settled.kept i own.number
    (other_unit_kept laws input r settled n (record { object = i; unit = DefinedFunction own.number }) replaceable unit))

-- a weak function leads to what is defined in its place, or to itself
weak_leads : LinkLaws → (input : Input) (r : Relocated) → IsSettled input → (n : Names input r) → n.symbol.kind ≡ Func
    → is_weak n.symbol ≡ true → LeadsOut input (own_function r.object n.from.object n.symbol)
    → (d : Definition) → def input.link r.object r.relocation.index ≡ d
    → LeadsOut input (option_or (option_map named_function (object_target input.link Func d)) (own_function r.object n.from.object n.symbol))
weak_leads laws input r settled n kind weak own (MadeName m) stands = own
weak_leads laws input r settled n kind weak own (Symbol i k) stands =
    let self : Option FunctionTarget = own_function r.object n.from.object n.symbol in
    elim (cases_option (object_target input.link Func (Symbol i k))) [
      | inl none ↦ subst (λ (x : Option SlotTarget). LeadsOut input (option_or (option_map named_function x) self)) (sym none) own
      | inr target ↦
          subst (λ (x : Option SlotTarget). LeadsOut input (option_or (option_map named_function x) self)) (sym target.1) (record {
            target = named_function target.0;
            leads = refl;
            there = replacing_kept laws input r settled n kind weak i k stands target.0 (own_of input.link i k target.0 target.1);
          })
    ]

defined_leads : LinkLaws → (input : Input) (r : Relocated) → IsSettled input → (n : Names input r) → n.symbol.kind ≡ Func
    → is_undefined n.symbol ≡ false
    → LeadsOut input (if is_weak n.symbol
    then option_or (defined_function input r.object r.relocation.index) (own_function r.object n.from.object n.symbol)
    else own_function r.object n.from.object n.symbol)
defined_leads laws input r settled n kind not_so =
    let defines : is_definition_of Func n.symbol ≡ true =
    and_from (not (is_undefined n.symbol)) (is_imported_as Func n.symbol.kind) (ap not not_so) (ap (is_imported_as Func) kind) in
    let self : Option FunctionTarget = own_function r.object n.from.object n.symbol in
    let other : Option FunctionTarget = option_or (defined_function input r.object r.relocation.index) self in
    let own : LeadsOut input self = own_leads laws input r settled n defines in
    elim (cases_Bool (is_weak n.symbol)) [
      | inl weak ↦ subst (λ (b : Bool). LeadsOut input (if b then other else self)) (sym weak)
          (weak_leads laws input r settled n kind weak own (def input.link r.object r.relocation.index) refl)
      | inr strong ↦ subst (λ (b : Bool). LeadsOut input (if b then other else self)) (sym strong) own
    ]

function_leads : LinkLaws → (input : Input) (r : Relocated) → IsSettled input → (n : Names input r) → n.symbol.kind ≡ Func
    → LeadsOut input (function_of input r.object r.relocation.index n.from.object n.symbol)
function_leads laws input r settled n kind =
    let self : Option FunctionTarget = own_function r.object n.from.object n.symbol in
    let other : Option FunctionTarget = option_or (defined_function input r.object r.relocation.index) self in
    let bound : Option FunctionTarget = binding_at input r.object n.symbol.index in
    let defined : Option FunctionTarget = if is_weak n.symbol then other else self in
    elim (cases_Bool (is_undefined n.symbol)) [
      | inl so ↦ subst (λ (b : Bool). LeadsOut input (if b then bound else defined)) (sym so)
          (undefined_leads laws input r settled n kind so)
      | inr not_so ↦ subst (λ (b : Bool). LeadsOut input (if b then bound else defined)) (sym not_so)
          (defined_leads laws input r settled n kind not_so)
    ]

-- ---- functions

-- the function that a symbol of a place leads to
abbrev function_at : Input → ℕ → ℕ → Object → Option LinkedSymbol → Option FunctionTarget
function_at input object number o found =
    option_and_then (λ s. if is_function s.kind then function_of input object number o s else None) found

fun_is : (input : Input) (object number : ℕ) (o : Object) (s : LinkedSymbol) → slice_get input.link.objects object ≡ Some o
    → slice_get o.symbols number ≡ Some s → is_function s.kind ≡ true
    → fun input object number ≡ function_of input object number o s
fun_is input object number o s here at so =
    ap (λ (x : Option Object). option_and_then (λ (p : Object). function_at input object number p (slice_get p.symbols number)) x) here
    ∙ (ap (λ (x : Option LinkedSymbol). function_at input object number o x) at
    ∙ ap (λ (b : Bool). if b then function_of input object number o s else None) so)

names_of_kind : (input : Input) (r : Relocated) → (n : Names input r) → names_function input r ≡ true
    → is_function n.symbol.kind ≡ true
names_of_kind input r n so =
    sym (ap (λ (x : Option LinkedSymbol). option_map_or (λ (s : LinkedSymbol). is_function s.kind) x false) n.found) ∙ so

pub fun_leads : LinkLaws → (input : Input) (r : Relocated) → IsSettled input → (n : Names input r) → is_function n.symbol.kind ≡ true
    → LeadsOut input (fun input r.object r.relocation.index)
fun_leads laws input r settled n so =
    let out = function_leads laws input r settled n (kind_is n.symbol.kind so) in
    record {
      target = out.target;
      leads = fun_is input r.object r.relocation.index n.from.object n.symbol n.from.here n.at so ∙ out.leads;
      there = out.there;
    }

pub function_is_named : LinkLaws → (input : Input) (r : Relocated) → IsSettled input → Contains (relocations input) r
    → names_a_type r.relocation.ty ≡ false → names_function input r ≡ true → NamesFunction input r
function_is_named laws input r settled listed other so =
    let n : Names input r = names_one laws input r settled listed other in
    let out = fun_leads laws input r settled n (names_of_kind input r n so) in
    record { target = out.target; leads = out.leads; there_is = out.there }

-- ---- slots of the table

-- what names the slot of a function or the number of a global names no type
pub no_type : (taking : Taking) → (is_slot taking || is_global taking) ≡ true → is_type taking ≡ false
no_type TypeIndex so = absurd cc
no_type _ so = refl

in_table : (input : Input) (r : Relocated) (target : FunctionTarget) → Contains (relocations input) r
    → (is_table_index r.relocation.ty || is_global_index r.relocation.ty) ≡ true → names_function input r ≡ true
    → fun input r.object r.relocation.index ≡ Some target → unless_stub target ≡ Some target
    → Contains (table_functions input) target
in_table input r target listed asks of leads no_stub_it =
    let list : List FunctionTarget = filter_map (table_function_of input) (relocations input) in
    let given : table_function_of input r ≡ Some target =
    ap (λ (b : Bool). if b then option_and_then unless_stub (function_named input r) else None)
    (and_from (is_table_index r.relocation.ty || is_global_index r.relocation.ty) (names_function input r) asks of)
    ∙ (ap (λ (x : Option FunctionTarget). option_and_then unless_stub x) leads ∙ no_stub_it) in
    in_list (table_functions input) target
    (still_in same_target target_one list target (target_self target)
    (made_of_one (table_function_of input) (relocations input) r target (list_in (relocations input) r listed) given))

pub slot_is_there : (input : Input) (r : Relocated) (target : FunctionTarget) → Contains (relocations input) r
    → (is_table_index r.relocation.ty || is_global_index r.relocation.ty) ≡ true → names_function input r ≡ true
    → fun input r.object r.relocation.index ≡ Some target → HasSlot input target
slot_is_there input r (function.Stub i k) listed asks of leads = tt
slot_is_there input r target listed asks of leads = in_table input r target listed asks of leads refl

-- a function of the table is one that a kept relocation asks for
asked : (a b : Bool) (found : Option FunctionTarget) (target : FunctionTarget)
    → (if a && b then option_and_then unless_stub found else None) ≡ Some target
    → (a ≡ true) × (b ≡ true) × (found ≡ Some target)
asked true true (Some (function.Stub i k)) target is = absurd cc
asked true true (Some _) target is = (refl, refl, is)
asked _ _ _ target is = absurd cc

same_out : (input : Input) (found : Option FunctionTarget) (f target : FunctionTarget) → found ≡ Some f → found ≡ Some target
    → IsInOutput input f → IsInOutput input target
same_out input found f target one is there =
    let some : Some f ≡ Some target = sym one ∙ is in
    let same : f ≡ target = cc in
    subst (λ (g : FunctionTarget). IsInOutput input g) same there

pub table_is_kept : LinkLaws → (input : Input) (target : FunctionTarget) → IsSettled input → Contains (table_functions input) target
    → IsInOutput input target
table_is_kept laws input target settled listed =
    let list : List FunctionTarget = filter_map (table_function_of input) (relocations input) in
    let made : MadeOf (table_function_of input) (relocations input) target =
    made_of_some (table_function_of input) (relocations input) target
    (in_firsts same_target list target (list_in (table_functions input) target listed)) in
    let r : Relocated = made.x in
    let a = asked (is_table_index r.relocation.ty || is_global_index r.relocation.ty) (names_function input r)
    (function_named input r) target made.is in
    let f : NamesFunction input r =
    function_is_named laws input r settled (in_list (relocations input) r made.there) (no_type (taking_of r.relocation.ty) a.0) a.1 in
    same_out input (fun input r.object r.relocation.index) f.target target f.leads a.2 f.there_is
