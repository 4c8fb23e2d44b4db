-- What a kept slot is bound to is kept.
use Rattle.std.proofs.Common.{◌≡◌, ◌∙◌, ◌<◌, ℕ, zero, suc, ◌+◌, Bool, true, false, not, ◌&&◌, ◌==◌, ◌≤◌, List, [], ◌∷◌, length, refl, sym, ap, subst, arith, inl, inr, Option, Some, None, slice_get, Contains, nat_lt, if◌then◌else◌, MatchOption, eqb-true}
use Rattle.std.specs.Option.{option_map, option_map_or, option_and_then}
use Rattle.std.proofs.lemmas.Bool.{cases_Bool, and_parts, not-true}
use Rattle.std.proofs.lemmas.List.Sums.{length-filter}
use Rattle.wl_module.specs.Imports.{Imported}
use Rattle.wl_module.specs.declared.imports.ExternalKind.TheVariants as external
use Rattle.wl_linking.specs.Object.{Object}
use Rattle.wl_linking.specs.Spaces.{count_imports, is_of_kind}
use Rattle.wl_custom.specs.Symbols.{Symbol as LinkedSymbol, is_undefined}
use Rattle.wl_custom.specs.declared.symbols.WasmSymbolKind.{WasmSymbolKind}
use Rattle.wl_custom.specs.declared.symbols.WasmSymbolKind.TheVariants.{Func, Global}
use Rattle.wl_symbols.specs.Link.{Link}
use Rattle.wl_symbols.specs.Entries.{symbol_in}
use Rattle.wl_symbols.specs.LinkerNames.{is_imported_as, matches_kind}
use Rattle.wl_symbols.specs.Names.{def, def_for}
use Rattle.wl_symbols.specs.declared.entry.Definition.{Definition}
use Rattle.wl_symbols.specs.declared.entry.Definition.TheVariants.{Symbol}
use Rattle.wl_symbols.specs.declared.linker_symbol.WasmLinkerSymbol.{WasmLinkerSymbol}
use Rattle.wl_symbols.specs.DefinedUnits.{definition_unit, other_unit, defined_unit, unit_at}
use Rattle.wl_symbols.specs.Live.{Live, is_live, IsLiveOf}
use Rattle.wl_symbols.specs.References.{RefersBySlot}
use Rattle.wl_symbols.specs.Units.{units_of, counts_of, units_at, unit_in, unit_of}
use Rattle.wl_symbols.specs.declared.units.LinkUnit.{LinkUnit}
use Rattle.wl_symbols.specs.declared.units.UnitCounts.{UnitCounts}
use Rattle.wl_symbols.specs.declared.units.WasmGcUnit.{WasmGcUnit}
use Rattle.wl_symbols.specs.declared.units.WasmGcUnit.TheVariants.{DefinedFunction, DefinedGlobal, FunctionImport, GlobalImport}
use Rattle.wl_symbols.specs.ImportSlots.{ImportSlot, numbers_where, is_on, symbols_on, numbered_slots, slot_imports, object_slots}
use Rattle.wl_symbols.specs.SlotCases.{IsLeft, IsBoundTo, HasDefinition}
use Rattle.wl_symbols.specs.SlotTargets.{own_number, is_definition_of, slot_target}
use Rattle.wl_symbols.specs.declared.targets.SlotTarget.{SlotTarget}
use Rattle.wl_symbols.specs.declared.targets.SlotTarget.TheVariants as slot
use Rattle.wl_lists.proofs.In.{Contains-cons_cases}
use Rattle.wl_bind.proofs.HostLaws.{IsAt}

-- ---- facts about slots

-- what each slot is bound to, case by case; and what a live one refers to is live
pub record SlotLaws : Type 0 where
  pub targets : (link : Link) (t : ImportSlot)
      → MatchOption (slot_target link t) (IsLeft link t) (IsBoundTo link t)
  pub closed : (link : Link) (live : Live) (u v : LinkUnit) → IsLiveOf link live
      → is_live live u ≡ true → RefersBySlot link u v → is_live live v ≡ true

-- ---- the symbols on a slot

record Passes {X : Type 0} (test : X → Bool) (n : ℕ) (xs : List X) (number : ℕ) : Type 0 where
  place : ℕ
  number_is : number ≡ n + place
  x : X
  here : slice_get xs place ≡ Some x
  pass : test x ≡ true

behind : {X : Type 0} (test : X → Bool) (n : ℕ) (y : X) (xs : List X) (number : ℕ) → Passes test (n + 1) xs number
    → Passes test n (y ∷ xs) number
behind test n y xs number p = record {
  place = suc p.place;
  number_is = (let is = p.number_is in omega (arith, is));
  x = p.x;
  here = p.here;
  pass = p.pass;
}

passes_where : {X : Type 0} (test : X → Bool) (n : ℕ) (xs : List X) (number : ℕ) → Contains (numbers_where test n xs) number
    → Passes test n xs number
passes_where test n [] number h = absurd (omega (arith, h.1))
passes_where test n (y ∷ xs) number h = elim (cases_Bool (test y)) [
  | inl so ↦ (let there : Contains (n ∷ numbers_where test (n + 1) xs) number = rw so at h in
      elim (Contains-cons_cases n number (numbers_where test (n + 1) xs) there) [
        | inl same ↦ record { place = 0; number_is = omega (arith, same); x = y; here = refl; pass = so }
        | inr rest ↦ behind test n y xs number (passes_where test (n + 1) xs number rest)
      ])
  | inr not_so ↦ (let there : Contains (numbers_where test (n + 1) xs) number = rw not_so at h in
      behind test n y xs number (passes_where test (n + 1) xs number there))
]

-- an undefined symbol of that kind and number
record StandsOn (kind : WasmSymbolKind) (number : ℕ) (o : Object) (symbol : ℕ) : Type 0 where
  s : LinkedSymbol
  here : slice_get o.symbols symbol ≡ Some s
  undefined : is_undefined s ≡ true
  of_kind : is_imported_as kind s.kind ≡ true
  index_is : s.index ≡ number

on_parts : (a b c : Bool) → (a && b && c) ≡ true → (a ≡ true) × (b ≡ true) × (c ≡ true)
on_parts true true true h = (refl, refl, refl)
on_parts _ _ _ h = absurd cc

stands_on : (kind : WasmSymbolKind) (number : ℕ) (o : Object) (symbol : ℕ) → Contains (symbols_on kind number o.symbols) symbol
    → StandsOn kind number o symbol
stands_on kind number o symbol h =
    let p = passes_where (is_on kind number) 0 o.symbols symbol h in
    let parts = on_parts (is_undefined p.x) (is_imported_as kind (p.x).kind) ((p.x).index == number) p.pass in
    let is = p.number_is in
    let same : symbol ≡ p.place = omega (arith, is) in
    record {
      s = p.x;
      here = ap (λ (k : ℕ). slice_get o.symbols k) same ∙ p.here;
      undefined = parts.0;
      of_kind = parts.1;
      index_is = eqb-true (p.x).index number parts.2;
    }

-- imports have a slot each
slots_length : (object : ℕ) (kind : WasmSymbolKind) (ss : List LinkedSymbol) (n : ℕ)
    (is : List Imported) → length (numbered_slots object kind ss n is) ≡ length is
slots_length object kind ss n [] = refl
slots_length object kind ss n (i ∷ is) = ap suc (slots_length object kind ss (n + 1) is)

symbols_at : (object : ℕ) (kind : WasmSymbolKind) (ss : List LinkedSymbol) (n : ℕ) (is : List Imported) (k : ℕ) (t : ImportSlot)
    → slice_get (numbered_slots object kind ss n is) k ≡ Some t → (t.symbols ≡ symbols_on kind t.number ss) × (k < length is)
symbols_at object kind ss n [] k t at = absurd cc
symbols_at object kind ss n (i ∷ is) zero t at = (cc, omega arith)
symbols_at object kind ss n (i ∷ is) (suc k) t at =
    let rest = symbols_at object kind ss (n + 1) is k t at in
    let lt = rest.1 in
    (rest.0, omega (arith, lt))

-- ---- the units of symbols

below : (a b : ℕ) → a < b → nat_lt a b ≡ true
below a b lt = elim (cases_Bool (nat_lt a b)) [
  | inl y ↦ y
  | inr above ↦ absurd (let le : b ≤ a = grind (arith, above) in omega (arith, le, lt))
]

pub is_function : (kind : WasmSymbolKind) → is_imported_as Func kind ≡ true → kind ≡ Func
is_function Func e = refl
is_function _ e = absurd cc

pub is_global : (kind : WasmSymbolKind) → is_imported_as Global kind ≡ true → kind ≡ Global
is_global Global e = refl
is_global _ e = absurd cc

-- the units of slots of a kind, and of definitions of that kind
pub record AreUnits (kind : WasmSymbolKind) (slot_unit own : ℕ → WasmGcUnit) : Type 0 where
  pub undefined : (object k : ℕ) (o : Object) (s : LinkedSymbol) → is_imported_as kind s.kind ≡ true → is_undefined s ≡ true
      → s.index < length (object_slots object kind o) → unit_of o s ≡ Some (slot_unit s.index)
  pub defined : (o : Object) (s : LinkedSymbol) (j : ℕ) → is_definition_of kind s ≡ true → own_number kind o s.index ≡ Some j
      → unit_of o s ≡ Some (own j)

pub function_units : AreUnits Func FunctionImport DefinedFunction
function_units = record {
  undefined = λ object k o s of_kind so lt.
      let is : s.kind ≡ Func = is_function s.kind of_kind in
      let long : length (object_slots object Func o) ≡ count_imports external.Func o.imports =
      slots_length object Func o.symbols 0 (slot_imports Func o.imports)
      ∙ length-filter (λ (i : Imported). is_of_kind external.Func i.entity) o.imports in
      let small : nat_lt s.index (count_imports external.Func o.imports) ≡ true =
      below s.index (count_imports external.Func o.imports) (omega (arith, lt, long)) in
      rw (is, so, small) refl;
  defined = λ o s j defines number.
      let parts = and_parts (not (is_undefined s)) (is_imported_as Func s.kind) defines in
      let is : s.kind ≡ Func = is_function s.kind parts.1 in
      let so : is_undefined s ≡ false = not-true (is_undefined s) parts.0 in
      rw (is, so) (ap (λ (n : Option ℕ). option_map DefinedFunction n) number);
}

pub global_units : AreUnits Global GlobalImport DefinedGlobal
global_units = record {
  undefined = λ object k o s of_kind so lt.
      let is : s.kind ≡ Global = is_global s.kind of_kind in
      let long : length (object_slots object Global o) ≡ count_imports external.Global o.imports =
      slots_length object Global o.symbols 0 (slot_imports Global o.imports)
      ∙ length-filter (λ (i : Imported). is_of_kind external.Global i.entity) o.imports in
      let small : nat_lt s.index (count_imports external.Global o.imports) ≡ true =
      below s.index (count_imports external.Global o.imports) (omega (arith, lt, long)) in
      rw (is, so, small) refl;
  defined = λ o s j defines number.
      let parts = and_parts (not (is_undefined s)) (is_imported_as Global s.kind) defines in
      let is : s.kind ≡ Global = is_global s.kind parts.1 in
      let so : is_undefined s ≡ false = not-true (is_undefined s) parts.0 in
      rw (is, so) (ap (λ (n : Option ℕ). option_map DefinedGlobal n) number);
}

pub counts_at : (objects : List Object) (i : ℕ) (o : Object) → slice_get objects i ≡ Some o
    → units_at (units_of objects) i ≡ counts_of o
counts_at [] i o at = absurd cc
counts_at (p ∷ objects) zero o at = let e : p ≡ o = cc in ap counts_of e
counts_at (p ∷ objects) (suc i) o at = counts_at objects i o at

-- the unit of a definition
pub definition_is : (link : Link) (i symbol : ℕ) (o : Object) (s : LinkedSymbol) (unit : WasmGcUnit)
    → slice_get link.objects i ≡ Some o → slice_get o.symbols symbol ≡ Some s → is_undefined s ≡ false → unit_of o s ≡ Some unit
    → definition_unit link (units_of link.objects) (Symbol i symbol) ≡ Some (record { object = i; unit = unit })
definition_is link i symbol o s unit there at so is =
    let found : symbol_in link.objects i symbol ≡ Some s = rw there at in
    let counts : units_at (units_of link.objects) i ≡ counts_of o = counts_at link.objects i o there in
    let leads : definition_unit link (units_of link.objects) (Symbol i symbol) ≡ defined_unit (units_of link.objects) i s =
    ap (λ (x : Option LinkedSymbol). option_and_then (λ (y : LinkedSymbol). defined_unit (units_of link.objects) i y) x) found in
    let own : unit_in (units_at (units_of link.objects) i) s ≡ Some unit = ap (λ (n : UnitCounts). unit_in n s) counts ∙ is in
    let at_unit : WasmGcUnit → LinkUnit = λ (u : WasmGcUnit). record { object = i; unit = u } in
    let here : unit_at (units_of link.objects) i s ≡ Some (record { object = i; unit = unit }) =
    ap (λ (u : Option WasmGcUnit). option_map at_unit u) own in
    let made : defined_unit (units_of link.objects) i s ≡ unit_at (units_of link.objects) i s =
    ap (λ (b : Bool). if b then None else unit_at (units_of link.objects) i s) so in
    leads ∙ (made ∙ here)

-- what a symbol of a place stands for
pub other_is : (link : Link) (object number : ℕ) (s : LinkedSymbol) (d : Definition) → symbol_in link.objects object number ≡ Some s
    → def link object number ≡ d → other_unit link (units_of link.objects) object number ≡ definition_unit link (units_of link.objects) d
other_is link object number s d found stands =
    let one : def link object number ≡ def_for link object number s =
    ap (λ (x : Option LinkedSymbol). option_map_or (def_for link object number) x (Symbol object number)) found in
    ap (λ (x : Option LinkedSymbol). option_and_then (λ (y : Definition). definition_unit link (units_of link.objects) y)
    (option_map (λ (s : LinkedSymbol). def_for link object number s) x)) found
    ∙ ap (λ (y : Definition). definition_unit link (units_of link.objects) y) (sym one ∙ stands)

-- ---- what names bind slots to

bound_to : SlotLaws → (link : Link) (t : ImportSlot) (named : SlotTarget)
    → slot_target link t ≡ Some named → IsBoundTo link t named
bound_to laws link t named is =
    subst (λ (x : Option SlotTarget). MatchOption x (IsLeft link t) (IsBoundTo link t)) is
    (laws.targets link t)

-- what the linker makes, and a slot is bound to, is of its kind
pub bound_of_kind : SlotLaws → (link : Link) (t : ImportSlot) (m : WasmLinkerSymbol)
    → slot_target link t ≡ Some (slot.Made m) → matches_kind t.kind m ≡ true
bound_of_kind laws link t m is = elim (bound_to laws link t (slot.Made m) is).1 [
  | inl named ↦ named.of_kind
  | inr field ↦ field.1.of_kind
]

-- what an object defines, and a kept slot of a kind is bound to, is kept
pub kept_definition : SlotLaws → (link : Link) (live : Live) → IsLiveOf link live
    → (kind : WasmSymbolKind) (slot_unit own : ℕ → WasmGcUnit)
    → AreUnits kind slot_unit own → (object k : ℕ) (o : Object) (t : ImportSlot) (i j : ℕ) → slice_get link.objects object ≡ Some o
    → slice_get (object_slots object kind o) k ≡ Some t → IsAt object kind k t
    → is_live live (record { object = object; unit = slot_unit k }) ≡ true
    → slot_target link t ≡ Some (slot.Defined i j)
    → is_live live (record { object = i; unit = own j }) ≡ true
kept_definition laws link live of kind slot_unit own units object k o t i j here at is_at kept is =
    let d : HasDefinition link t i j = bound_to laws link t (slot.Defined i j) is in
    let symbols = symbols_at object kind o.symbols 0 (slot_imports kind o.imports) k t at in
    let lt = symbols.1 in
    let on_slot : Contains (symbols_on kind k o.symbols) d.undefined =
    subst (λ (n : ℕ). Contains (symbols_on kind n o.symbols) d.undefined) is_at.number_is
    (subst (λ (ns : List ℕ). Contains ns d.undefined) symbols.0 d.on_slot) in
    let on : StandsOn kind k o d.undefined = stands_on kind k o d.undefined on_slot in
    let index = on.index_is in
    let long = slots_length object kind o.symbols 0 (slot_imports kind o.imports) in
    let found : symbol_in link.objects object d.undefined ≡ Some on.s = rw here on.here in
    let stands : def link object d.undefined ≡ Symbol i d.symbol =
    ap (λ (n : ℕ). def link n d.undefined) (sym is_at.object_is) ∙ d.stands in
    let defines : is_definition_of kind d.s ≡ true =
    subst (λ (of : WasmSymbolKind). is_definition_of of d.s ≡ true) is_at.kind_is d.defines in
    let number : own_number kind d.o (d.s).index ≡ Some j =
    subst (λ (of : WasmSymbolKind). own_number of d.o (d.s).index ≡ Some j) is_at.kind_is d.number_is in
    let so : is_undefined d.s ≡ false = not-true (is_undefined d.s) (and_parts (not (is_undefined d.s)) (is_imported_as kind (d.s).kind) defines).0 in
    laws.closed link live (record { object = object; unit = slot_unit k })
    (record { object = i; unit = own j }) of kept
    (record {
      object = o;
      here = here;
      number = d.undefined;
      symbol = on.s;
      at = on.here;
      undefined = on.undefined;
      slot = units.undefined object k o on.s on.of_kind on.undefined (omega (arith, index, lt, long))
          ∙ ap (λ (n : ℕ). Some (slot_unit n)) on.index_is;
      leads = other_is link object d.undefined on.s (Symbol i d.symbol) found stands
          ∙ definition_is link i d.symbol d.o d.s (own j) d.object_is d.symbol_is so (units.defined d.o d.s j defines number);
    })
