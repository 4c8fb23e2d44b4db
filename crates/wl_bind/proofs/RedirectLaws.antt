-- The index of a function that a function symbol leads to stands in the row of an object.
use Rattle.std.proofs.Common.{◌≡◌, ◌∙◌, ◌⊎◌, ◌≤◌, ◌<◌, ◌==◌, ◌||◌, ◌&&◌, not, ℕ, zero, suc, ◌+◌, ◌-◌, Bool, true, false, List, [], ◌∷◌, length, map, refl, sym, ap, subst, arith, inl, inr, Option, Some, None, unwrap_or, slice_get, nat_lt, nat_le, if◌then◌else◌, eqb-true}
use Rattle.std.specs.List.{AllByRecursion, range_with_len}
use Rattle.std.specs.Option.{option_map, option_and_then, option_or}
use Rattle.std.proofs.lemmas.Bool.{cases_Bool, or_parts}
use Rattle.std.proofs.lemmas.List.{length-map}
use Rattle.std.proofs.lemmas.List.FromFn.{get_or-range_with_len, length-range_with_len}
use Rattle.std.proofs.lemmas.Option.{slice_get_within, slice_get-map, slice_get-get_or}
use Rattle.wl_module.specs.declared.imports.ExternalKind.TheVariants as external
use Rattle.wl_linking.specs.Fitting.{IsWhole, IsFitting}
use Rattle.wl_linking.specs.Object.{Object}
use Rattle.wl_linking.specs.Spaces.{count_imports, spaces_of, symbol_exists}
use Rattle.wl_custom.specs.Symbols.{Symbol as LinkedSymbol, is_undefined, is_weak, is_function}
use Rattle.wl_linking.specs.declared.spaces.Counts.{Counts}
use Rattle.wl_custom.specs.declared.symbols.WasmSymbolKind.{WasmSymbolKind}
use Rattle.wl_custom.specs.declared.symbols.WasmSymbolKind.TheVariants.{Func}
use Rattle.wl_symbols.specs.LinkerNames.{is_imported_as}
use Rattle.wl_symbols.specs.Names.{def}
use Rattle.wl_symbols.specs.declared.entry.Definition.{Definition}
use Rattle.wl_symbols.specs.declared.entry.Definition.TheVariants.{Symbol, Made as MadeName}
use Rattle.wl_custom.specs.Symbols.{is_defined_function}
use Rattle.wl_symbols.specs.Live.{IsLiveOf}
use Rattle.wl_symbols.specs.ImportSlots.{ImportSlot, object_slots, import_slots}
use Rattle.wl_symbols.specs.Units.{defined_number}
use Rattle.wl_symbols.specs.SlotTargets.{own_number, is_definition_of, object_target, symbol_target}
use Rattle.wl_symbols.specs.declared.targets.SlotTarget.{SlotTarget}
use Rattle.wl_symbols.specs.declared.targets.SlotTarget.TheVariants as slot
use Rattle.wl_index.specs.declared.index.TheConstants.{WASM_DEAD_INDEX, MAX_ENTRIES}
use Rattle.wl_bind.specs.FunctionBinding.{named_function, binds_function}
use Rattle.wl_bind.specs.FunctionSpace.{FunctionEntry, FunctionOf, function_space, function_slot_entry, own_function_entry, local_functions}
use Rattle.wl_bind.specs.FunctionSymbols.{kept_binding, binding_at, own_function, function_of}
use Rattle.wl_bind.specs.IndexMaps.{is_kept_target, entry_of, symbol_function, symbol_functions}
use Rattle.wl_symbols.specs.Input.{Input}
use Rattle.wl_symbols.specs.KeptSlots.{slots_from, is_kept_slot}
use Rattle.wl_bind.specs.Parts.{IsIndexOf, AreIndicesOf, IsPlaceOf, ArePlacesOf, AreRows}
use Rattle.wl_bind.specs.steps.Redirects.{as_place, row_place, at_index, definition_function, leads_to, redirect_of, redirects_of}
use Rattle.wl_bind.specs.declared.binding.FunctionTarget.{FunctionTarget}
use Rattle.wl_bind.specs.declared.binding.FunctionTarget.TheVariants as function
use Rattle.wl_bind.specs.declared.redirects.LocalFunction.{LocalFunction}
use Rattle.wl_bind.specs.References.{IsInOutput}
use Rattle.wl_bind.specs.steps.Laws.{LinkLaws}
use Rattle.wl_bind.proofs.FirstSlotLaws.{bound_is_there}
use Rattle.wl_bind.proofs.RowLaws.{slot_is_one}
use Rattle.wl_bind.proofs.SlotIndexLaws.{binding_of}
use Rattle.wl_lists.proofs.In.{Contains-filter as stays, at_is_in}
use Rattle.wl_bind.proofs.HostLaws.{IsAt, placed, slots_here}
use Rattle.wl_bind.proofs.NumberingLaws.{zip_maps}
use Rattle.wl_lists.proofs.Places.{test_at, all_at, get_in_front, get_behind}
use Rattle.wl_lists.proofs.Rows.{RowOf, row_of_object}
use Rattle.wl_lists.proofs.Splits.{splits}
use Rattle.std.proofs.Math.Bool.{and_comm}

-- ---- an index as a place

-- an index in a space with room isn't that of nothing
not_dead : (index count : ℕ) → index < count → count ≤ MAX_ENTRIES → (index == WASM_DEAD_INDEX) ≡ false
not_dead index count lt room = elim (cases_Bool (index == WASM_DEAD_INDEX)) [
  | inl y ↦ absurd (let e : index ≡ WASM_DEAD_INDEX = eqb-true index WASM_DEAD_INDEX y in omega (arith, e, lt, room))
  | inr n ↦ n
]

-- the place that an index is
place_of_index : {X : Type 0} (space : List X) (e : Option X) (index : ℕ) → length space ≤ MAX_ENTRIES
    → IsIndexOf space e index → IsPlaceOf space e (as_place index)
place_of_index space None index room is = rw is refl
place_of_index space (Some x) index room is =
    rw (not_dead index (length space) (slice_get_within space index x is) room) is

-- the same at a place of a list
place_in_row : {X : Type 0} (space : List X) (entries : List (Option X)) (row : List ℕ) (k : ℕ) (e : Option X)
    → length space ≤ MAX_ENTRIES → AreIndicesOf space entries row → slice_get entries k ≡ Some e
    → IsPlaceOf space e (option_and_then as_place (slice_get row k))
place_in_row space [] row k e room zip at = absurd cc
place_in_row space (x ∷ xs) [] k e room zip at = absurd zip
place_in_row {X} space (x ∷ xs) (n ∷ ns) zero e room zip at =
    let same : x ≡ e = cc in
    subst (λ (y : Option X). IsPlaceOf space y (as_place n)) same (place_of_index space x n room zip.0)
place_in_row space (x ∷ xs) (n ∷ ns) (suc k) e room zip at = place_in_row space xs ns k e room zip.1 at

-- ---- what is given

-- what holds of the objects, and of the rows of their functions
pub record IsGiven (input : Input) (rows : List (List ℕ)) : Type 0 where
  pub rows_are : AreRows (λ object o. AreIndicesOf (function_space input) (local_functions input object o)) 0
      input.link.objects rows
  pub room : length (function_space input) ≤ MAX_ENTRIES
  pub live : IsLiveOf input.link input.live
  pub whole : AllByRecursion IsWhole input.link.objects
  pub laws : LinkLaws

-- the function leads to the place of its entry
abbrev Leads : Input → List (List ℕ) → Option FunctionTarget → LocalFunction → Type 0
Leads input rows target f =
    IsPlaceOf (function_space input) (option_and_then (entry_of input) target) (row_place rows f)

-- the entry at an index of an object stands at the place that the row says
place_of_entry : (input : Input) (rows : List (List ℕ)) → IsGiven input rows → (object : ℕ) (o : Object) (f : LocalFunction)
    (e : Option FunctionEntry) → f.object ≡ object → slice_get input.link.objects object ≡ Some o
    → slice_get (local_functions input object o) f.index ≡ Some e → IsPlaceOf (function_space input) e (row_place rows f)
place_of_entry input rows given object o f e is here at =
    let P : ℕ → Object → List ℕ → Type 0 = λ i p. AreIndicesOf (function_space input) (local_functions input i p) in
    let r : RowOf P rows object object o = row_of_object P 0 input.link.objects rows object object o given.rows_are here (omega arith) in
    let there : slice_get rows f.object ≡ Some r.row = ap (λ (i : ℕ). slice_get rows i) is ∙ r.here in
    let found : row_place rows f ≡ option_and_then as_place (slice_get r.row f.index) =
    ap (λ (x : Option (List ℕ)). option_and_then (λ (row : List ℕ). option_and_then as_place (slice_get row f.index)) x) there in
    subst (λ (x : Option ℕ). IsPlaceOf (function_space input) e x) (sym found)
    (place_in_row (function_space input) (local_functions input object o) r.row f.index e given.room r.is at)

-- ---- functions that objects define

-- the number among what is defined, and the index
pub under : (imports count index n : ℕ) → defined_number imports count index ≡ Some n → (imports + n ≡ index) × (n < count)
under imports count index n is = elim (cases_Bool (nat_lt index imports || nat_le count (index - imports))) [
  | inl y ↦ absurd (let none : None ≡ Some n = rw y at is in cc)
  | inr not_so ↦
      (let some : Some (index - imports) ≡ Some n = rw not_so at is in
      let same : index - imports ≡ n = cc in
      let parts = or_parts (nat_lt index imports) (nat_le count (index - imports)) not_so in
      let first = parts.0 in
      let second = parts.1 in
      let le : imports ≤ index = grind (arith, first) in
      let lt : index - imports < count = grind (arith, second) in
      (omega (arith, same, le), omega (arith, same, lt)))
]

pub range_at : (m n : ℕ) → n < m → slice_get (range_with_len 0 m) n ≡ Some n
range_at m n lt =
    let long = length-range_with_len 0 m in
    let same : 0 + n ≡ n = omega arith in
    slice_get-get_or (range_with_len 0 m) n 0 (omega (arith, long, lt))
    ∙ ap (λ (x : ℕ). Some x) (get_or-range_with_len 0 m n 0 lt ∙ same)

-- the entry of what an object defines, at its index
own_entry : (input : Input) (object : ℕ) (o : Object) (index n : ℕ)
    → length (object_slots object Func o) ≡ count_imports external.Func o.imports → own_number Func o index ≡ Some n
    → slice_get (local_functions input object o) index ≡ Some (own_function_entry input object n)
own_entry input object o index n count number =
    let p = under (count_imports external.Func o.imports) (length o.functions) index n number in
    let at = p.0 in
    let front : List (Option FunctionEntry) = map (function_slot_entry input) (object_slots object Func o) in
    let long : length front ≡ length (object_slots object Func o) =
    length-map (object_slots object Func o) (function_slot_entry input) in
    get_behind front (map (own_function_entry input object) (range_with_len 0 (length o.functions))) n index
    (omega (arith, at, long, count))
    ∙ (slice_get-map (own_function_entry input object) (range_with_len 0 (length o.functions)) n
    ∙ ap (λ (x : Option ℕ). option_map (own_function_entry input object) x) (range_at (length o.functions) n p.1))

defined_leads : (input : Input) (rows : List (List ℕ)) → IsGiven input rows → (object : ℕ) (o : Object) (s : LinkedSymbol) (n : ℕ)
    → slice_get input.link.objects object ≡ Some o → own_number Func o s.index ≡ Some n
    → Leads input rows (Some (function.Defined object n)) (at_index object s)
defined_leads input rows given object o s n here number =
    place_of_entry input rows given object o (at_index object s) (own_function_entry input object n) refl here
    (own_entry input object o s.index n (given.laws.functions object o) number)

-- two tests for the same
same_kind : (k : WasmSymbolKind) → is_imported_as Func k ≡ is_function k
same_kind Func = refl
same_kind _ = refl

same_test : (s : LinkedSymbol) → is_definition_of Func s ≡ is_defined_function s
same_test s = and_comm (not (is_undefined s)) (is_imported_as Func s.kind)
    ∙ ap (λ (b : Bool). b && not (is_undefined s)) (same_kind s.kind)

-- what a symbol defines
pub target_is : (object : ℕ) (o : Object) (s : LinkedSymbol) (n : ℕ) → is_definition_of Func s ≡ true
    → own_number Func o s.index ≡ Some n → symbol_target Func object o s ≡ Some (slot.Defined object n)
target_is object o s n so number =
    ap (λ (b : Bool). if b then option_map (λ (m : ℕ). slot.Defined object m) (own_number Func o s.index) else None) so
    ∙ ap (λ (x : Option ℕ). option_map (λ (m : ℕ). slot.Defined object m) x) number

-- ---- functions that objects import

-- the index of an undefined one is that of a slot
pub undefined_below : (spaces : Counts) (s : LinkedSymbol) → s.kind ≡ Func → is_undefined s ≡ true → symbol_exists spaces s ≡ true
    → s.index < spaces.imported_functions
undefined_below spaces s kind so there =
    let e : symbol_exists spaces s ≡ nat_lt s.index spaces.imported_functions = rw (kind, so) refl in
    let lt : nat_lt s.index spaces.imported_functions ≡ true = sym e ∙ there in
    grind (arith, lt)

-- what the output has is kept, where an object defines it
is_kept : (input : Input) (target : FunctionTarget) → IsInOutput input target → is_kept_target input target ≡ true
is_kept input (function.Defined i j) there = there.kept
is_kept input _ there = refl

-- the entry of what a slot is bound to
entry_is : (input : Input) (kept : Bool) (target : FunctionTarget) → (kept ≡ true → is_kept_target input target ≡ true)
    → option_and_then (entry_of input) (if kept then Some target else None) ≡ (if kept then Some (FunctionOf target) else None)
entry_is input true target there = ap (λ (b : Bool). if b then Some (FunctionOf target) else None) (there refl)
entry_is input false target there = refl

pub kind_is : (k : WasmSymbolKind) → is_function k ≡ true → k ≡ Func
kind_is Func e = refl
kind_is _ e = absurd cc

-- an undefined symbol leads to what its slot is bound to
import_leads : (input : Input) (rows : List (List ℕ)) → IsGiven input rows → (object k : ℕ) (o : Object) (s : LinkedSymbol)
    → slice_get input.link.objects object ≡ Some o → slice_get o.symbols k ≡ Some s → is_function s.kind ≡ true
    → is_undefined s ≡ true → Leads input rows (binding_at input object s.index) (at_index object s)
import_leads input rows given object k o s here at of_kind so =
    let fit : IsFitting o = given.laws.fitting o (all_at IsWhole input.link.objects object o given.whole here) in
    let lt : s.index < count_imports external.Func o.imports =
    undefined_below (spaces_of o) s (kind_is s.kind of_kind) so
    (test_at (symbol_exists (spaces_of o)) o.symbols k s fit.names.symbols at) in
    let count = given.laws.functions object o in
    let there = splits (object_slots object Func o) s.index (omega (arith, lt, count)) in
    let t : ImportSlot = there.x in
    let same : import_slots input.link.objects object Func ≡ object_slots object Func o =
    slots_here input.link.objects object Func o here in
    let listed : slice_get (import_slots input.link.objects object Func) s.index ≡ Some t =
    subst (λ (ts : List ImportSlot). slice_get ts s.index ≡ Some t) (sym same) there.here in
    let is_at : IsAt object Func s.index t = placed input.link.objects object Func s.index t listed in
    let entry : slice_get (local_functions input object o) s.index ≡ Some (function_slot_entry input t) =
    get_in_front (map (function_slot_entry input) (object_slots object Func o))
    (map (own_function_entry input object) (range_with_len 0 (length o.functions))) s.index (function_slot_entry input t)
    (slice_get-map (function_slot_entry input) (object_slots object Func o) s.index
    ∙ ap (λ (x : Option ImportSlot). option_map (function_slot_entry input) x) there.here) in
    let bound : binding_at input object s.index ≡ kept_binding input t =
    ap (λ (ts : List ImportSlot). option_and_then (kept_binding input) (slice_get ts s.index)) same
    ∙ ap (λ (x : Option ImportSlot). option_and_then (kept_binding input) x) there.here in
    let is : option_and_then (entry_of input) (binding_at input object s.index) ≡ function_slot_entry input t =
    ap (λ (x : Option FunctionTarget). option_and_then (entry_of input) x) bound
    ∙ entry_is input (is_kept_slot input t) (binds_function input t)
    (λ kept. is_kept input (binds_function input t)
    (bound_is_there (binding_of given.laws) input given.live object s.index o t (record {
      here = here;
      at = there.here;
      is_at = is_at;
      kept = kept;
      listed = stays (is_kept_slot input) (slots_from Func 0 input.link.objects) t
          (slot_is_one Func input.link.objects object t (at_is_in (import_slots input.link.objects object Func) s.index t listed)) kept;
    })))
    in
    subst (λ (e : Option FunctionEntry). IsPlaceOf (function_space input) e (row_place rows (at_index object s))) (sym is)
    (place_of_entry input rows given object o (at_index object s) (function_slot_entry input t) refl here entry)

-- ---- symbols

-- what a symbol of a function defines, and its index
record Defines (input : Input) (rows : List (List ℕ)) (object : ℕ) (o : Object) (s : LinkedSymbol) : Type 0 where
  target : SlotTarget
  target_is : symbol_target Func object o s ≡ Some target
  leads : Leads input rows (Some (named_function target)) (at_index object s)

symbol_defines : (input : Input) (rows : List (List ℕ)) → IsGiven input rows → (object k : ℕ) (o : Object) (s : LinkedSymbol)
    → slice_get input.link.objects object ≡ Some o → slice_get o.symbols k ≡ Some s → is_defined_function s ≡ true
    → Defines input rows object o s
symbol_defines input rows given object k o s here at so =
    let is : is_definition_of Func s ≡ true = same_test s ∙ so in
    let number = given.laws.numbers Func o k s (all_at IsWhole input.link.objects object o given.whole here) at is in
    record {
      target = slot.Defined object number.0;
      target_is = target_is object o s number.0 is number.1;
      leads = defined_leads input rows given object o s number.0 here number.1;
    }

-- a symbol that is defined leads to its own function
own_leads : (input : Input) (rows : List (List ℕ)) → IsGiven input rows → (object k : ℕ) (o : Object) (s : LinkedSymbol)
    → slice_get input.link.objects object ≡ Some o → slice_get o.symbols k ≡ Some s → is_function s.kind ≡ true
    → is_undefined s ≡ false → Leads input rows (own_function object o s) (at_index object s)
own_leads input rows given object k o s here at of_kind so =
    let is : is_defined_function s ≡ true =
    ap (λ (b : Bool). b && not (is_undefined s)) of_kind ∙ ap not so in
    let d : Defines input rows object o s = symbol_defines input rows given object k o s here at is in
    subst (λ (x : Option SlotTarget). Leads input rows (option_map named_function x) (at_index object s)) (sym d.target_is) d.leads

-- a definition is a function's on both sides, and leads to it
record LeadsTo (input : Input) (rows : List (List ℕ)) (target : Option SlotTarget) (named : Option LocalFunction) : Type 0 where
  to : SlotTarget
  f : LocalFunction
  target_is : target ≡ Some to
  named_is : named ≡ Some f
  leads : Leads input rows (Some (named_function to)) f

abbrev LeadsOrNot : Input → List (List ℕ) → Option SlotTarget → Option LocalFunction → Type 0
LeadsOrNot input rows target named = ((target ≡ None) × (named ≡ None)) ⊎ LeadsTo input rows target named

-- the symbol of a definition
abbrev target_of : ℕ → Object → Option LinkedSymbol → Option SlotTarget
target_of object o found = option_and_then (symbol_target Func object o) found

abbrev named_of : ℕ → Option LinkedSymbol → Option LocalFunction
named_of object found =
    option_and_then (λ s. if is_defined_function s then Some (at_index object s) else None) found

-- a definition leads to its function
found_leads : (input : Input) (rows : List (List ℕ)) → IsGiven input rows → (object k : ℕ) (o : Object) (found : Option LinkedSymbol)
    → slice_get input.link.objects object ≡ Some o → slice_get o.symbols k ≡ found
    → LeadsOrNot input rows (target_of object o found) (named_of object found)
found_leads input rows given object k o None here at = inl (refl, refl)
found_leads input rows given object k o (Some s) here at = elim (cases_Bool (is_defined_function s)) [
  | inr not_so ↦ inl (
    ap (λ (b : Bool). if b then option_map (λ (n : ℕ). slot.Defined object n) (own_number Func o s.index) else None) (same_test s ∙ not_so),
    ap (λ (b : Bool). if b then Some (at_index object s) else None) not_so,
  )
  | inl so ↦
      (let d : Defines input rows object o s = symbol_defines input rows given object k o s here at so in
      inr (record {
        to = d.target;
        f = at_index object s;
        target_is = d.target_is;
        named_is = ap (λ (b : Bool). if b then Some (at_index object s) else None) so;
        leads = d.leads;
      }))
]

object_leads : (input : Input) (rows : List (List ℕ)) → IsGiven input rows → (object k : ℕ) (there : Option Object)
    → slice_get input.link.objects object ≡ there
    → LeadsOrNot input rows (option_and_then (λ (o : Object). target_of object o (slice_get o.symbols k)) there)
    (named_of object (option_and_then (λ (o : Object). slice_get o.symbols k) there))
object_leads input rows given object k None here = inl (refl, refl)
object_leads input rows given object k (Some o) here =
    found_leads input rows given object k o (slice_get o.symbols k) here refl

definition_leads : (input : Input) (rows : List (List ℕ)) → IsGiven input rows → (d : Definition)
    → LeadsOrNot input rows (object_target input.link Func d) (definition_function input.link.objects d)
definition_leads input rows given (Symbol object k) =
    object_leads input rows given object k (slice_get input.link.objects object) refl
definition_leads input rows given (MadeName m) = inl (refl, refl)

-- ---- what a symbol leads to

-- the cases, over plain variables
case_leads : (input : Input) (rows : List (List ℕ)) (undefined weak : Bool) (binding own : Option FunctionTarget)
    (target : Option SlotTarget) (f : LocalFunction) (named : Option LocalFunction)
    → (undefined ≡ true → Leads input rows binding f) → (undefined ≡ false → Leads input rows own f)
    → LeadsOrNot input rows target named
    → Leads input rows (if undefined then binding else if weak then option_or (option_map named_function target) own else own)
    (if undefined || not weak then f else unwrap_or named f)
case_leads input rows true weak binding own target f named imported defined at = imported refl
case_leads input rows false false binding own target f named imported defined at = defined refl
case_leads input rows false true binding own target f named imported defined (inl none) =
    rw (none.0, none.1) (defined refl)
case_leads input rows false true binding own target f named imported defined (inr to) =
    rw (to.target_is, to.named_is) to.leads

kind_leads : (input : Input) (rows : List (List ℕ)) (is_one : Bool) (target : Option FunctionTarget) (f : LocalFunction)
    → (is_one ≡ true → Leads input rows target f)
    → IsPlaceOf (function_space input) (option_and_then (entry_of input) (if is_one then target else None))
    (if is_one then row_place rows f else None)
kind_leads input rows true target f leads = leads refl
kind_leads input rows false target f leads = refl

-- the function, and its index, of a symbol at a place
abbrev function_at : Input → ℕ → ℕ → Object → Option LinkedSymbol → Option FunctionTarget
function_at input object k o found =
    option_and_then (λ s. if is_function s.kind then function_of input object k o s else None) found

abbrev index_at : Input → List (List ℕ) → ℕ → ℕ → Option LinkedSymbol → Option ℕ
index_at input rows object k found =
    option_and_then
    (λ s. if is_function s.kind then row_place rows (leads_to input.link object k s) else None) found

-- the index of each symbol is the place of its function
found_place : (input : Input) (rows : List (List ℕ)) → IsGiven input rows → (object k : ℕ) (o : Object) (found : Option LinkedSymbol)
    → slice_get input.link.objects object ≡ Some o → slice_get o.symbols k ≡ found
    → IsPlaceOf (function_space input) (option_and_then (entry_of input) (function_at input object k o found))
    (index_at input rows object k found)
found_place input rows given object k o None here at = refl
found_place input rows given object k o (Some s) here at =
    kind_leads input rows (is_function s.kind) (function_of input object k o s) (leads_to input.link object k s)
    (λ of_kind. case_leads input rows (is_undefined s) (is_weak s) (binding_at input object s.index) (own_function object o s)
    (object_target input.link Func (def input.link object k)) (at_index object s)
    (definition_function input.link.objects (def input.link object k))
    (λ so. import_leads input rows given object k o s here at of_kind so)
    (λ so. own_leads input rows given object k o s here at of_kind so)
    (definition_leads input rows given (def input.link object k)))

object_place : (input : Input) (rows : List (List ℕ)) → IsGiven input rows → (object k : ℕ) (there : Option Object)
    → slice_get input.link.objects object ≡ there
    → IsPlaceOf (function_space input)
    (option_and_then (entry_of input) (option_and_then (λ (o : Object). function_at input object k o (slice_get o.symbols k)) there))
    (index_at input rows object k (option_and_then (λ (o : Object). slice_get o.symbols k) there))
object_place input rows given object k None here = refl
object_place input rows given object k (Some o) here =
    found_place input rows given object k o (slice_get o.symbols k) here refl

pub symbol_places : (input : Input) (rows : List (List ℕ)) → IsGiven input rows → (object : ℕ) (o : Object)
    → ArePlacesOf (function_space input) (symbol_functions input object o) (redirects_of input.link rows object o)
symbol_places input rows given object o =
    zip_maps (IsPlaceOf (function_space input)) (symbol_function input object) (redirect_of input.link rows object)
    (λ k. object_place input rows given object k (slice_get input.link.objects object) refl)
    (range_with_len 0 (length o.symbols))
