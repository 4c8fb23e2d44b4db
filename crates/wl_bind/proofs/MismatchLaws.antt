-- Symbols that lead to functions of another type.
use Rattle.std.proofs.Common.{◌≡◌, ◌∙◌, ◌⊎◌, ℕ, zero, suc, ◌+◌, ◌<◌, ◌≤◌, Bool, true, false, not, ◌&&◌, List, [], ◌∷◌, Contains, length, refl, sym, ap, subst, arith, inl, inr, Option, Some, None, find, slice_get, slice_index_or, if◌then◌else◌}
use Rattle.std.specs.Option.{option_or, option_map, option_map_or, option_and_then}
use Rattle.std.proofs.lemmas.Bool.{cases_Bool, and_parts, not-true, cases_lt}
use Rattle.std.proofs.lemmas.Option.{slice_get_within}
use Rattle.wl_module.specs.SameType.{types_equiv}
use Rattle.wl_module.specs.Types.{FunctionType, same_type}
use Rattle.wl_linking.specs.Object.{Object}
use Rattle.wl_custom.specs.RelocationTypes.{names_a_type}
use Rattle.wl_linking.specs.Steps.{Clear}
use Rattle.wl_custom.specs.Symbols.{Symbol, is_undefined, is_weak, is_function}
use Rattle.wl_linking.specs.declared.error.LinkError.{LinkError}
use Rattle.wl_linking.specs.declared.error.LinkError.TheVariants.{SignatureMismatch}
use Rattle.wl_custom.specs.declared.infos.WasmInitFunc.{WasmInitFunc}
use Rattle.wl_custom.specs.declared.symbols.WasmSymbolKind.TheVariants.{Func}
use Rattle.wl_symbols.specs.Entries.{symbol_in}
use Rattle.wl_symbols.specs.ImportSlots.{import_slots}
use Rattle.wl_symbols.specs.Input.{Input, keeps_slot}
use Rattle.wl_symbols.specs.SlotTargets.{own_number, is_definition_of}
use Rattle.wl_symbols.specs.declared.targets.SlotTarget.TheVariants as slot
use Rattle.wl_bind.specs.FunctionBinding.{named_function}
use Rattle.wl_bind.specs.FunctionSymbols.{binding_at, defined_function, own_function, function_of, fun}
use Rattle.wl_bind.specs.FunctionTypes.{type_of_defined, slot_type, declared_type, target_type}
use Rattle.wl_symbols.specs.Relocations.{relocations}
use Rattle.wl_bind.specs.Signatures.{NamedByRelocation, OnKeptSlot, NamedByInit, IsLookedAt, IsMismatch}
use Rattle.wl_bind.specs.BindingSteps.{is_other_type, differs, is_mismatch, names_mismatch, TellsMismatch, AreOwnClear}
use Rattle.wl_bind.specs.declared.binding.FunctionTarget.{FunctionTarget}
use Rattle.wl_bind.specs.declared.binding.FunctionTarget.TheVariants.{Defined}
use Rattle.wl_symbols.specs.declared.relocated.Relocated.{Relocated}
use Rattle.wl_lists.proofs.Found.{and_then_some}
use Rattle.wl_bind.proofs.FindLaws.{find_none, find_some, map_or_true}

-- ---- what differs

-- a symbol that is looked at and leads to another type is a cause
pub mismatch : (input : Input) (object number : ℕ) (e : LinkError) → IsLookedAt input object number → TellsMismatch input object number e → IsMismatch input e
mismatch input object number e looked h =
    let leads : Symbol → Bool = λ (s : Symbol). option_map_or (differs input object s) (fun input object number) false in
    let s = map_or_true (λ (s : Symbol). is_function s.kind && leads s) (symbol_in input.link.objects object number) h.so in
    let f = map_or_true (differs input object s.0) (fun input object number) (and_parts (is_function (s.0).kind) (leads s.0) s.2).1 in
    let d = map_or_true (λ (t : FunctionType). is_other_type input.link.objects t f.0) (declared_type input.link.objects object s.0) f.2 in
    let a = map_or_true (λ (t : FunctionType). not (same_type d.0 t)) (target_type input.link.objects f.0) d.2 in
    record {
      object = object;
      number = number;
      looked_at = looked;
      symbol = s.0;
      is = s.1;
      function = (and_parts (is_function (s.0).kind) (leads s.0) s.2).0;
      target = f.0;
      leads = f.1;
      declared = d.0;
      declared_is = d.1;
      actual = a.0;
      actual_is = a.1;
      differ = not-true (same_type d.0 a.0) a.2;
      told = h.told;
    }

-- a symbol of another kind leads to no function
pub no_function : (input : Input) (object number : ℕ) (s : Symbol) → symbol_in input.link.objects object number ≡ Some s
    → is_function s.kind ≡ false → is_mismatch input object number ≡ false
no_function input object number s is other =
    ap (λ (x : Option Symbol). option_map_or (λ (t : Symbol). is_function t.kind && option_map_or (differs input object t) (fun input object number) false) x false) is
    ∙ ap (λ (b : Bool). b && option_map_or (differs input object s) (fun input object number) false) other

-- ---- what its object defines

-- a type is no other than itself
no_other : (t : Option FunctionType) → option_map_or (λ declared. option_map_or (λ actual. not (same_type declared actual)) t false) t false ≡ false
no_other None = refl
no_other (Some t) = ap not (types_equiv.refl t)

-- the function of that number of the symbol's own object has the type under which the object knows it
own_agrees : (input : Input) (object : ℕ) (s : Symbol) (there_is : Bool) (number : Option ℕ)
    → declared_type input.link.objects object s ≡ option_and_then (type_of_defined input.link.objects object) number
    → option_map_or (differs input object s) (option_map named_function (if there_is then option_map (λ n. slot.Defined object n) number else None)) false ≡ false
own_agrees input object s false number is = refl
own_agrees input object s true None is = refl
own_agrees input object s true (Some n) is =
    ap (λ (t : Option FunctionType). option_map_or (λ declared. is_other_type input.link.objects declared (Defined object n)) t false) is
    ∙ no_other (type_of_defined input.link.objects object n)

-- what a symbol leads to is tested where it is a function's, and is none where it is not
of_function : (b : Bool) (test : FunctionTarget → Bool) (f : Option FunctionTarget) → option_map_or test f false ≡ false
    → (b && option_map_or test (if b then f else None) false) ≡ false
of_function true test f e = e
of_function false test f e = refl

-- a symbol that is defined and isn't weak leads to what its object defines, which has its type
pub own_fits : (input : Input) (object number : ℕ) (s : Symbol) → symbol_in input.link.objects object number ≡ Some s
    → is_undefined s ≡ false → is_weak s ≡ false → is_mismatch input object number ≡ false
own_fits input object number s is defined strong =
    let objects : List Object = input.link.objects in
    let found = and_then_some (λ (o : Object). slice_get o.symbols number) (slice_get objects object) s is in
    let o : Object = found.0 in
    let own : Option FunctionTarget = own_function object o s in
    let leads : fun input object number ≡ (if is_function s.kind then own else None) =
    ap (λ (x : Option Object). option_and_then (λ (p : Object). option_and_then (λ (t : Symbol). if is_function t.kind then function_of input object number p t else None)
    (slice_get p.symbols number)) x) found.1
    ∙ (ap (λ (x : Option Symbol). option_and_then (λ (t : Symbol). if is_function t.kind then function_of input object number o t else None) x) found.2
    ∙ (ap (λ (b : Bool). if is_function s.kind then (if b then binding_at input object s.index else if is_weak s then option_or (defined_function input object number) own else own) else None) defined
    ∙ ap (λ (b : Bool). if is_function s.kind then (if b then option_or (defined_function input object number) own else own) else None) strong)) in
    let declared : declared_type objects object s ≡ option_and_then (type_of_defined objects object) (own_number Func o s.index) =
    ap (λ (b : Bool). if b then option_and_then (slot_type objects) (slice_get (import_slots objects object Func) s.index)
    else option_and_then (λ (p : Object). option_and_then (type_of_defined objects object) (own_number Func p s.index)) (slice_get objects object)) defined
    ∙ ap (λ (x : Option Object). option_and_then (λ (p : Object). option_and_then (type_of_defined objects object) (own_number Func p s.index)) x) found.1 in
    ap (λ (x : Option Symbol). option_map_or (λ (t : Symbol). is_function t.kind && option_map_or (differs input object t) (fun input object number) false) x false) is
    ∙ (ap (λ (f : Option FunctionTarget). is_function s.kind && option_map_or (differs input object s) f false) leads
    ∙ of_function (is_function s.kind) (differs input object s) own
    (own_agrees input object s (is_definition_of Func s) (own_number Func o s.index) declared))

-- ---- lists

-- what holds of each number below one, and of that one
pub one_more : (P : ℕ → Type 0) (n : ℕ) → P n → ((j : ℕ) → j < n → P j) → (j : ℕ) → j < n + 1 → P j
one_more P n this before j below = elim (cases_lt j n) [
  | inl less ↦ before j less
  | inr most ↦ (let same : n ≡ j = omega (arith, most, below) in subst P same this)
]

-- what stands at a place within the list stands there whatever else would
pub stands_there : {X : Type 0} (xs : List X) (k : ℕ) (d : X) → k < length xs → slice_index_or xs k d ≡ slice_index_or xs k (slice_index_or xs k d)
stands_there [] k d lt = absurd (omega (arith, lt))
stands_there (x ∷ xs) zero d lt = refl
stands_there (x ∷ xs) (suc k) d lt = stands_there xs k d (omega (arith, lt))

-- ---- the passes

-- where no kept relocation names such a symbol, none that they name is one
pub no_relocation : (input : Input) → find (names_mismatch input) (relocations input) ≡ None
    → (object number : ℕ) → NamedByRelocation input object number
    → is_mismatch input object number ≡ false
no_relocation input none object number named =
    let r = named.relocated in
    let so : names_mismatch input r ≡ false =
    find_none (names_mismatch input) (relocations input) none r named.kept in
    let this : is_mismatch input r.object r.relocation.index ≡ false = rw named.by_symbol at so in
    ap (λ (i : ℕ). is_mismatch input i number) (sym named.object_is)
    ∙ (ap (λ (n : ℕ). is_mismatch input r.object n) (sym named.number_is) ∙ this)

-- a kept relocation that names such a symbol is a cause
pub a_relocation : (input : Input) (r : Relocated)
    → find (names_mismatch input) (relocations input) ≡ Some r
    → IsMismatch input (SignatureMismatch r.object r.relocation.index)
a_relocation input r e =
    let found = find_some (names_mismatch input) (relocations input) r e in
    let parts = and_parts (not (names_a_type r.relocation.ty)) (is_mismatch input r.object r.relocation.index) found.1 in
    let named : NamedByRelocation input r.object r.relocation.index = record {
      relocated = r;
      kept = found.0;
      by_symbol = not-true (names_a_type r.relocation.ty) parts.0;
      object_is = refl;
      number_is = refl;
    } in
    mismatch input r.object r.relocation.index _ (inl named) (record { so = parts.1; told = refl })

-- an undefined symbol on a kept slot that leads to another type is a cause
pub slot_told : (input : Input) (object number : ℕ) (s : Symbol) (e : LinkError) → symbol_in input.link.objects object number ≡ Some s → is_undefined s ≡ true
    → keeps_slot input Func object s.index ≡ true → TellsMismatch input object number e → IsMismatch input e
slot_told input object number s e is undefined kept h =
    mismatch input object number e (inr (inl (record { symbol = s; is = is; undefined = undefined; kept = kept }))) h

-- a symbol of an object has a number below those of its symbols
pub slots_clear : (input : Input) (object : ℕ) (o : Object) → slice_get input.link.objects object ≡ Some o
    → ((k : ℕ) → k < length o.symbols → OnKeptSlot input object k → is_mismatch input object k ≡ false)
    → (number : ℕ) → OnKeptSlot input object number → is_mismatch input object number ≡ false
slots_clear input object o here none number on_slot =
    let is : slice_get o.symbols number ≡ Some on_slot.symbol = (let e = on_slot.is in rw here at e) in
    none number (slice_get_within o.symbols number on_slot.symbol is) on_slot

-- such a symbol of one of them is a cause
pub init_at : (input : Input) (object : ℕ) (o : Object) (k : ℕ) (d : WasmInitFunc) (list : List WasmInitFunc) (e : LinkError) → slice_get input.link.objects object ≡ Some o
    → list ≡ o.init_funcs → k < length list → TellsMismatch input object (slice_index_or list k d).symbol_index e → IsMismatch input e
init_at input object o k d list e here same lt h =
    let there_is : k < length o.init_funcs = omega (arith, lt, ap length same) in
    let f : WasmInitFunc = slice_index_or o.init_funcs k d in
    let e_is : TellsMismatch input object f.symbol_index e = subst (λ (l : List WasmInitFunc). TellsMismatch input object (slice_index_or l k d).symbol_index e) same h in
    mismatch input object f.symbol_index e
    (inr (inr (record { o = o; here = here; function = f; one = (k, there_is, sym (stands_there o.init_funcs k d there_is)); number_is = refl }))) e_is

-- where none of the functions of an object that run at the start has such a symbol, none is named by them
pub inits_clear : (input : Input) (object : ℕ) (o : Object) → slice_get input.link.objects object ≡ Some o
    → ((k : ℕ) (f : WasmInitFunc) → k < length o.init_funcs → slice_index_or o.init_funcs k f ≡ f → is_mismatch input object f.symbol_index ≡ false)
    → (number : ℕ) → NamedByInit input object number → is_mismatch input object number ≡ false
inits_clear input object o here none number named =
    let same : named.o.init_funcs ≡ o.init_funcs =
    ap (λ (x : Option Object). option_map_or (λ (p : Object). p.init_funcs) x []) (sym named.here ∙ here) in
    let one : Contains o.init_funcs named.function = subst (λ (fs : List WasmInitFunc). Contains fs named.function) same named.one in
    ap (is_mismatch input object) (sym named.number_is) ∙ none one.0 named.function one.1 one.2

-- ---- all objects

-- a symbol that is looked at is one of an object
own_within : (input : Input) (object number : ℕ) → OnKeptSlot input object number ⊎ NamedByInit input object number
    → object < length input.link.objects
own_within input object number (inl on_slot) =
    let found = and_then_some (λ (o : Object). slice_get o.symbols number) (slice_get input.link.objects object) on_slot.symbol on_slot.is in
    slice_get_within input.link.objects object found.0 found.1
own_within input object number (inr named) = slice_get_within input.link.objects object named.o named.here

-- where those of each object are clear, those of any number are
pub own_all : (input : Input) (n : ℕ) → length input.link.objects ≤ n → ((j : ℕ) → j < n → AreOwnClear input j)
    → (j : ℕ) → AreOwnClear input j
own_all input n all before j number looked =
    let lt = own_within input j number looked in
    before j (omega (arith, lt, all)) number looked

-- a cause is a symbol that leads to another type
leads_to_other : (input : Input) (e : LinkError) (m : IsMismatch input e) → is_mismatch input m.object m.number ≡ true
leads_to_other input e m =
    ap (λ (x : Option Symbol). option_map_or (λ (t : Symbol). is_function t.kind && option_map_or (differs input m.object t) (fun input m.object m.number) false) x false) m.is
    ∙ (ap (λ (b : Bool). b && option_map_or (differs input m.object m.symbol) (fun input m.object m.number) false) m.function
    ∙ (ap (λ (f : Option FunctionTarget). option_map_or (differs input m.object m.symbol) f false) m.leads
    ∙ (ap (λ (t : Option FunctionType). option_map_or (λ (declared : FunctionType). is_other_type input.link.objects declared m.target) t false) m.declared_is
    ∙ (ap (λ (t : Option FunctionType). option_map_or (λ (actual : FunctionType). not (same_type m.declared actual)) t false) m.actual_is
    ∙ ap not m.differ))))

-- where no symbol that is looked at does, there is no cause
pub all_clear : (input : Input) → ((object number : ℕ) → NamedByRelocation input object number → is_mismatch input object number ≡ false)
    → ((object : ℕ) → AreOwnClear input object) → Clear (IsMismatch input)
all_clear input relocations own = record {
  none = λ (e : LinkError) (m : IsMismatch input e).
      let fits : is_mismatch input m.object m.number ≡ false = elim m.looked_at [
        | inl named ↦ relocations m.object m.number named
        | inr looked ↦ own m.object m.number looked
      ] in
      let both : false ≡ true = sym fits ∙ leads_to_other input e m in absurd cc;
}

-- ---- the law

pub types_agree : (input : Input) (object number : ℕ) (s : Symbol) (target : FunctionTarget) (declared actual : FunctionType) → Clear (IsMismatch input) → IsLookedAt input object number
    → symbol_in input.link.objects object number ≡ Some s → is_function s.kind ≡ true → fun input object number ≡ Some target
    → declared_type input.link.objects object s ≡ Some declared → target_type input.link.objects target ≡ Some actual → same_type declared actual ≡ true
types_agree input object number s target declared actual clear looked is function leads declared_is actual_is = elim (cases_Bool (same_type declared actual)) [
  | inl same ↦ same
  | inr differ ↦ absurd (clear.none (SignatureMismatch object number) (record {
    object = object;
    number = number;
    looked_at = looked;
    symbol = s;
    is = is;
    function = function;
    target = target;
    leads = leads;
    declared = declared;
    declared_is = declared_is;
    actual = actual;
    actual_is = actual_is;
    differ = differ;
    told = refl;
  }))
]
