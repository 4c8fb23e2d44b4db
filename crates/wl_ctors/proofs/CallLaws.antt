-- What a function that runs at the start leads to.
use Rattle.std.proofs.Common.{◌≡◌, ◌∙◌, ℕ, zero, suc, ◌+◌, ◌-◌, ◌^◌, ◌<◌, ◌||◌, Bool, true, false, not, nat_lt, nat_le, List, [], ◌∷◌, length, refl, sym, ap, subst, arith, inl, inr, Contains, Option, Some, None, slice_get, if◌then◌else◌}
use Rattle.std.specs.Cmp.Lexicographic.{pointwise, as_long}
use Rattle.std.specs.List.{AllByRecursion, range_with_len}
use Rattle.std.specs.Option.{option_map, option_or}
use Rattle.std.proofs.lemmas.Bool.{cases_Bool, leb-false, and_parts, not-true, or_parts}
use Rattle.std.proofs.lemmas.Option.{same_Some, slice_get_within}
use Rattle.wl_module.specs.Types.{FunctionType, same_type, same_value}
use Rattle.wl_module.specs.declared.imports.ExternalKind.TheVariants as external
use Rattle.wl_linking.specs.Fitting.{IsWhole}
use Rattle.wl_linking.specs.Object.{Object}
use Rattle.wl_linking.specs.Spaces.{count_imports}
use Rattle.wl_linking.specs.Steps.{Clear}
use Rattle.wl_custom.specs.Symbols.{Symbol as LinkedSymbol, is_undefined, is_weak, is_function}
use Rattle.wl_linking.specs.declared.error.LinkError.TheVariants.{WrongKind, SignatureMismatch}
use Rattle.wl_custom.specs.declared.infos.WasmInitFunc.{WasmInitFunc}
use Rattle.wl_custom.specs.declared.symbols.WasmSymbolKind.{WasmSymbolKind}
use Rattle.wl_custom.specs.declared.symbols.WasmSymbolKind.TheVariants.{Func, Data, Global, Section, Event, Table}
use Rattle.wl_symbols.specs.Entries.{symbol_in}
use Rattle.wl_symbols.specs.Link.{Link}
use Rattle.wl_symbols.specs.LinkerNames.{is_imported_as}
use Rattle.wl_symbols.specs.Names.{def}
use Rattle.wl_symbols.specs.declared.entry.Definition.{Definition}
use Rattle.wl_symbols.specs.declared.entry.Definition.TheVariants.{Symbol, Made as MadeName}
use Rattle.wl_symbols.specs.DefinedUnits.{unit_at, defined_unit, definition_unit, other_unit}
use Rattle.wl_custom.specs.Symbols.{is_defined_function}
use Rattle.wl_symbols.specs.Live.{Live, is_live, IsLiveOf}
use Rattle.wl_symbols.specs.Roots.{IsRoot, by_init}
use Rattle.wl_symbols.specs.Units.{counts_of, units_of, units_at, defined_number}
use Rattle.wl_symbols.specs.declared.units.LinkUnit.{LinkUnit}
use Rattle.wl_symbols.specs.declared.units.WasmGcUnit.TheVariants.{DefinedFunction}
use Rattle.wl_symbols.specs.SlotTargets.{own_number, is_definition_of, object_target, symbol_target}
use Rattle.wl_symbols.specs.declared.targets.SlotTarget.{SlotTarget}
use Rattle.wl_symbols.specs.declared.targets.SlotTarget.TheVariants as slot
use Rattle.wl_bind.specs.FunctionBinding.{named_function}
use Rattle.wl_bind.specs.FunctionSpace.{FunctionEntry, FunctionOf, function_space}
use Rattle.wl_bind.specs.FunctionSymbols.{defined_function, own_function, fun}
use Rattle.wl_bind.specs.FunctionTypes.{type_of_defined, target_type}
use Rattle.wl_bind.specs.IndexMaps.{symbol_function, symbol_functions}
use Rattle.wl_symbols.specs.Input.{Input, keeps}
use Rattle.wl_bind.specs.Kinds.{leads_to_parameters}
use Rattle.wl_bind.specs.Parts.{IsPlaceOf, ArePlacesOf}
use Rattle.wl_bind.specs.References.{IsSettled, there}
use Rattle.wl_bind.specs.Signatures.{IsMismatch}
use Rattle.wl_bind.specs.declared.binding.FunctionTarget.{FunctionTarget}
use Rattle.wl_bind.specs.declared.binding.FunctionTarget.TheVariants.{Defined}
use Rattle.wl_ctors.specs.CallSteps.{type_of_own, result_count}
use Rattle.wl_ctors.specs.InitCalls.{IsInitCall}
use Rattle.wl_ctors.specs.declared.calls.InitCall.{InitCall}
use Rattle.wl_lists.proofs.Beside.{zip_right}
use Rattle.wl_lists.proofs.Found.{cases_option}
use Rattle.wl_lists.proofs.Places.{there_is, all_at, mapped_at}

-- ---- facts about objects and live sets

pub record Laws : Type 0 where
  pub symbols : (o : Object) (f : WasmInitFunc) → IsWhole o → Contains o.init_funcs f
      → (s : LinkedSymbol) × (slice_get o.symbols f.symbol_index ≡ Some s)
  pub types : (o : Object) (i t : ℕ) → IsWhole o → slice_get o.functions i ≡ Some t
      → t < length o.types
  pub short : (o : Object) (number : ℕ) (ty : FunctionType) → IsWhole o
      → slice_get o.types number ≡ Some ty → length ty.results < 2 ^ 32
  pub numbers : (kind : WasmSymbolKind) (o : Object) (k : ℕ) (s : LinkedSymbol) → IsWhole o
      → slice_get o.symbols k ≡ Some s → is_definition_of kind s ≡ true
      → (n : ℕ) × (own_number kind o s.index ≡ Some n)
  pub roots : (link : Link) (live : Live) (u : LinkUnit) → IsLiveOf link live → IsRoot link u
      → is_live live u ≡ true

-- ---- tests

function_kind : (kind : WasmSymbolKind) → is_function kind ≡ true → kind ≡ Func
function_kind Func e = refl
function_kind Data e = absurd cc
function_kind Global e = absurd cc
function_kind Section e = absurd cc
function_kind Event e = absurd cc
function_kind Table e = absurd cc

imported_kind : (kind : WasmSymbolKind) → is_imported_as Func kind ≡ true → kind ≡ Func
imported_kind Func e = refl
imported_kind Data e = absurd cc
imported_kind Global e = absurd cc
imported_kind Section e = absurd cc
imported_kind Event e = absurd cc
imported_kind Table e = absurd cc

unless_past : (past : Bool) (x n : ℕ) → (if past then None else Some x) ≡ Some n
    → (past ≡ false) × (x ≡ n)
unless_past true x n e = absurd cc
unless_past false x n e = (refl, same_Some x n e)

-- a number among what is defined is below the count
below : (imports count index n : ℕ) → defined_number imports count index ≡ Some n → n < count
below imports count index n e =
    let given = unless_past (nat_lt index imports || nat_le count (index - imports))
    (index - imports) n e in
    let tests = or_parts (nat_lt index imports) (nat_le count (index - imports)) given.0 in
    let lt : index - imports < count = leb-false count (index - imports) tests.1 in
    subst (λ (k : ℕ). k < count) given.1 lt

-- ---- a function that an object defines

-- a symbol defines the function of that number of its object
record Defines (objects : List Object) (object : ℕ) (o : Object) (s : LinkedSymbol) (number : ℕ)
    : Type 0 where
  here : slice_get objects object ≡ Some o
  kind : s.kind ≡ Func
  defined : is_undefined s ≡ false
  number_is : own_number Func o s.index ≡ Some number

within_of : (objects : List Object) (object : ℕ) (o : Object) (s : LinkedSymbol) (number : ℕ)
    → Defines objects object o s number → number < length o.functions
within_of objects object o s number d =
    below (count_imports external.Func o.imports) (length o.functions) s.index number d.number_is

units_here : (objects : List Object) (i : ℕ) (o : Object) → slice_get objects i ≡ Some o
    → units_at (units_of objects) i ≡ counts_of o
units_here [] i o at = absurd cc
units_here (x ∷ objects) zero o at = ap counts_of (same_Some x o at)
units_here (x ∷ objects) (suc i) o at = units_here objects i o at

-- its unit
unit_of_own : (objects : List Object) (object : ℕ) (o : Object) (s : LinkedSymbol) (number : ℕ)
    → Defines objects object o s number → unit_at (units_of objects) object s
    ≡ Some (record { object = object; unit = DefinedFunction number })
unit_of_own objects object o s number d =
    rw (units_here objects object o d.here, d.kind, d.defined, d.number_is) refl

defined_unit_of : (objects : List Object) (object : ℕ) (o : Object) (s : LinkedSymbol)
    (number : ℕ) → Defines objects object o s number → defined_unit (units_of objects) object s
    ≡ Some (record { object = object; unit = DefinedFunction number })
defined_unit_of objects object o s number d =
    rw (d.defined, units_here objects object o d.here, d.kind, d.number_is) refl

own_target : (objects : List Object) (object : ℕ) (o : Object) (s : LinkedSymbol) (number : ℕ)
    → Defines objects object o s number → own_function object o s ≡ Some (Defined object number)
own_target objects object o s number d = rw (d.defined, d.kind, d.number_is) refl

-- ---- the symbol of a function that runs at the start

record IsInit (input : Input) (object : ℕ) (o : Object) (f : WasmInitFunc) : Type 0 where
  symbol : LinkedSymbol
  at : slice_get o.symbols f.symbol_index ≡ Some symbol
  number : ℕ
  defines : Defines input.link.objects object o symbol number

-- a function that its object defines
defined_init : (input : Input) (object : ℕ) (o : Object) (f : WasmInitFunc) (s : LinkedSymbol)
    → IsSettled input → slice_get input.link.objects object ≡ Some o → Contains o.init_funcs f
    → slice_get o.symbols f.symbol_index ≡ Some s → is_defined_function s ≡ true
defined_init input object o f s settled here one at = elim (cases_Bool (is_defined_function s)) [
  | inl so ↦ so
  | inr fails ↦
      let parameters : Bool = leads_to_parameters input object f.symbol_index in
      absurd (settled.kinds.none (WrongKind object f.symbol_index) (inr (record {
        object = object;
        o = o;
        here = here;
        function = f;
        one = one;
        symbol = s;
        names = at;
        wrong = ap (λ (b : Bool). not b || parameters) fails;
        told = refl;
      })))
]

init_is : Laws → (input : Input) (object : ℕ) (o : Object) (f : WasmInitFunc) → IsSettled input
    → slice_get input.link.objects object ≡ Some o → Contains o.init_funcs f
    → IsInit input object o f
init_is laws input object o f settled here one =
    let whole : IsWhole o = all_at IsWhole input.link.objects object o settled.whole here in
    let found = laws.symbols o f whole one in
    let s : LinkedSymbol = found.0 in
    let at : slice_get o.symbols f.symbol_index ≡ Some s = found.1 in
    let parts = and_parts (is_function s.kind) (not (is_undefined s))
    (defined_init input object o f s settled here one at) in
    let kind : s.kind ≡ Func = function_kind s.kind parts.0 in
    let defined : is_undefined s ≡ false = not-true (is_undefined s) parts.1 in
    let so : is_definition_of Func s ≡ true = rw (defined, kind) refl in
    let number = laws.numbers Func o f.symbol_index s whole at so in
    record {
      symbol = s;
      at = at;
      number = number.0;
      defines = record { here = here; kind = kind; defined = defined; number_is = number.1 };
    }

-- ---- the function that it leads to

-- a function that an object defines, and that is kept
record IsKept (input : Input) (found : Option FunctionTarget) : Type 0 where
  object : ℕ
  number : ℕ
  definer : Object
  leads : found ≡ Some (Defined object number)
  here : slice_get input.link.objects object ≡ Some definer
  within : number < length definer.functions
  kept : keeps input object (DefinedFunction number) ≡ true

-- itself
kept_own : Laws → (input : Input) (object : ℕ) (o : Object) (f : WasmInitFunc) → IsSettled input
    → Contains o.init_funcs f → (i : IsInit input object o f)
    → IsKept input (own_function object o i.symbol)
kept_own laws input object o f settled one i =
    let unit : LinkUnit = record { object = object; unit = DefinedFunction i.number } in
    let root : IsRoot input.link unit = by_init (record {
      place = object;
      object = o;
      here = i.defines.here;
      function = f;
      one = one;
      symbol = i.symbol;
      names = i.at;
      leads = inl (unit_of_own input.link.objects object o i.symbol i.number i.defines);
    }) in
    record {
      object = object;
      number = i.number;
      definer = o;
      leads = own_target input.link.objects object o i.symbol i.number i.defines;
      here = i.defines.here;
      within = within_of input.link.objects object o i.symbol i.number i.defines;
      kept = laws.roots input.link input.live unit settled.kept root;
    }

-- what stands in its place
record IsOther (objects : List Object) (object symbol : ℕ) (target : SlotTarget) : Type 0 where
  o : Object
  s : LinkedSymbol
  at : slice_get o.symbols symbol ≡ Some s
  number : ℕ
  defines : Defines objects object o s number
  target_is : target ≡ slot.Defined object number

target_of : (object : ℕ) (target : SlotTarget) (b : Bool) (number : Option ℕ)
    → (if b then option_map (λ (n : ℕ). slot.Defined object n) number else None) ≡ Some target
    → (b ≡ true) × ((n : ℕ) × (number ≡ Some n) × (target ≡ slot.Defined object n))
target_of object target true (Some n) is = (refl, (n, refl, cc))
target_of object target true None is = absurd cc
target_of object target false number is = absurd cc

other_of : (link : Link) (object symbol : ℕ) (target : SlotTarget)
    → object_target link Func (Symbol object symbol) ≡ Some target
    → IsOther link.objects object symbol target
other_of link object symbol target is = elim (cases_option (slice_get link.objects object)) [
  | inl none ↦ absurd (let e : None ≡ Some target = rw none at is in cc)
  | inr o ↦ elim (cases_option (slice_get (o.0).symbols symbol)) [
    | inl none ↦ absurd (let e : None ≡ Some target = rw (o.1, none) at is in cc)
    | inr s ↦
        (let e : symbol_target Func object o.0 s.0 ≡ Some target = rw (o.1, s.1) at is in
        let t = target_of object target (is_definition_of Func s.0)
        (own_number Func o.0 (s.0).index) e in
        let number = t.1 in
        let parts = and_parts (not (is_undefined s.0)) (is_imported_as Func (s.0).kind) t.0 in
        record {
          o = o.0;
          s = s.0;
          at = s.1;
          number = number.0;
          defines = record {
            here = o.1;
            kind = imported_kind (s.0).kind parts.1;
            defined = not-true (is_undefined s.0) parts.0;
            number_is = number.1;
          };
          target_is = number.2;
        })
  ]
]

-- its unit
unit_of_other : (link : Link) (object symbol : ℕ) (target : SlotTarget)
    → (other : IsOther link.objects object symbol target)
    → definition_unit link (units_of link.objects) (Symbol object symbol)
    ≡ Some (record { object = object; unit = DefinedFunction other.number })
unit_of_other link object symbol target other =
    rw (other.defines.here, other.at)
    (defined_unit_of link.objects object other.o other.s other.number other.defines)

-- what the symbol of a place stands for has the unit that is followed beside its own
other_is : (link : Link) (object number : ℕ) (s : LinkedSymbol) (d : Definition)
    → symbol_in link.objects object number ≡ Some s → def link object number ≡ d
    → other_unit link (units_of link.objects) object number
    ≡ definition_unit link (units_of link.objects) d
other_is link object number s d found stands = rw (← stands, found) refl

kept_other : Laws → (input : Input) (object : ℕ) (o : Object) (f : WasmInitFunc) → IsSettled input
    → Contains o.init_funcs f → (i : IsInit input object o f) → is_weak i.symbol ≡ true
    → (place symbol : ℕ) → def input.link object f.symbol_index ≡ Symbol place symbol
    → (target : SlotTarget) → IsOther input.link.objects place symbol target
    → IsKept input (Some (named_function target))
kept_other laws input object o f settled one i weak place symbol stands target other =
    let unit : LinkUnit = record { object = place; unit = DefinedFunction other.number } in
    let found : symbol_in input.link.objects object f.symbol_index ≡ Some i.symbol =
    rw (i.defines.here, i.at) refl in
    let leads : other_unit input.link (units_of input.link.objects) object f.symbol_index
    ≡ Some unit =
    other_is input.link object f.symbol_index i.symbol (Symbol place symbol) found stands
    ∙ unit_of_other input.link place symbol target other in
    let root : IsRoot input.link unit = by_init (record {
      place = object;
      object = o;
      here = i.defines.here;
      function = f;
      one = one;
      symbol = i.symbol;
      names = i.at;
      leads = inr (weak, leads);
    }) in
    record {
      object = place;
      number = other.number;
      definer = other.o;
      leads = ap (λ (t : SlotTarget). Some (named_function t)) other.target_is;
      here = other.defines.here;
      within = within_of input.link.objects place other.o other.s other.number other.defines;
      kept = laws.roots input.link input.live unit settled.kept root;
    }

-- a weak one leads to what stands in its place, or to itself
kept_weak : Laws → (input : Input) (object : ℕ) (o : Object) (f : WasmInitFunc) → IsSettled input
    → Contains o.init_funcs f → (i : IsInit input object o f) → is_weak i.symbol ≡ true
    → IsKept input (own_function object o i.symbol) → (d : Definition)
    → def input.link object f.symbol_index ≡ d
    → IsKept input (option_or (option_map named_function (object_target input.link Func d))
    (own_function object o i.symbol))
kept_weak laws input object o f settled one i weak own (MadeName m) stands = own
kept_weak laws input object o f settled one i weak own (Symbol place symbol) stands =
    let P : Option SlotTarget → Type 0 =
    λ (x : Option SlotTarget). IsKept input (option_or (option_map named_function x)
    (own_function object o i.symbol)) in
    elim (cases_option (object_target input.link Func (Symbol place symbol))) [
      | inl none ↦ subst P (sym none) own
      | inr target ↦ subst P (sym target.1)
          (kept_other laws input object o f settled one i weak place symbol stands target.0
          (other_of input.link place symbol target.0 target.1))
    ]

-- what the symbol leads to
fun_is : (input : Input) (object : ℕ) (o : Object) (f : WasmInitFunc)
    → (i : IsInit input object o f) → fun input object f.symbol_index
    ≡ (if is_weak i.symbol
    then option_or (defined_function input object f.symbol_index) (own_function object o i.symbol)
    else own_function object o i.symbol)
fun_is input object o f i = rw (i.defines.here, i.at, i.defines.kind, i.defines.defined) refl

kept_target : Laws → (input : Input) (object : ℕ) (o : Object) (f : WasmInitFunc)
    → IsSettled input → Contains o.init_funcs f → IsInit input object o f
    → IsKept input (fun input object f.symbol_index)
kept_target laws input object o f settled one i =
    let self : Option FunctionTarget = own_function object o i.symbol in
    let other : Option FunctionTarget =
    option_or (defined_function input object f.symbol_index) self in
    let own : IsKept input self = kept_own laws input object o f settled one i in
    let weak_or_own : IsKept input (if is_weak i.symbol then other else self) =
    elim (cases_Bool (is_weak i.symbol)) [
      | inl so ↦ subst (λ (b : Bool). IsKept input (if b then other else self)) (sym so)
          (kept_weak laws input object o f settled one i so own
          (def input.link object f.symbol_index) refl)
      | inr not_weak ↦ subst (λ (b : Bool). IsKept input (if b then other else self))
          (sym not_weak) own
    ] in
    subst (λ (x : Option FunctionTarget). IsKept input x) (sym (fun_is input object o f i))
    weak_or_own

-- ---- its index

-- the map gives the place of what the symbol leads to
place_told : (input : Input) (entry : FunctionEntry) (found : Option FunctionEntry)
    (place : Option ℕ) → found ≡ Some entry → IsPlaceOf (function_space input) found place
    → (k : ℕ) × (place ≡ Some k) × (slice_get (function_space input) k ≡ Some entry)
place_told input entry None place is at = absurd cc
place_told input entry (Some x) None is at = absurd at
place_told input entry (Some x) (Some k) is at = (k, refl, at ∙ is)

in_range : (base n k : ℕ) → k < n → slice_get (range_with_len base n) k ≡ Some (base + k)
in_range base zero k lt = absurd (omega (arith, lt))
in_range base (suc n) zero lt = ap (λ (i : ℕ). Some i) (omega arith)
in_range base (suc n) (suc k) lt =
    in_range (base + 1) n k (omega (arith, lt)) ∙ ap (λ (i : ℕ). Some i) (omega arith)

redirected : (input : Input) (object : ℕ) (o : Object) (redirects : List (Option ℕ)) (symbol : ℕ)
    (entry : FunctionEntry)
    → ArePlacesOf (function_space input) (symbol_functions input object o) redirects
    → symbol < length o.symbols → symbol_function input object symbol ≡ Some entry
    → (k : ℕ) × (there redirects symbol ≡ Some k)
    × (slice_get (function_space input) k ≡ Some entry)
redirected input object o redirects symbol entry are lt is =
    let number : 0 + symbol ≡ symbol = omega arith in
    let at = mapped_at (symbol_function input object) (range_with_len 0 (length o.symbols)) symbol
    symbol (in_range 0 (length o.symbols) symbol lt ∙ ap (λ (i : ℕ). Some i) number) in
    let told = zip_right (IsPlaceOf (function_space input)) (symbol_functions input object o)
    redirects symbol (symbol_function input object symbol) are at in
    let p = place_told input entry (symbol_function input object symbol) told.0 is told.2 in
    (p.0, rw told.1 p.1, p.2)

-- the entry of what the symbol leads to
entry_is : (input : Input) (object symbol i n : ℕ) → fun input object symbol ≡ Some (Defined i n)
    → keeps input i (DefinedFunction n) ≡ true
    → symbol_function input object symbol ≡ Some (FunctionOf (Defined i n))
entry_is input object symbol i n leads kept = rw (leads, kept) refl

-- ---- how many results it has

-- a function that an object defines has a type
record HasType (objects : List Object) (object : ℕ) (o : Object) (number : ℕ) : Type 0 where
  ty : FunctionType
  type_number : ℕ
  at : slice_get o.types type_number ≡ Some ty
  own : type_of_own o number ≡ Some ty
  typed : type_of_defined objects object number ≡ Some ty

has_type : Laws → (objects : List Object) (object : ℕ) (o : Object) (number : ℕ)
    → AllByRecursion IsWhole objects → slice_get objects object ≡ Some o
    → number < length o.functions → HasType objects object o number
has_type laws objects object o number whole here within =
    let t = there_is o.functions number within in
    let lt : t.0 < length o.types =
    laws.types o number t.0 (all_at IsWhole objects object o whole here) t.1 in
    let ty = there_is o.types t.0 lt in
    let own : type_of_own o number ≡ Some ty.0 = rw t.1 ty.1 in
    record { ty = ty.0; type_number = t.0; at = ty.1; own = own; typed = rw here own }

-- the same types have as many results
same_long : (a b : FunctionType) → same_type a b ≡ true → length a.results ≡ length b.results
same_long a b same =
    let parts = and_parts (pointwise same_value a.params b.params)
    (pointwise same_value a.results b.results) same in
    as_long same_value a.results b.results parts.1

-- the function under whose type the object knows it, and the one that it leads to
agree : (input : Input) (object : ℕ) (o : Object) (f : WasmInitFunc)
    (declared actual : FunctionType) (target : FunctionTarget) → Clear (IsMismatch input)
    → Contains o.init_funcs f → (i : IsInit input object o f)
    → type_of_defined input.link.objects object i.number ≡ Some declared
    → fun input object f.symbol_index ≡ Some target
    → target_type input.link.objects target ≡ Some actual → same_type declared actual ≡ true
agree input object o f declared actual target clear one i own leads typed =
    elim (cases_Bool (same_type declared actual)) [
      | inl so ↦ so
      | inr differ ↦
          let function : is_function i.symbol.kind ≡ true =
          ap is_function i.defines.kind in
          absurd (clear.none (SignatureMismatch object f.symbol_index) (record {
            object = object;
            number = f.symbol_index;
            looked_at = inr (inr (record {
              o = o;
              here = i.defines.here;
              function = f;
              one = one;
              number_is = refl;
            }));
            symbol = i.symbol;
            is = rw (i.defines.here, i.at) refl;
            function = function;
            target = target;
            leads = leads;
            declared = declared;
            declared_is = rw (i.defines.defined, i.defines.here, i.defines.number_is) own;
            actual = actual;
            actual_is = typed;
            differ = differ;
            told = refl;
          }))
    ]

-- the results that are counted
counted : (objects : List Object) (object : ℕ) (o : Object) (symbol : ℕ) (s : LinkedSymbol)
    (number : ℕ) (ty : FunctionType) → slice_get o.symbols symbol ≡ Some s
    → Defines objects object o s number → type_of_own o number ≡ Some ty
    → result_count o symbol ≡ length ty.results
counted objects object o symbol s number ty at d own = rw (at, d.number_is, own) refl

-- ---- the call

-- few enough for 32 bits
pub results_fit : Laws → (input : Input) (object : ℕ) (o : Object) (f : WasmInitFunc)
    → IsSettled input → slice_get input.link.objects object ≡ Some o → Contains o.init_funcs f
    → result_count o f.symbol_index < 2 ^ 32
results_fit laws input object o f settled here one =
    let i : IsInit input object o f = init_is laws input object o f settled here one in
    let objects : List Object = input.link.objects in
    let within : i.number < length o.functions =
    within_of objects object o i.symbol i.number i.defines in
    let t : HasType objects object o i.number =
    has_type laws objects object o i.number settled.whole here within in
    let whole : IsWhole o = all_at IsWhole objects object o settled.whole here in
    let short = laws.short o t.type_number t.ty whole t.at in
    let count =
    counted objects object o f.symbol_index i.symbol i.number t.ty i.at i.defines t.own in
    omega (arith, short, count)

pub call_is : Laws → (input : Input) (object : ℕ) (o : Object) (redirects : List (Option ℕ))
    (f : WasmInitFunc) (call : InitCall) → IsSettled input → Clear (IsMismatch input)
    → slice_get input.link.objects object ≡ Some o
    → ArePlacesOf (function_space input) (symbol_functions input object o) redirects
    → Contains o.init_funcs f → call.priority ≡ f.priority
    → ((k : ℕ) → there redirects f.symbol_index ≡ Some k → call.index ≡ k)
    → call.results ≡ result_count o f.symbol_index → IsInitCall input (object, f) call
call_is laws input object o redirects f call settled clear here are one priority index results =
    let objects : List Object = input.link.objects in
    let i : IsInit input object o f = init_is laws input object o f settled here one in
    let kept : IsKept input (fun input object f.symbol_index) =
    kept_target laws input object o f settled one i in
    let target : FunctionTarget = Defined kept.object kept.number in
    let own : HasType objects object o i.number =
    has_type laws objects object o i.number settled.whole here
    (within_of objects object o i.symbol i.number i.defines) in
    let other : HasType objects kept.object kept.definer kept.number =
    has_type laws objects kept.object kept.definer kept.number settled.whole kept.here
    kept.within in
    let same : same_type own.ty other.ty ≡ true =
    agree input object o f own.ty other.ty target clear one i own.typed kept.leads other.typed in
    let place = redirected input object o redirects f.symbol_index (FunctionOf target) are
    (slice_get_within o.symbols f.symbol_index i.symbol i.at)
    (entry_is input object f.symbol_index kept.object kept.number kept.leads kept.kept) in
    let index_is : call.index ≡ place.0 = index place.0 place.1 in
    record {
      priority = priority;
      target = target;
      leads = kept.leads;
      index = ap (λ (k : ℕ). slice_get (function_space input) k) index_is ∙ place.2;
      ty = other.ty;
      typed = other.typed;
      results = results
          ∙ counted objects object o f.symbol_index i.symbol i.number own.ty i.at i.defines own.own
          ∙ same_long own.ty other.ty same;
    }
