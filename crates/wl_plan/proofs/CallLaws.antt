-- What calls the constructors makes their calls.
use Rattle.std.proofs.Common.{◌≡◌, ◌⊎◌, ◌∙◌, ◌≤◌, inl, inr, ℕ, zero, suc, ◌+◌, Bool, true, false, cond, not, ◌||◌, List, [], ◌∷◌, ◌++◌, length, map, drop, take, filter, refl, sym, ap, subst, arith, append_assoc, Option, Some, None, slice_get, sum_by, Contains, if◌then◌else◌}
use Rattle.std.specs.Ordering.{nat_cmp, is_lt}
use Rattle.std.specs.List.{AllByRecursion, AllZip, count_by}
use Rattle.std.specs.List.Sorted.{ties}
use Rattle.std.specs.Option.{option_map_or, option_and_then}
use Rattle.std.proofs.lemmas.Bool.{cases_Bool}
use Rattle.std.proofs.lemmas.Bool.Decides.{nat_tests}
use Rattle.std.proofs.lemmas.List.Sums.{sum_by-append, sum_by-cons}
use Rattle.std.proofs.lemmas.Option.{same_Some, slice_get_within}
use Rattle.wl_module.specs.Bodies.{Body}
use Rattle.wl_module.specs.Types.{FunctionType}
use Rattle.wl_module.specs.declared.types.ValType.{ValType}
use Rattle.wl_custom.specs.Symbols.{Symbol as LinkedSymbol}
use Rattle.wl_custom.specs.declared.infos.WasmInitFunc.{WasmInitFunc}
use Rattle.wl_linking.specs.Object.{Object}
use Rattle.wl_linking.specs.declared.error.LinkError.TheVariants.{WrongKind}
use Rattle.wl_symbols.specs.declared.linker_symbol.WasmLinkerSymbol.TheVariants.{CallCtors}
use Rattle.wl_symbols.specs.ImportSlots.{ImportSlot}
use Rattle.wl_symbols.specs.Left.{HostImport, first_imports, first_slot}
use Rattle.wl_custom.specs.Symbols.{is_function}
use Rattle.wl_custom.specs.Symbols.{is_defined_function}
use Rattle.wl_ops.specs.declared.op.Op.{Op}
use Rattle.wl_synth.specs.Bodies.{call_sequence_ops}
use Rattle.wl_synth.specs.Calls.{AnswerByType, HasResults, MakesCalls}
use Rattle.wl_synth.specs.Encoding.{IsEncoded}
use Rattle.wl_synth.specs.Machine.{World, State}
use Rattle.wl_bind.specs.EntryTypes.{type_of_entry}
use Rattle.wl_bind.specs.FunctionBinding.{host_functions}
use Rattle.wl_bind.specs.FunctionSpace.{FunctionEntry, FunctionOf, function_parts, function_space, host_function_part, object_functions}
use Rattle.wl_bind.specs.FunctionSymbols.{fun, function_of}
use Rattle.wl_bind.specs.FunctionTypes.{target_type}
use Rattle.wl_symbols.specs.Input.{Input}
use Rattle.wl_bind.specs.Kinds.{is_wrong_init, leads_to_parameters, takes_parameters}
use Rattle.wl_bind.specs.OutputTypes.{output_types}
use Rattle.wl_bind.specs.Parts.{by_object, joined}
use Rattle.wl_bind.specs.References.{IsSettled}
use Rattle.wl_bind.specs.Shared.{function_imports, global_imports}
use Rattle.wl_bind.specs.declared.binding.FunctionTarget.{FunctionTarget}
use Rattle.wl_bind.specs.declared.binding.FunctionTarget.TheVariants as function
use Rattle.wl_ctors.specs.InitCalls.{AreInitCalls, InitFunction, IsInitCall, init_functions, init_functions_of, priority_of}
use Rattle.wl_ctors.specs.declared.calls.InitCall.{InitCall}
use Rattle.wl_plan.specs.Bodies.{IsEncodedBody, called}
use Rattle.wl_plan.specs.Functions.{own_functions, IsOutputFunction}
use Rattle.wl_plan.specs.Imports.{AreImports, IsFunctionImport, IsGlobalImport, memory_import, memory_imports}
use Rattle.wl_plan.specs.Origins.{OfLinker, PlannedFunction}
use Rattle.wl_plan.specs.Plan.{IsPlan}
use Rattle.wl_plan.specs.PlannedImports.{PlannedImport, is_function_entity, is_function_import}
use Rattle.wl_plan.specs.Resolved.{IsNumbered}
use Rattle.wl_plan.specs.Running.{CallsConstructors, HasMadeBody, HoldsPlan}
use Rattle.wl_plan.specs.declared.layout.LinkPlan.{LinkPlan}
use Rattle.wl_places.specs.declared.placing.Placing.{Placing}
use Rattle.wl_lists.proofs.In.{in_map}
use Rattle.wl_lists.proofs.In.{IsIn, in_filter, in_list, in_split}
use Rattle.wl_lists.proofs.Places.{came_at, get_in_front, mapped_at}
use Rattle.wl_lists.proofs.Beside.{zip_right}
use Rattle.wl_plan.proofs.PlanLaws.{hosts_length}
use Rattle.wl_plan.proofs.ResolvedLaws.{settled}
use Rattle.wl_plan.proofs.RunningLaws.{linker_body}
use Rattle.wl_lists.proofs.Places.{append_split}

-- ---- as many functions are imported as the space has hosts

abbrev bit : Bool → ℕ
bit b = cond b 1 0

each_function : (input : Input) (hosts : List HostImport) (is : List PlannedImport)
    → AllZip (IsFunctionImport input (output_types input)) hosts is → count_by is_function_import is ≡ length hosts
each_function input [] [] p = refl
each_function input [] (i ∷ is) p = absurd p
each_function input (h ∷ hosts) [] p = absurd p
each_function input (h ∷ hosts) (i ∷ is) p =
    let head : is_function_import i ≡ true = ap is_function_entity p.0.entity in
    let rest = each_function input hosts is p.1 in
    let split = sum_by-cons (λ (x : PlannedImport). cond (is_function_import x) 1 0) i is in
    let first : ◌≡◌ {A = ℕ} (cond (is_function_import i) 1 0) 1 = ap (λ (b : Bool). bit b) head in
    omega (arith, split, first, rest)

none_function : (input : Input) (hosts : List HostImport) (is : List PlannedImport)
    → AllZip (IsGlobalImport input) hosts is → count_by is_function_import is ≡ 0
none_function input [] [] p = refl
none_function input [] (i ∷ is) p = absurd p
none_function input (h ∷ hosts) [] p = absurd p
none_function input (h ∷ hosts) (i ∷ is) p =
    let head : is_function_import i ≡ false = ap is_function_entity p.0.entity in
    let rest = none_function input hosts is p.1 in
    let split = sum_by-cons (λ (x : PlannedImport). cond (is_function_import x) 1 0) i is in
    let first : ◌≡◌ {A = ℕ} (cond (is_function_import i) 1 0) 0 = ap (λ (b : Bool). bit b) head in
    omega (arith, split, first, rest)

no_memory : (input : Input) (g : Placing) → count_by is_function_import (memory_imports input g) ≡ 0
no_memory input g = at input.link.args.import_memory
  where
    at : (name : Option _) → count_by is_function_import (option_map_or (λ n. memory_import g.memory n ∷ []) name []) ≡ 0
    at None = refl
    at (Some name) = refl

pub imported_functions : (input : Input) (g : Placing) (imports : List PlannedImport)
    → AreImports input (output_types input) g imports
    → count_by is_function_import imports ≡ length (host_function_part input)
imported_functions input g imports are =
    let f : PlannedImport → ℕ = λ (x : PlannedImport). cond (is_function_import x) 1 0 in
    let one = each_function input (function_imports input) are.functions are.are_functions in
    let two = none_function input (global_imports input) are.globals are.are_globals in
    let three = no_memory input g in
    let whole : count_by is_function_import imports ≡ sum_by f ((are.functions ++ are.globals) ++ memory_imports input g) =
    ap (sum_by f) are.all in
    let left = sum_by-append f (are.functions ++ are.globals) (memory_imports input g) in
    let right = sum_by-append f are.functions are.globals in
    let hosts = hosts_length input in
    omega (arith, whole, left, right, one, two, three, hosts)

-- ---- where a function stands that isn't imported

abbrev other_functions : Input → List FunctionEntry
other_functions input = joined (drop 1 (function_parts input))

pub record IsBehindHosts (input : Input) (i : ℕ) (entry : FunctionEntry) : Type 0 where
  pub k : ℕ
  pub index : i ≡ length (host_function_part input) + k
  pub own : slice_get (own_functions input) k ≡ Some entry

drop_whole : {X : Type 0} (xs ys : List X) (k : ℕ) → slice_get (drop (length xs) (xs ++ ys)) k ≡ slice_get ys k
drop_whole [] [] k = refl
drop_whole [] (y ∷ ys) k = refl
drop_whole (x ∷ xs) ys k = drop_whole xs ys k

pub host_entry : (input : Input) (entry : FunctionEntry) (i : ℕ) → slice_get (host_function_part input) i ≡ Some entry
    → (object : ℕ) × (slot : ℕ) × (entry ≡ FunctionOf (function.Host object slot))
host_entry input entry i e =
    let c = came_at (λ (x : ImportSlot). FunctionOf (function.Host x.object x.number)) (first_imports (host_functions input)) i entry e in
    ((c.0).object, (c.0).number, sym c.2)

-- an entry stands among what is imported, or after that
pub split_hosts : (input : Input) (entry : FunctionEntry) (i : ℕ) → slice_get (function_space input) i ≡ Some entry
    → (slice_get (host_function_part input) i ≡ Some entry) ⊎ IsBehindHosts input i entry
split_hosts input entry i at =
    let hosts = host_function_part input in
    let rest = other_functions input in
    let own = object_functions input in
    let whole : (hosts ++ rest) ++ own ≡ hosts ++ (rest ++ own) = append_assoc hosts rest own in
    let here : slice_get (hosts ++ (rest ++ own)) i ≡ Some entry =
    subst (λ (es : List FunctionEntry). slice_get es i ≡ Some entry) whole at in
    elim (append_split hosts (rest ++ own) i entry here) [
      | inl front ↦ inl front
      | inr behind ↦ inr (record {
        k = behind.0;
        index = behind.1;
        own = ap (λ (es : List FunctionEntry). slice_get (drop (length hosts) es) behind.0) whole
            ∙ drop_whole hosts (rest ++ own) behind.0 ∙ behind.2;
      })
    ]

behind_hosts : (input : Input) (t : FunctionTarget) (i : ℕ)
    → slice_get (function_space input) i ≡ Some (FunctionOf t)
    → ((object slot : ℕ) → t ≡ function.Host object slot → ⊥) → IsBehindHosts input i (FunctionOf t)
behind_hosts input t i at never = elim (split_hosts input (FunctionOf t) i at) [
  | inl front ↦ (let h = host_entry input (FunctionOf t) i front in
      let same : t ≡ function.Host h.0 h.1 = (let e : FunctionOf t ≡ FunctionOf (function.Host h.0 h.1) = h.2 in cc) in
      absurd (never h.0 h.1 same))
  | inr behind ↦ behind
]

-- ---- the type of what is called

same_type : (input : Input) (t : FunctionTarget) (ty : FunctionType) → target_type input.link.objects t ≡ Some ty
    → type_of_entry input (FunctionOf t) ≡ Some ty
same_type input (function.Defined object number) ty e = e
same_type input (function.Made m) ty e = e
same_type input (function.Host object slot) ty e = absurd cc
same_type input (function.Stub object slot) ty e = absurd cc

not_host : (input : Input) (t : FunctionTarget) (ty : FunctionType) → target_type input.link.objects t ≡ Some ty
    → (object slot : ℕ) → t ≡ function.Host object slot → ⊥
not_host input t ty e object slot is =
    absurd (let bad : None ≡ Some ty = sym (ap (target_type input.link.objects) is) ∙ e in cc)

-- after what is imported
pub typed_behind : (input : Input) (plan : LinkPlan) (is : IsPlan input plan) (w : World) (s : State)
    → HoldsPlan plan w s → (entry : FunctionEntry) (i : ℕ) (ty : FunctionType) → IsBehindHosts input i entry
    → type_of_entry input entry ≡ Some ty → w.type_of i ≡ Some ty
typed_behind input plan is w s holds entry i ty b typed =
    let are = is.spaces.functions in
    let f = zip_right (IsOutputFunction input (output_types input)) (own_functions input) are.own b.k entry are.are_own b.own in
    let listed : slice_get plan.layout.function_type_indices b.k ≡ Some f.0 =
    ap (λ (fs : List PlannedFunction). slice_get fs b.k) are.parts ∙ get_in_front are.own are.wrappers b.k f.0 f.1 in
    let n = (f.2).typed in
    let one : n.0 ≡ ty = same_Some n.0 ty (sym n.1 ∙ typed) in
    let number : slice_get plan.layout.output_types (f.0).type_index ≡ Some n.0 =
    ap (λ (ts : List FunctionType). slice_get ts (f.0).type_index) is.spaces.types ∙ n.2 in
    let word = holds.types b.k f.0 n.0 listed number in
    let count = imported_functions input is.placing plan.layout.imports is.spaces.imports in
    let same : count_by is_function_import plan.layout.imports + b.k ≡ i = omega (arith, count, b.index) in
    subst (λ (x : ℕ). w.type_of x ≡ Some n.0) same word ∙ ap (λ (x : FunctionType). Some x) one

pub typed_there : (input : Input) (plan : LinkPlan) (is : IsPlan input plan) (w : World) (s : State) → HoldsPlan plan w s
    → (t : FunctionTarget) (i : ℕ) (ty : FunctionType) → slice_get (function_space input) i ≡ Some (FunctionOf t)
    → target_type input.link.objects t ≡ Some ty → w.type_of i ≡ Some ty
typed_there input plan is w s holds t i ty at typed =
    typed_behind input plan is w s holds (FunctionOf t) i ty (behind_hosts input t i at (not_host input t ty typed))
    (same_type input t ty typed)

-- among what is imported
count_front : (input : Input) (hosts : List HostImport) (fs rest : List PlannedImport) (i : ℕ)
    → AllZip (IsFunctionImport input (output_types input)) hosts fs → i ≤ length fs
    → count_by is_function_import (take i (fs ++ rest)) ≡ i
count_front input hosts fs rest zero z le = zero_taken (fs ++ rest)
  where
    zero_taken : (xs : List PlannedImport) → count_by is_function_import (take zero xs) ≡ 0
    zero_taken [] = refl
    zero_taken (x ∷ xs) = refl
count_front input hosts [] rest (suc i) z le = absurd (omega (arith, le))
count_front input [] (f ∷ fs) rest (suc i) z le = absurd z
count_front input (h ∷ hosts) (f ∷ fs) rest (suc i) z le =
    let head : is_function_import f ≡ true = ap is_function_entity z.0.entity in
    let more = count_front input hosts fs rest i z.1 (omega (arith, le)) in
    let split = sum_by-cons (λ (x : PlannedImport). cond (is_function_import x) 1 0) f (take i (fs ++ rest)) in
    let first : ◌≡◌ {A = ℕ} (cond (is_function_import f) 1 0) 1 = ap (λ (b : Bool). bit b) head in
    omega (arith, split, first, more)

typed_host : (input : Input) (plan : LinkPlan) (is : IsPlan input plan) (w : World) (s : State) → HoldsPlan plan w s
    → (entry : FunctionEntry) (i : ℕ) (ty : FunctionType) → slice_get (host_function_part input) i ≡ Some entry
    → type_of_entry input entry ≡ Some ty → w.type_of i ≡ Some ty
typed_host input plan is w s holds entry i ty at typed =
    let are = is.spaces.imports in
    let hosts = first_imports (host_functions input) in
    let c = came_at (λ (x : ImportSlot). FunctionOf (function.Host x.object x.number)) hosts i entry at in
    let t = c.0 in
    let listed : slice_get (function_imports input) i ≡ Some (first_slot t) = mapped_at first_slot hosts i t c.1 in
    let p = zip_right (IsFunctionImport input (output_types input)) (function_imports input) are.functions i (first_slot t) are.are_functions listed in
    let n = (p.2).typed in
    let front = get_in_front are.functions are.globals i p.0 p.1 in
    let whole = get_in_front (are.functions ++ are.globals) (memory_imports input is.placing) i p.0 front in
    let here : slice_get plan.layout.imports i ≡ Some p.0 = ap (λ (xs : List PlannedImport). slice_get xs i) are.all ∙ whole in
    let number : slice_get plan.layout.output_types (p.2).number ≡ Some n.0 =
    ap (λ (ts : List FunctionType). slice_get ts (p.2).number) is.spaces.types ∙ n.2 in
    let word = holds.imported i (p.2).number p.0 n.0 here (p.2).entity number in
    let within = slice_get_within are.functions i p.0 p.1 in
    let count = count_front input (function_imports input) are.functions (are.globals ++ memory_imports input is.placing) i are.are_functions (omega (arith, within)) in
    let row : plan.layout.imports ≡ are.functions ++ (are.globals ++ memory_imports input is.placing) =
    are.all ∙ append_assoc are.functions are.globals (memory_imports input is.placing) in
    let same : count_by is_function_import (take i plan.layout.imports) ≡ i =
    ap (λ (xs : List PlannedImport). count_by is_function_import (take i xs)) row ∙ count in
    let own : type_of_entry input (FunctionOf (function.Host t.object t.number)) ≡ Some ty = ap (type_of_entry input) c.2 ∙ typed in
    let one : n.0 ≡ ty = same_Some n.0 ty (sym n.1 ∙ own) in
    subst (λ (x : ℕ). w.type_of x ≡ Some n.0) same word ∙ ap (λ (x : FunctionType). Some x) one

-- the type of an entry, wherever it stands
pub typed_entry : (input : Input) (plan : LinkPlan) (is : IsPlan input plan) (w : World) (s : State) → HoldsPlan plan w s
    → (entry : FunctionEntry) (i : ℕ) (ty : FunctionType) → slice_get (function_space input) i ≡ Some entry
    → type_of_entry input entry ≡ Some ty → w.type_of i ≡ Some ty
typed_entry input plan is w s holds entry i ty at typed = elim (split_hosts input entry i at) [
  | inl front ↦ typed_host input plan is w s holds entry i ty front typed
  | inr behind ↦ typed_behind input plan is w s holds entry i ty behind typed
]

-- ---- it takes no parameters

some_parameters : (ty : FunctionType) (p : ValType) (ps : List ValType) → ty.params ≡ p ∷ ps
    → takes_parameters (Some ty) ≡ true
some_parameters ty p ps e =
    ap (λ (xs : List ValType). takes_parameters (Some (record { params = xs; results = ty.results }))) e

symbol_there : (input : Input) (object number : ℕ) (o : Object) (t : FunctionTarget) (found : Option LinkedSymbol)
    → slice_get o.symbols number ≡ found
    → option_and_then (λ (s : LinkedSymbol). if is_function s.kind then function_of input object number o s else None) found ≡ Some t
    → (s : LinkedSymbol) × (slice_get o.symbols number ≡ Some s)
symbol_there input object number o t None is e = absurd cc
symbol_there input object number o t (Some s) is e = (s, is)

or_true : (a b : Bool) → b ≡ true → (a || b) ≡ true
or_true true b e = refl
or_true false b e = e

no_parameters : (input : Input) → IsSettled input → (object : ℕ) (o : Object) (f : WasmInitFunc) (t : FunctionTarget)
    (ty : FunctionType) → slice_get input.link.objects object ≡ Some o → Contains o.init_funcs f
    → fun input object f.symbol_index ≡ Some t → target_type input.link.objects t ≡ Some ty → ty.params ≡ []
no_parameters input h object o f t ty here listed leads typed = at ty.params refl
  where
    at : (ps : List ValType) → ty.params ≡ ps → ps ≡ []
    at [] e = refl
    at (p ∷ ps) e =
        let own : option_and_then (λ (s : LinkedSymbol). if is_function s.kind then function_of input object f.symbol_index o s else None)
        (slice_get o.symbols f.symbol_index) ≡ Some t =
        sym (ap (option_and_then (λ (x : Object). option_and_then
        (λ (s : LinkedSymbol). if is_function s.kind then function_of input object f.symbol_index x s else None)
        (slice_get x.symbols f.symbol_index))) here) ∙ leads in
        let s = symbol_there input object f.symbol_index o t (slice_get o.symbols f.symbol_index) refl own in
        let takes : leads_to_parameters input object f.symbol_index ≡ true =
        ap (λ (x : Option FunctionTarget). option_map_or (λ (y : FunctionTarget). takes_parameters (target_type input.link.objects y)) x false) leads
        ∙ (ap takes_parameters typed ∙ some_parameters ty p ps e) in
        let wrong : is_wrong_init input object f.symbol_index s.0 ≡ true =
        or_true (not (is_defined_function s.0)) (leads_to_parameters input object f.symbol_index) takes in
        absurd (h.kinds.none (WrongKind object f.symbol_index) (inr (record {
          object = object;
          o = o;
          here = here;
          function = f;
          one = listed;
          symbol = s.0;
          names = s.1;
          wrong = wrong;
          told = refl;
        })))

-- ---- each call

record IsFromObject (objects : List Object) (n : ℕ) (f : InitFunction) : Type 0 where
  pub k : ℕ
  pub o : Object
  pub here : slice_get objects k ≡ Some o
  pub there : IsIn (init_functions_of (n + k) o) f

from_object : (n : ℕ) (objects : List Object) (f : InitFunction) → IsIn (by_object init_functions_of n objects) f
    → IsFromObject objects n f
from_object n [] f h = absurd h
from_object n (o ∷ objects) f h = elim (in_split (init_functions_of n o) (by_object init_functions_of (n + 1) objects) f h) [
  | inl front ↦ (let number : n ≡ n + 0 = omega arith in
      record { k = 0; o = o; here = refl; there = subst (λ (m : ℕ). IsIn (init_functions_of m o) f) number front })
  | inr behind ↦ (let rest = from_object (n + 1) objects f behind in
      let number : (n + 1) + rest.k ≡ n + suc rest.k = omega arith in
      record { k = suc rest.k; o = rest.o; here = rest.here; there = subst (λ (m : ℕ). IsIn (init_functions_of m rest.o) f) number rest.there })
]

zip_came : {A B : Type 0} (R : A → B → Type 0) (xs : List A) (ys : List B) (y : B) → AllZip R xs ys → IsIn ys y
    → (x : A) × IsIn xs x × R x y
zip_came R [] [] y z h = absurd h
zip_came R [] (b ∷ ys) y z h = absurd z
zip_came R (a ∷ xs) [] y z h = absurd z
zip_came R (a ∷ xs) (b ∷ ys) y z h = elim h [
  | inl e ↦ (a, inl refl, subst (λ w. R a w) e z.0)
  | inr r ↦ (let rest = zip_came R xs ys y z.1 r in (rest.0, inr rest.1, rest.2))
]

not_less : (n : ℕ) → is_lt (nat_cmp n n) ≡ false
not_less n = grind (arith, nat_tests)

tied : (c : InitCall) → ties (λ (x y : InitCall). is_lt (nat_cmp (priority_of x) (priority_of y))) c c ≡ true
tied c = rw (not_less c.priority) refl

in_kept : {X : Type 0} (test : X → Bool) (xs : List X) (x : X) → test x ≡ true → IsIn xs x → IsIn (filter test xs) x
in_kept test [] x t h = absurd h
in_kept test (y ∷ xs) x t (inl e) =
    let passes : test y ≡ true = ap test e ∙ t in rw passes (inl e)
in_kept test (y ∷ xs) x t (inr r) = elim (cases_Bool (test y)) [
  | inl passes ↦ rw passes (inr (in_kept test xs x t r))
  | inr fails ↦ rw fails (in_kept test xs x t r)
]

result_of : (input : Input) (plan : LinkPlan) (is : IsPlan input plan) (w : World) (s : State) → HoldsPlan plan w s
    → IsNumbered input → (calls : List InitCall) → AreInitCalls input calls → (c : InitCall) → IsIn calls c
    → HasResults w (called c)
result_of input plan is w s holds numbered calls are c listed =
    let test = ties (λ (x y : InitCall). is_lt (nat_cmp (priority_of x) (priority_of y))) c in
    let among : IsIn are.all c =
    in_filter test are.all c (subst (λ (cs : List InitCall). IsIn cs c) (are.order.stable c) (in_kept test calls c (tied c) listed)) in
    let z = zip_came (IsInitCall input) (init_functions input.link) are.all c are.each among in
    let call = z.2 in
    let from = from_object 0 input.link.objects z.0 z.1 in
    let f = in_map (λ (x : WasmInitFunc). (0 + from.k, x)) from.o.init_funcs z.0 from.there in
    let pair : ◌≡◌ {A = InitFunction} (0 + from.k, f.from) z.0 = f.to in
    let object : z.0.0 ≡ from.k = (let first : 0 + from.k ≡ z.0.0 = ap (λ (p : InitFunction). p.0) pair in omega (arith, first)) in
    let own : f.from ≡ z.0.1 = ap (λ (p : InitFunction). p.1) pair in
    let leads : fun input from.k (f.from).symbol_index ≡ Some call.target =
    ap (λ (n : ℕ). fun input n (f.from).symbol_index) (sym object)
    ∙ (ap (λ (x : WasmInitFunc). fun input z.0.0 x.symbol_index) own ∙ call.leads) in
    let none = no_parameters input (settled input numbered) from.k from.o f.from call.target call.ty from.here
    (in_list from.o.init_funcs f.from f.there) leads call.typed in
    (call.ty, typed_there input plan is w s holds call.target c.index call.ty call.index call.typed, none, sym call.results)

all_results : (w : World) (calls : List InitCall) → ((c : InitCall) → IsIn calls c → HasResults w (called c))
    → AllByRecursion (HasResults w) (map called calls)
all_results w [] f = tt
all_results w (c ∷ calls) f = (f c (inl refl), all_results w calls (λ d h. f d (inr h)))

-- what the law of bodies says
abbrev pub CallsMade : Type 0
CallsMade = (w : World) (s : State) (calls : List (ℕ × ℕ)) (body : List ℕ)
    → IsEncoded (call_sequence_ops calls) body → AnswerByType w → AllByRecursion (HasResults w) calls
    → MakesCalls w s calls body

pub constructors_called : CallsMade → (input : Input) (plan : LinkPlan) (is : IsPlan input plan) (w : World) (s : State)
    (b : Body) → IsNumbered input → HasMadeBody plan (OfLinker CallCtors) b → HoldsPlan plan w s → AnswerByType w
    → CallsConstructors input w s b
constructors_called law input plan is w s b numbered made holds answers =
    let there = linker_body input plan is CallCtors b made in
    let body : IsEncodedBody input is.placing (FunctionOf (function.Made CallCtors)) b = there.body in
    let ops = body.are_ops in
    let encoded : IsEncoded (call_sequence_ops (map called ops.calls)) body.bytes =
    subst (λ (os : List Op). IsEncoded os body.bytes) ops.are body.encoded in
    let results = all_results w ops.calls (result_of input plan is w s holds numbered ops.calls ops.are_calls) in
    let makes = law w s (map called ops.calls) body.bytes encoded answers results in
    record {
      calls = ops.calls;
      are_calls = ops.are_calls;
      makes = subst (λ (t : List ℕ). MakesCalls w s (map called ops.calls) t) (sym body.made.bytes_are) makes;
    }
