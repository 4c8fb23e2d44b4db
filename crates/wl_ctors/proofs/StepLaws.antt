-- The list of calls grows function by function, and object by object.
use Rattle.std.proofs.Common.{◌≡◌, ◌∙◌, ℕ, ◌+◌, ◌<◌, ◌≤◌, List, [], ◌∷◌, ◌++◌, map, length, take, get_or, sym, ap, subst, arith, append-nil, append_assoc}
use Rattle.std.specs.List.{AllZip}
use Rattle.std.proofs.lemmas.List.{take_more, take_all, map-append}
use Rattle.wl_linking.specs.Object.{Object}
use Rattle.wl_custom.specs.declared.infos.WasmInitFunc.{WasmInitFunc}
use Rattle.wl_symbols.specs.Input.{Input}
use Rattle.wl_bind.specs.Parts.{by_object}
use Rattle.wl_ctors.specs.CallSteps.{AddsCalls}
use Rattle.wl_ctors.specs.InitCalls.{InitFunction, init_functions_of, IsInitCall}
use Rattle.wl_ctors.specs.declared.calls.InitCall.{InitCall}
use Rattle.wl_lists.proofs.Beside.{zip_joined}
use Rattle.wl_lists.proofs.Places.{item_at}
use Rattle.wl_lists.proofs.Rows.{by_object_more}

-- no functions yet
pub adds_none : (input : Input) (calls : List InitCall) → AddsCalls input [] calls calls
adds_none input calls = record { more = []; are = tt; grown = sym (append-nil calls) }

-- more of them
pub adds_more : (input : Input) (fs gs : List InitFunction) (old mid new : List InitCall)
    → AddsCalls input fs old mid → AddsCalls input gs mid new → AddsCalls input (fs ++ gs) old new
adds_more input fs gs old mid new a b = record {
  more = a.more ++ b.more;
  are = zip_joined (IsInitCall input) fs gs a.more b.more a.are b.are;
  grown = b.grown ∙ ap (λ (cs : List InitCall). cs ++ b.more) a.grown
      ∙ append_assoc old a.more b.more;
}

-- one more function of an object
pub adds_one : (input : Input) (object : ℕ) (items functions : List WasmInitFunc) (k : ℕ)
    (d : WasmInitFunc) (old mid new : List InitCall) (call : InitCall) → items ≡ functions
    → k < length items
    → AddsCalls input (map (λ (g : WasmInitFunc). (object, g)) (take k functions)) old mid
    → IsInitCall input (object, get_or items k d) call → new ≡ mid ++ call ∷ []
    → AddsCalls input (map (λ (g : WasmInitFunc). (object, g)) (take (k + 1) functions)) old new
adds_one input object items functions k d old mid new call same lt so_far one grown =
    let here : WasmInitFunc → InitFunction = λ (g : WasmInitFunc). (object, g) in
    let more : map here (take (k + 1) items)
    ≡ map here (take k items) ++ (object, get_or items k d) ∷ [] =
    ap (λ (fs : List WasmInitFunc). map here fs) (take_more items k d lt)
    ∙ map-append here (take k items) (get_or items k d ∷ []) in
    let before : AddsCalls input (map here (take k items)) old mid =
    subst (λ (fs : List WasmInitFunc). AddsCalls input (map here (take k fs)) old mid) (sym same)
    so_far in
    subst (λ (fs : List WasmInitFunc). AddsCalls input (map here (take (k + 1) fs)) old new) same
    (subst (λ (fs : List InitFunction). AddsCalls input fs old new) (sym more)
    (adds_more input (map here (take k items)) ((object, get_or items k d) ∷ []) old mid new before
    (record { more = call ∷ []; are = (one, tt); grown = grown })))

-- all functions of an object
pub adds_all : (input : Input) (object : ℕ) (items functions : List WasmInitFunc) (k : ℕ)
    (old new : List InitCall) → items ≡ functions → length items ≤ k
    → AddsCalls input (map (λ (g : WasmInitFunc). (object, g)) (take k functions)) old new
    → AddsCalls input (map (λ (g : WasmInitFunc). (object, g)) functions) old new
adds_all input object items functions k old new same le so_far =
    let long : length functions ≤ k =
    subst (λ (fs : List WasmInitFunc). length fs ≤ k) same le in
    subst (λ (fs : List WasmInitFunc).
    AddsCalls input (map (λ (g : WasmInitFunc). (object, g)) fs) old new)
    (take_all k functions long) so_far

-- ---- objects

-- one more object
pub calls_more : (input : Input) (items objects : List Object) (k : ℕ) (o : Object)
    (old new : List InitCall) → items ≡ objects → k < length items → o ≡ get_or items k o
    → AllZip (IsInitCall input) (by_object init_functions_of 0 (take k objects)) old
    → AddsCalls input (init_functions_of k o) old new
    → AllZip (IsInitCall input) (by_object init_functions_of 0 (take (k + 1) objects)) new
calls_more input items objects k o old new same lt is so_far adds =
    let before : List InitFunction = by_object init_functions_of 0 (take k items) in
    let here : List InitFunction = init_functions_of k o in
    let joined : by_object init_functions_of 0 (take (k + 1) items) ≡ before ++ here =
    by_object_more init_functions_of 0 items k k o (omega arith) (item_at items k o lt is) in
    let are : AllZip (IsInitCall input) before old =
    subst (λ (os : List Object).
    AllZip (IsInitCall input) (by_object init_functions_of 0 (take k os)) old) (sym same) so_far in
    let both : AllZip (IsInitCall input) (before ++ here) new =
    subst (λ (cs : List InitCall). AllZip (IsInitCall input) (before ++ here) cs) (sym adds.grown)
    (zip_joined (IsInitCall input) before here old adds.more are adds.are) in
    let after : AllZip (IsInitCall input) (by_object init_functions_of 0 (take (k + 1) items)) new =
    subst (λ (fs : List InitFunction). AllZip (IsInitCall input) fs new) (sym joined) both in
    subst (λ (os : List Object).
    AllZip (IsInitCall input) (by_object init_functions_of 0 (take (k + 1) os)) new) same after

-- all objects
pub calls_all : (input : Input) (items objects : List Object) (k : ℕ) (calls : List InitCall)
    → items ≡ objects → length items ≤ k
    → AllZip (IsInitCall input) (by_object init_functions_of 0 (take k objects)) calls
    → AllZip (IsInitCall input) (by_object init_functions_of 0 objects) calls
calls_all input items objects k calls same le so_far =
    let long : length objects ≤ k =
    subst (λ (os : List Object). length os ≤ k) same le in
    subst (λ (os : List Object). AllZip (IsInitCall input) (by_object init_functions_of 0 os) calls)
    (take_all k objects long) so_far
