-- The functions of wrappers, their bodies, and their slots.
use Rattle.std.proofs.Common.{◌≡◌, ◌∙◌, ◌≤◌, ◌<◌, ◌^◌, ℕ, zero, suc, ◌+◌, ◌-◌, List, [], ◌∷◌, ◌++◌, length, map, take, drop, refl, sym, ap, subst, arith, Some, slice_get, append_assoc, append-nil, get_or}
use Rattle.std.specs.List.{AllZip, AllByRecursion}
use Rattle.std.specs.Option.{option_and_then}
use Rattle.std.proofs.lemmas.List.{map-append, take_all}
use Rattle.std.proofs.lemmas.Option.{same_Some}
use Rattle.wl_module.specs.Bodies.{Body}
use Rattle.wl_module.specs.Types.{FunctionType}
use Rattle.wl_linking.specs.Fitting.{IsWhole}
use Rattle.wl_linking.specs.Object.{Object}
use Rattle.wl_symbols.specs.declared.linker_symbol.WasmLinkerSymbol.{WasmLinkerSymbol}
use Rattle.wl_symbols.specs.declared.linker_symbol.WasmLinkerSymbol.TheVariants.{CallCtors, InitTls}
use Rattle.wl_synth.specs.Bodies.{wrapper_ops}
use Rattle.wl_synth.specs.Encoding.{IsEncoded}
use Rattle.wl_symbols.specs.ImportSlots.{ImportSlot}
use Rattle.wl_symbols.specs.Left.{HostImport}
use Rattle.wl_index.specs.declared.index.TheConstants.{WASM_DEAD_INDEX}
use Rattle.wl_bind.specs.EntryTypes.{function_slot, type_of_entry}
use Rattle.wl_bind.specs.FunctionSpace.{FunctionEntry, FunctionOf, InitMemory, function_space, host_function_part}
use Rattle.wl_bind.specs.FunctionTypes.{type_in, type_of_defined, type_number, slot_type, type_of_made}
use Rattle.wl_symbols.specs.Input.{Input}
use Rattle.wl_bind.specs.OutputTypes.{output_types}
use Rattle.wl_bind.specs.declared.binding.FunctionTarget.TheVariants.{Defined, Made, Host, Stub}
use Rattle.wl_bind.specs.Shared.{function_imports}
use Rattle.wl_exports.specs.Exports.{ExportEntry}
use Rattle.wl_exports.specs.Wrapped.{WrapperEntry, IsWrapper, AreWrappers}
use Rattle.wl_exports.specs.Wrappers.{wrapped}
use Rattle.wl_plan.specs.Bodies.{AreOwnBodies, IsWrapperBody, AreBodies}
use Rattle.wl_plan.specs.BodySteps.{AddsMadeBody}
use Rattle.wl_plan.specs.Functions.{own_functions, IsTypeNumber, IsOutputFunction, AreOwnFunctions, IsWrapperFunction, AreOutputFunctions}
use Rattle.wl_plan.specs.Origins.{PlannedFunction, OfWrapper}
use Rattle.wl_plan.specs.Table.{wrapper_slots}
use Rattle.wl_places.specs.declared.placing.Placing.{Placing}
use Rattle.wl_lists.proofs.Beside.{zip_joined, zip_right, zip_left, zip_length}
use Rattle.wl_lists.proofs.Found.{and_then_some}
use Rattle.wl_lists.proofs.Places.{get_in_front, all_at, item_at}
use Rattle.wl_plan.proofs.FunctionLaws.{take_next}
use Rattle.wl_plan.proofs.PlanLaws.{hosts_length}

-- ---- lists

drop_at : {X : Type 0} (n j : ℕ) (xs : List X) → slice_get (drop n xs) j ≡ slice_get xs (n + j)
drop_at zero j xs = let same : j ≡ 0 + j = omega arith in ap (λ (k : ℕ). slice_get xs k) same
drop_at (suc n) j [] = refl
drop_at {X} (suc n) j (x ∷ xs) =
    let same : suc (n + j) ≡ suc n + j = omega arith in
    drop_at n j xs ∙ ap (λ (k : ℕ). slice_get (x ∷ xs) k) same

take_plus : {X : Type 0} (xs : List X) (k : ℕ) (x : X) → slice_get xs k ≡ Some x
    → take (k + 1) xs ≡ take k xs ++ x ∷ []
take_plus xs k x at =
    let same : k + 1 ≡ suc k = omega arith in ap (λ (n : ℕ). take n xs) same ∙ take_next xs k x at

-- one more pair
pub zip_next : {A B : Type 0} (R : A → B → Type 0) (xs : List A) (ys : List B) (k : ℕ) (x : A) (y : B)
    → AllZip R (take k xs) ys → slice_get xs k ≡ Some x → R x y
    → AllZip R (take (k + 1) xs) (ys ++ y ∷ [])
zip_next {A} {B} R xs ys k x y zip at is =
    subst (λ (zs : List A). AllZip R zs (ys ++ y ∷ [])) (sym (take_plus xs k x at))
    (zip_joined R (take k xs) (x ∷ []) ys (y ∷ []) zip (is, tt))

-- ---- the function that a wrapper calls

own_at : (input : Input) (i hosts : ℕ) (f : FunctionEntry) → hosts ≡ length (host_function_part input)
    → hosts ≤ i → slice_get (function_space input) i ≡ Some f
    → slice_get (own_functions input) (i - hosts) ≡ Some f
own_at input i hosts f count le at =
    let same : length (host_function_part input) + (i - hosts) ≡ i = omega (arith, count, le) in
    drop_at (length (host_function_part input)) (i - hosts) (function_space input)
    ∙ (ap (λ (n : ℕ). slice_get (function_space input) n) same ∙ at)

-- it is among these
pub record IsCalled (input : Input) (functions : List PlannedFunction) (hosts : ℕ) (e : ExportEntry)
    (w : WrapperEntry) : Type 0 where
  pub called : PlannedFunction
  pub at : slice_get functions (w.original - hosts) ≡ Some called
  pub is_wrapper : IsWrapper input e w
  pub typed : IsTypeNumber (output_types input) (type_of_entry input is_wrapper.function)
      called.type_index

pub called_at : (input : Input) (own more : List PlannedFunction) (hosts : ℕ) (e : ExportEntry)
    (w : WrapperEntry) → AreOwnFunctions input (output_types input) own
    → hosts ≡ length (host_function_part input) → length (host_function_part input) ≤ w.original
    → IsWrapper input e w → IsCalled input (own ++ more) hosts e w
called_at input own more hosts e w are count le is =
    let i = w.original - hosts in
    let at = own_at input w.original hosts is.function count (omega (arith, count, le)) is.original in
    let found = zip_right (IsOutputFunction input (output_types input)) (own_functions input) own i
    is.function are at in
    record {
      called = found.0;
      at = get_in_front own more i found.0 found.1;
      is_wrapper = is;
      typed = found.2.typed;
    }

-- ---- functions

-- so many wrappers follow the other functions
pub record HasWrappers (input : Input) (k : ℕ) (own functions : List PlannedFunction) : Type 0 where
  pub more : List PlannedFunction
  pub parts : functions ≡ own ++ more
  pub are : AllZip (IsWrapperFunction input (output_types input)) (take k (wrapped input)) more

pub no_wrappers : (input : Input) (own : List PlannedFunction) → HasWrappers input 0 own own
no_wrappers input own = record { more = []; parts = sym (append-nil own); are = tt }

pub called_now : (input : Input) (k hosts : ℕ) (own functions : List PlannedFunction) (ws : List WrapperEntry)
    (w : WrapperEntry) → AreOwnFunctions input (output_types input) own
    → hosts ≡ length (host_function_part input) → length (host_function_part input) ≤ w.original
    → AreWrappers input ws → slice_get ws k ≡ Some w → HasWrappers input k own functions
    → (e : ExportEntry) × (slice_get (wrapped input) k ≡ Some e) × IsCalled input functions hosts e w
called_now input k hosts own functions ws w are count le zip at so_far =
    let found = zip_left (IsWrapper input) (wrapped input) ws k w zip at in
    let called = called_at input own so_far.more hosts found.0 w are count le found.2 in (
      found.0,
      found.1,
      subst (λ (fs : List PlannedFunction). IsCalled input fs hosts found.0 w) (sym so_far.parts) called,
    )

-- the same, where all wrappers are there
pub called_in : (input : Input) (functions : List PlannedFunction) (hosts k : ℕ) (ws : List WrapperEntry)
    (w : WrapperEntry) → AreOutputFunctions input (output_types input) functions
    → hosts ≡ length (host_function_part input) → length (host_function_part input) ≤ w.original
    → AreWrappers input ws → slice_get ws k ≡ Some w
    → (e : ExportEntry) × (slice_get (wrapped input) k ≡ Some e) × IsCalled input functions hosts e w
called_in input functions hosts k ws w are count le zip at =
    let found = zip_left (IsWrapper input) (wrapped input) ws k w zip at in
    let called = called_at input are.own are.wrappers hosts found.0 w are.are_own count le found.2 in (
      found.0,
      found.1,
      subst (λ (fs : List PlannedFunction). IsCalled input fs hosts found.0 w) (sym are.parts) called,
    )

pub wrapper_more : (input : Input) (k hosts index : ℕ) (name : List ℕ) (own old new : List PlannedFunction)
    (e : ExportEntry) (w : WrapperEntry) → slice_get (wrapped input) k ≡ Some e
    → (called : IsCalled input old hosts e w) → index ≡ called.called.type_index → name ≡ w.name
    → new ≡ old ++ record { type_index = index; origin = OfWrapper name } ∷ []
    → HasWrappers input k own old → HasWrappers input (k + 1) own new
wrapper_more input k hosts index name own old new e w at called same named grown so_far =
    let f : PlannedFunction = record { type_index = index; origin = OfWrapper name } in
    let is : IsWrapperFunction input (output_types input) e f = record {
      origin = ap OfWrapper (named ∙ called.is_wrapper.name);
      function = called.is_wrapper.function;
      leads = called.is_wrapper.leads;
      typed = subst (λ (n : ℕ). IsTypeNumber (output_types input)
          (type_of_entry input called.is_wrapper.function) n) (sym same) called.typed;
    } in
    record {
      more = so_far.more ++ f ∷ [];
      parts = grown ∙ (ap (λ (fs : List PlannedFunction). fs ++ f ∷ []) so_far.parts
          ∙ append_assoc own so_far.more (f ∷ []));
      are = zip_next (IsWrapperFunction input (output_types input)) (wrapped input) so_far.more k e f
          so_far.are at is;
    }

pub wrappers_done : (input : Input) (k : ℕ) (own functions : List PlannedFunction) (ws : List WrapperEntry)
    → AreOwnFunctions input (output_types input) own → AreWrappers input ws → length ws ≤ k
    → HasWrappers input k own functions → AreOutputFunctions input (output_types input) functions
wrappers_done input k own functions ws are zip past so_far =
    let len = zip_length (IsWrapper input) (wrapped input) ws zip in
    let whole : take k (wrapped input) ≡ wrapped input =
    take_all k (wrapped input) (omega (arith, len, past)) in
    record {
      own = own;
      wrappers = so_far.more;
      parts = so_far.parts;
      are_own = are;
      are_wrappers = subst (λ (es : List ExportEntry).
          AllZip (IsWrapperFunction input (output_types input)) es so_far.more) whole so_far.are;
    }

-- ---- the type of what a wrapper calls

-- a wrapper calls none of the functions that are imported
abbrev pub CallOwn : Type 0
CallOwn = (input : Input) (ws : List WrapperEntry) (i : ℕ) (w : WrapperEntry) → AreWrappers input ws
    → slice_get ws i ≡ Some w → length (host_function_part input) ≤ w.original

pub behind_hosts : CallOwn → (input : Input) (hosts : List HostImport) (ws : List WrapperEntry)
    (k : ℕ) (w : WrapperEntry) → hosts ≡ function_imports input → AreWrappers input ws
    → k < length ws → w ≡ get_or ws k w → length hosts ≤ w.original
behind_hosts own input hosts ws k w are zip lt is =
    let le = own input ws k w zip (item_at ws k w lt is) in
    omega (arith, le, ap length are, hosts_length input)

-- the number that is reported is that of the type
pub record HasCalledType (input : Input) (functions : List PlannedFunction) (hosts k number : ℕ)
    (types : List FunctionType) (w : WrapperEntry) : Type 0 where
  pub entry : ExportEntry
  pub at : slice_get (wrapped input) k ≡ Some entry
  pub called : IsCalled input functions hosts entry w
  pub there : slice_get types number ≡ Some called.typed.0

pub called_type_in : CallOwn → (input : Input) (functions : List PlannedFunction)
    (hosts : List HostImport) (ws : List WrapperEntry) (k : ℕ) (w : WrapperEntry) (number : ℕ)
    (types : List FunctionType) → AreOutputFunctions input (output_types input) functions
    → hosts ≡ function_imports input → AreWrappers input ws → k < length ws → w ≡ get_or ws k w
    → types ≡ output_types input
    → ((f : PlannedFunction) → slice_get functions (w.original - length hosts) ≡ Some f
    → number ≡ f.type_index)
    → HasCalledType input functions (length hosts) k number types w
called_type_in own input functions hosts ws k w number types outputs are zip lt is same told =
    let at = item_at ws k w lt is in
    let count : length hosts ≡ length (host_function_part input) =
    ap length are ∙ hosts_length input in
    let found = called_in input functions (length hosts) k ws w outputs count
    (own input ws k w zip at) zip at in
    let ty : FunctionType = found.2.typed.0 in
    let number_is : number ≡ found.2.called.type_index = told found.2.called found.2.at in
    record {
      entry = found.0;
      at = found.1;
      called = found.2;
      there = subst (λ (ts : List FunctionType). slice_get ts number ≡ Some ty) (sym same)
          (subst (λ (n : ℕ). slice_get (output_types input) n ≡ Some ty) (sym number_is)
          found.2.typed.2);
    }

-- ---- types have few parameters

-- types of objects have
abbrev pub ShortTypes : Type 0
ShortTypes = (o : Object) (number : ℕ) (ty : FunctionType) → IsWhole o
    → slice_get o.types number ≡ Some ty → length ty.params < 2 ^ 32

short_defined : ShortTypes → (objects : List Object) (object function : ℕ) (ty : FunctionType)
    → AllByRecursion IsWhole objects → type_of_defined objects object function ≡ Some ty
    → length ty.params < 2 ^ 32
short_defined short objects object function ty whole is =
    let a = and_then_some (λ (o : Object). option_and_then (slice_get o.types) (slice_get o.functions function))
    (slice_get objects object) ty is in
    let o : Object = a.0 in
    let b = and_then_some (slice_get o.types) (slice_get o.functions function) ty a.2 in
    short o b.0 ty (all_at IsWhole objects object o whole a.1) b.2

short_slot : ShortTypes → (objects : List Object) (t : ImportSlot) (ty : FunctionType)
    → AllByRecursion IsWhole objects → slot_type objects t ≡ Some ty → length ty.params < 2 ^ 32
short_slot short objects t ty whole is =
    let a = and_then_some (type_in objects t.object) (type_number t.item.entity) ty is in
    let b = and_then_some (λ (o : Object). slice_get o.types a.0) (slice_get objects t.object) ty a.2 in
    short b.0 a.0 ty (all_at IsWhole objects t.object b.0 whole b.1) b.2

short_made : (m : WasmLinkerSymbol) (ty : FunctionType) → type_of_made m ≡ Some ty
    → length ty.params < 2 ^ 32
short_made CallCtors ty is = subst (λ (t : FunctionType). length t.params < 2 ^ 32) (same_Some _ ty is) (omega arith)
short_made InitTls ty is = subst (λ (t : FunctionType). length t.params < 2 ^ 32) (same_Some _ ty is) (omega arith)
short_made _ ty is = absurd cc

pub short_type : ShortTypes → (input : Input) (f : FunctionEntry) (ty : FunctionType)
    → AllByRecursion IsWhole input.link.objects → type_of_entry input f ≡ Some ty
    → length ty.params < 2 ^ 32
short_type short input (FunctionOf (Defined object function)) ty whole is =
    short_defined short input.link.objects object function ty whole is
short_type short input (FunctionOf (Made m)) ty whole is = short_made m ty is
short_type short input (FunctionOf (Host object slot)) ty whole is =
    let a = and_then_some (slot_type input.link.objects) (function_slot input object slot) ty is in
    short_slot short input.link.objects a.0 ty whole a.2
short_type short input (FunctionOf (Stub object slot)) ty whole is =
    let a = and_then_some (slot_type input.link.objects) (function_slot input object slot) ty is in
    short_slot short input.link.objects a.0 ty whole a.2
short_type short input InitMemory ty whole is =
    subst (λ (t : FunctionType). length t.params < 2 ^ 32) (same_Some _ ty is) (omega arith)

-- ---- bodies

-- so many bodies of wrappers follow the other bodies
pub record HasWrapperBodies (input : Input) (k : ℕ) (own bodies : List Body) : Type 0 where
  pub more : List Body
  pub parts : bodies ≡ own ++ more
  pub are : AllZip (IsWrapperBody input) (take k (wrapped input)) more

pub no_wrapper_bodies : (input : Input) (own : List Body) → HasWrapperBodies input 0 own own
no_wrapper_bodies input own = record { more = []; parts = sym (append-nil own); are = tt }

pub body_more : (input : Input) (k hosts constructors original count : ℕ) (functions : List PlannedFunction)
    (own old new : List Body) (e : ExportEntry) (w : WrapperEntry) (bytes : List ℕ)
    → slice_get (wrapped input) k ≡ Some e → (called : IsCalled input functions hosts e w)
    → slice_get (function_space input) constructors ≡ Some (FunctionOf (Made CallCtors))
    → original ≡ w.original → count ≡ length (called.typed.0).params
    → IsEncoded (wrapper_ops constructors original count) bytes
    → AddsMadeBody bytes old new → HasWrapperBodies input k own old
    → HasWrapperBodies input (k + 1) own new
body_more input k hosts constructors original count functions own old new e w bytes at called made same counted encoded adds so_far =
    let is : IsWrapperBody input e adds.body = record {
      function = called.is_wrapper.function;
      leads = called.is_wrapper.leads;
      original = w.original;
      stands = called.is_wrapper.original;
      constructors = constructors;
      are_made = made;
      ty = called.typed.0;
      typed = called.typed.1;
      bytes = bytes;
      encoded = subst (λ (n : ℕ). IsEncoded (wrapper_ops constructors w.original n) bytes) counted
          (subst (λ (n : ℕ). IsEncoded (wrapper_ops constructors n count) bytes) same encoded);
      made = adds.is;
    } in
    record {
      more = so_far.more ++ adds.body ∷ [];
      parts = adds.grown ∙ (ap (λ (bs : List Body). bs ++ adds.body ∷ []) so_far.parts
          ∙ append_assoc own so_far.more (adds.body ∷ []));
      are = zip_next (IsWrapperBody input) (wrapped input) so_far.more k e adds.body so_far.are at is;
    }

pub bodies_done : (input : Input) (g : Placing) (k : ℕ) (own bodies : List Body) (ws : List WrapperEntry)
    → AreOwnBodies input g own → AreWrappers input ws → length ws ≤ k
    → HasWrapperBodies input k own bodies → AreBodies input g bodies
bodies_done input g k own bodies ws are zip past so_far =
    let len = zip_length (IsWrapper input) (wrapped input) ws zip in
    let whole : take k (wrapped input) ≡ wrapped input =
    take_all k (wrapped input) (omega (arith, len, past)) in
    record {
      own = own;
      wrappers = so_far.more;
      parts = so_far.parts;
      are_own = are;
      are_wrappers = subst (λ (es : List ExportEntry). AllZip (IsWrapperBody input) es so_far.more) whole
          so_far.are;
    }

-- ---- slots

pub dead_more : (ws : List WrapperEntry) (k : ℕ) (w : WrapperEntry) (first old new : List ℕ)
    → slice_get ws k ≡ Some w → old ≡ first ++ map (λ (v : WrapperEntry). WASM_DEAD_INDEX) (take k ws)
    → new ≡ old ++ WASM_DEAD_INDEX ∷ []
    → new ≡ first ++ map (λ (v : WrapperEntry). WASM_DEAD_INDEX) (take (k + 1) ws)
dead_more ws k w first old new at so_far grown =
    let dead = λ (v : WrapperEntry). WASM_DEAD_INDEX in
    grown ∙ (ap (λ (ns : List ℕ). ns ++ WASM_DEAD_INDEX ∷ []) so_far
    ∙ (append_assoc first (map dead (take k ws)) (WASM_DEAD_INDEX ∷ [])
    ∙ ap (λ (ns : List ℕ). first ++ ns)
    (sym (map-append dead (take k ws) (w ∷ [])) ∙ ap (λ (vs : List WrapperEntry). map dead vs) (sym (take_plus ws k w at)))))

same_dead : (es : List ExportEntry) (ws : List WrapperEntry) → length es ≡ length ws
    → map (λ (w : WrapperEntry). WASM_DEAD_INDEX) ws ≡ map (λ (e : ExportEntry). WASM_DEAD_INDEX) es
same_dead [] [] len = refl
same_dead [] (w ∷ ws) len = absurd (omega (arith, len))
same_dead (e ∷ es) [] len = absurd (omega (arith, len))
same_dead (e ∷ es) (w ∷ ws) len =
    ap (λ (ns : List ℕ). WASM_DEAD_INDEX ∷ ns) (same_dead es ws (omega (arith, len)))

pub dead_are : (input : Input) (ws : List WrapperEntry) → AreWrappers input ws
    → map (λ (w : WrapperEntry). WASM_DEAD_INDEX) ws ≡ wrapper_slots input
dead_are input ws zip =
    same_dead (wrapped input) ws (zip_length (IsWrapper input) (wrapped input) ws zip)
