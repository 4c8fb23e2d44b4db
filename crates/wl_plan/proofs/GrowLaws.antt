-- Lists of bodies that grow, and the function space after the imports.
use Rattle.std.proofs.Common.{◌≡◌, ◌∙◌, ◌<◌, ◌≤◌, ℕ, zero, suc, ◌+◌, Bool, true, List, [], ◌∷◌, ◌++◌, length, map, take, sym, ap, subst, arith, Some, slice_get, append-nil, append_assoc}
use Rattle.std.specs.List.{AllZip}
use Rattle.std.proofs.lemmas.List.{take_all}
use Rattle.wl_linking.specs.Object.{Object}
use Rattle.wl_symbols.specs.Live.{Live, is_live}
use Rattle.wl_symbols.specs.declared.units.LinkUnit.{LinkUnit}
use Rattle.wl_symbols.specs.declared.units.WasmGcUnit.TheVariants.{DefinedFunction}
use Rattle.wl_module.specs.Bodies.{Body}
use Rattle.wl_symbols.specs.ImportSlots.{ImportSlot}
use Rattle.wl_ctors.specs.declared.calls.InitCall.{InitCall}
use Rattle.wl_ops.specs.declared.op.Op.{Op}
use Rattle.wl_synth.specs.Bodies.{call_sequence_ops}
use Rattle.wl_synth.specs.Encoding.{IsEncoded}
use Rattle.wl_synth.specs.declared.calls.TheConstants.{UNREACHABLE_FUNCTION_BODY}
use Rattle.wl_bind.specs.FunctionSpace.{FunctionEntry, FunctionOf, stub_part, functions_of, object_functions}
use Rattle.wl_symbols.specs.Input.{Input, keeps}
use Rattle.wl_bind.specs.Parts.{by_object}
use Rattle.wl_bind.specs.declared.binding.FunctionTarget.TheVariants.{Defined, Stub}
use Rattle.wl_plan.specs.Bodies.{AreMadeOps, AreOwnBodies, IsBodyOf, IsBodyIn, IsEncodedBody, called}
use Rattle.wl_plan.specs.BodySteps.{AddsMadeBody, AddsBodies}
use Rattle.wl_plan.specs.steps.Functions.{linker_functions, own_function_part}
use Rattle.wl_places.specs.declared.placing.Placing.{Placing}
use Rattle.wl_lists.proofs.Beside.{zip_joined}
use Rattle.wl_lists.proofs.Places.{there_is}
use Rattle.wl_lists.proofs.Rows.{by_object_more}
use Rattle.wl_plan.proofs.FunctionLaws.{one_own, own_is}

-- ---- lists that grow

pub adds_none : (input : Input) (g : Placing) (old : List Body) → AddsBodies input g [] old old
adds_none input g old = record { more = []; are = tt; grown = sym (append-nil old) }

pub adds_one : (input : Input) (g : Placing) (entry : FunctionEntry) (old new : List Body) (b : Body)
    → IsBodyOf input g entry b → new ≡ old ++ b ∷ [] → AddsBodies input g (entry ∷ []) old new
adds_one input g entry old new b is grown = record { more = b ∷ []; are = (is, tt); grown = grown }

pub adds_more : (input : Input) (g : Placing) (front behind : List FunctionEntry)
    (old middle new : List Body) → AddsBodies input g front old middle
    → AddsBodies input g behind middle new → AddsBodies input g (front ++ behind) old new
adds_more input g front behind old middle new a b = record {
  more = a.more ++ b.more;
  are = zip_joined (IsBodyOf input g) front behind a.more b.more a.are b.are;
  grown =
      b.grown ∙ (ap (λ (bs : List Body). bs ++ b.more) a.grown ∙ append_assoc old a.more b.more);
}

pub adds_same : (input : Input) (g : Placing) (entries others : List FunctionEntry)
    (old new : List Body) → entries ≡ others → AddsBodies input g entries old new
    → AddsBodies input g others old new
adds_same input g entries others old new same a =
    subst (λ (es : List FunctionEntry). AddsBodies input g es old new) same a

-- ---- functions of an object

pub adds_kept : (input : Input) (g : Placing) (object function : ℕ) (b : Body)
    (old new : List Body) → keeps input object (DefinedFunction function) ≡ true
    → IsBodyIn input g object function b → new ≡ old ++ b ∷ []
    → AddsBodies input g (own_function_part input object function) old new
adds_kept input g object function b old new kept body grown =
    adds_same input g (FunctionOf (Defined object function) ∷ [])
    (own_function_part input object function) old new (sym (one_own input object function kept))
    (adds_one input g (FunctionOf (Defined object function)) old new b body grown)

-- ---- the space after the imports

-- what the linker makes, the stubs, and what objects define
abbrev pub linker_part : Input → List FunctionEntry
linker_part input = linker_functions input ++ stub_part input

-- ---- what the linker makes

-- a body that is made for an entry, which is all of its part
pub adds_made : (input : Input) (g : Placing) (part : List FunctionEntry) (entry : FunctionEntry)
    (ops : List Op) (bytes : List ℕ) (old new : List Body) → part ≡ entry ∷ []
    → AreMadeOps input g entry ops → IsEncoded ops bytes
    → ((b : Body) → IsEncodedBody input g entry b → IsBodyOf input g entry b)
    → AddsMadeBody bytes old new → AddsBodies input g part old new
adds_made input g part entry ops bytes old new is are encoded body a =
    adds_same input g (entry ∷ []) part old new (sym is)
    (adds_one input g entry old new a.body
    (body a.body (record { ops = ops; are_ops = are; bytes = bytes; encoded = encoded; made = a.is })) a.grown)

-- the same calls have the same body
pub ctors_encoded : (shown calls : List InitCall) (bytes : List ℕ) → shown ≡ calls
    → IsEncoded (call_sequence_ops (map called shown)) bytes
    → IsEncoded (call_sequence_ops (map called calls)) bytes
ctors_encoded shown calls bytes same encoded =
    subst (λ (cs : List InitCall). IsEncoded (call_sequence_ops (map called cs)) bytes) same encoded

-- the function of a stub
abbrev pub stub_entry : ImportSlot → FunctionEntry
stub_entry t = FunctionOf (Stub t.object t.number)

taken_more : {X Y : Type 0} (f : X → Y) (xs : List X) (i : ℕ) (x : X) → slice_get xs i ≡ Some x
    → map f (take i xs) ++ f x ∷ [] ≡ map f (take (suc i) xs)
taken_more f [] i x here = absurd cc
taken_more {X} {Y} f (y ∷ xs) zero x here =
    let same : x ≡ y = cc in ap (λ (z : X). f z ∷ []) same
taken_more {X} {Y} f (y ∷ xs) (suc i) x here =
    ap (λ (zs : List Y). f y ∷ zs) (taken_more f xs i x here)

pub stubs_more : (input : Input) (g : Placing) (stubs : List ImportSlot) (i : ℕ)
    (old middle new : List Body) → i < length stubs
    → AddsBodies input g (map stub_entry (take i stubs)) old middle
    → AddsMadeBody UNREACHABLE_FUNCTION_BODY middle new
    → AddsBodies input g (map stub_entry (take (i + 1) stubs)) old new
stubs_more input g stubs i old middle new lt so_far a =
    let t = there_is stubs i lt in
    let on : suc i ≡ i + 1 = omega arith in
    let front : List FunctionEntry = map stub_entry (take i stubs) in
    adds_same input g (front ++ stub_entry t.0 ∷ []) (map stub_entry (take (i + 1) stubs)) old new
    (taken_more stub_entry stubs i t.0 t.1 ∙ ap (λ n. map stub_entry (take n stubs)) on)
    (adds_more input g front (stub_entry t.0 ∷ []) old middle new so_far
    (adds_one input g (stub_entry t.0) middle new a.body a.is a.grown))

-- ---- what loops rest on

-- the functions of one more object
pub objects_more : (input : Input) (g : Placing) (objects : List Object) (i : ℕ) (o : Object)
    (old middle new : List Body) → slice_get objects i ≡ Some o
    → AddsBodies input g (by_object (functions_of input) 0 (take i objects)) old middle
    → AddsBodies input g (functions_of input i o) middle new
    → AddsBodies input g (by_object (functions_of input) 0 (take (i + 1) objects)) old new
objects_more input g objects i o old middle new here so_far a =
    let done : List FunctionEntry = by_object (functions_of input) 0 (take i objects) in
    let own : List FunctionEntry = functions_of input i o in
    adds_same input g (done ++ own) (by_object (functions_of input) 0 (take (i + 1) objects)) old new
    (sym (by_object_more (functions_of input) 0 objects i i o (omega arith) here))
    (adds_more input g done own old middle new so_far a)

-- those of all of them
pub objects_all : (input : Input) (g : Placing) (i : ℕ) (old new : List Body)
    → length input.link.objects ≤ i
    → AddsBodies input g (by_object (functions_of input) 0 (take i input.link.objects)) old new
    → AddsBodies input g (object_functions input) old new
objects_all input g i old new le so_far =
    subst (λ (os : List Object). AddsBodies input g (by_object (functions_of input) 0 os) old new)
    (take_all i input.link.objects le) so_far

-- all that were added to nothing are the bodies of the space
pub all_are : (input : Input) (g : Placing) (old new : List Body) → old ≡ []
    → AddsBodies input g (linker_part input ++ object_functions input) old new
    → AreOwnBodies input g new
all_are input g old new none a =
    subst (λ (es : List FunctionEntry). AllZip (IsBodyOf input g) es new) (own_is input)
    (subst (λ (bs : List Body).
    AllZip (IsBodyOf input g) (linker_part input ++ object_functions input) bs)
    (sym (a.grown ∙ ap (λ (bs : List Body). bs ++ a.more) none)) a.are)

-- a unit that was looked up is kept
pub kept_is : (live other : Live) (u : LinkUnit) (b : Bool) → b ≡ is_live live u → b ≡ true
    → live ≡ other → is_live other u ≡ true
kept_is live other u b is so same = subst (λ (l : Live). is_live l u ≡ true) same (sym is ∙ so)
