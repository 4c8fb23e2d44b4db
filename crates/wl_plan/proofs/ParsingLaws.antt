-- The objects that bytes are, one after the other.
use Rattle.std.proofs.Common.{◌≡◌, ◌+◌, ℕ, zero, suc, List, [], ◌∷◌, ◌++◌, take, Some, None, refl, ap, subst, arith, slice_get, add-one}
use Rattle.wl_linking.specs.Fitting.{IsObject, ObjectFault}
use Rattle.wl_linking.specs.Object.{Object}
use Rattle.wl_linking.specs.Steps.{Refuses}
use Rattle.wl_linking.specs.declared.error.LinkError.TheVariants.{OutOfMemory, Malformed, Unsupported}
use Rattle.wl_bytes.specs.Outcome.{HasCause}
use Rattle.wl_bytes.specs.declared.read_error.ReadError.{ReadError}
use Rattle.wl_bytes.specs.declared.read_error.ReadError.TheVariants as read
use Rattle.wl_plan.specs.Objects.{AreObjects, IsBadObject}
use Rattle.wl_plan.specs.steps.Parsing.{link_error_of}
use Rattle.wl_linking.proofs.StepLaws.{refuses_for, refuses_memory}

-- ---- objects in turn

objects_push : (files : List Object) (front : List (List ℕ)) (file : Object) (bytes : List ℕ)
    → AreObjects files front → IsObject file bytes
    → AreObjects (files ++ file ∷ []) (front ++ bytes ∷ [])
objects_push [] [] file bytes h is = (is, tt)
objects_push [] (b ∷ front) file bytes h is = absurd h
objects_push (f ∷ files) [] file bytes h is = absurd h
objects_push (f ∷ files) (b ∷ front) file bytes h is = (h.0, objects_push files front file bytes h.1 is)

take_more : (objects : List (List ℕ)) (i : ℕ) (bytes : List ℕ) → slice_get objects i ≡ Some bytes
    → take (suc i) objects ≡ take i objects ++ bytes ∷ []
take_more [] i bytes is = absurd cc
take_more (b ∷ objects) zero bytes is = let same : b ≡ bytes = grind arith in rw same
take_more (b ∷ objects) (suc i) bytes is =
    ap (λ (os : List (List ℕ)). b ∷ os) (take_more objects i bytes is)

-- one more object is read
pub parses_more : (files : List Object) (objects : List (List ℕ)) (i : ℕ) (file : Object)
    (bytes : List ℕ) → AreObjects files (take i objects) → slice_get objects i ≡ Some bytes
    → IsObject file bytes → AreObjects (files ++ file ∷ []) (take (i + 1) objects)
parses_more files objects i file bytes h here is =
    rw (add-one, take_more objects i bytes here) (objects_push files (take i objects) file bytes h is)

-- an object is refused
pub bad_object : (files : List Object) (objects : List (List ℕ)) (i : ℕ) (bytes : List ℕ)
    (e : ReadError) → AreObjects files (take i objects) → slice_get objects i ≡ Some bytes
    → HasCause (λ e. ObjectFault e bytes) e → Refuses (IsBadObject objects) (link_error_of i e)
bad_object files objects i bytes read.OutOfMemory h here f =
    refuses_memory (IsBadObject objects) OutOfMemory refl
bad_object files objects i bytes (read.Malformed why) h here f =
    refuses_for (IsBadObject objects) (Malformed i why)
    (record { before = files; grammar = h; bytes = bytes; here = here; fault = f })
bad_object files objects i bytes (read.Unsupported form) h here f =
    refuses_for (IsBadObject objects) (Unsupported i form)
    (record { before = files; grammar = h; bytes = bytes; here = here; fault = f })

past : (objects : List (List ℕ)) (i : ℕ) → slice_get objects i ≡ None → take i objects ≡ objects
past [] zero none = refl
past [] (suc i) none = refl
past (b ∷ objects) zero none = absurd cc
past (b ∷ objects) (suc i) none = ap (λ (os : List (List ℕ)). b ∷ os) (past objects i none)

-- all objects are read
pub all_taken : (files : List Object) (objects : List (List ℕ)) (i : ℕ)
    → AreObjects files (take i objects) → slice_get objects i ≡ None → AreObjects files objects
all_taken files objects i h none =
    subst (λ (os : List (List ℕ)). AreObjects files os) (past objects i none) h
