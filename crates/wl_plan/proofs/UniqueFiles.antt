-- Bytes are one list of objects at most.
use Rattle.std.proofs.Common.{◌≡◌, ◌∙◌, ℕ, zero, suc, List, [], ◌∷◌, Some, refl, ap, slice_get}
use Rattle.wl_bytes.specs.declared.read_error.ReadError.{ReadError}
use Rattle.wl_bytes.specs.declared.read_error.ReadError.TheVariants as read
use Rattle.wl_linking.specs.Object.{Object}
use Rattle.wl_linking.specs.Fitting.{IsObject, ObjectFault}
use Rattle.wl_linking.specs.declared.error.LinkError.{LinkError}
use Rattle.wl_linking.specs.declared.error.LinkError.TheVariants.{Malformed, Unsupported}
use Rattle.wl_plan.specs.Objects.{AreObjects, IsRefusedAt, IsBadObject}

-- bytes are one object at most
abbrev pub OneObject : Type 0
OneObject = (bytes : List ℕ) (o p : Object) → IsObject o bytes → IsObject p bytes → o ≡ p

-- and none where they have a fault
abbrev pub ObjectOrFault : Type 0
ObjectOrFault = (bytes : List ℕ) (o : Object) (e : ReadError) → IsObject o bytes
    → ObjectFault e bytes → ⊥

pub files_one : OneObject → (fs gs : List Object) (objects : List (List ℕ)) → AreObjects fs objects
    → AreObjects gs objects → fs ≡ gs
files_one one [] [] [] a b = refl
files_one one [] (g ∷ gs) [] a b = absurd b
files_one one (f ∷ fs) gs [] a b = absurd a
files_one one [] gs (o ∷ objects) a b = absurd a
files_one one (f ∷ fs) [] (o ∷ objects) a b = absurd b
files_one one (f ∷ fs) (g ∷ gs) (o ∷ objects) a b =
    ap (λ (x : Object). x ∷ fs) (one o f g a.0 b.0)
    ∙ ap (λ (xs : List Object). g ∷ xs) (files_one one fs gs objects a.1 b.1)

object_at : (fs : List Object) (objects : List (List ℕ)) (i : ℕ) (bytes : List ℕ)
    → AreObjects fs objects → slice_get objects i ≡ Some bytes → (o : Object) × IsObject o bytes
object_at [] [] i bytes a at = absurd cc
object_at (f ∷ fs) [] i bytes a at = absurd a
object_at [] (o ∷ objects) i bytes a at = absurd a
object_at (f ∷ fs) (o ∷ objects) zero bytes a at = let same : o ≡ bytes = cc in (f, rw (← same) a.0)
object_at (f ∷ fs) (o ∷ objects) (suc i) bytes a at = object_at fs objects i bytes a.1 at

not_refused : ObjectOrFault → (fs : List Object) (objects : List (List ℕ)) (i : ℕ) (e : ReadError)
    → AreObjects fs objects → IsRefusedAt objects i e → ⊥
not_refused either fs objects i e a h =
    let o = object_at fs objects i h.bytes a h.here in either h.bytes o.0 e o.1 h.fault

pub not_bad : ObjectOrFault → (fs : List Object) (objects : List (List ℕ)) (e : LinkError)
    → AreObjects fs objects → IsBadObject objects e → ⊥
not_bad either fs objects (Malformed object why) a h =
    not_refused either fs objects object (read.Malformed why) a h
not_bad either fs objects (Unsupported object form) a h =
    not_refused either fs objects object (read.Unsupported form) a h
not_bad either fs objects _ a h = h
