-- There are facts of any objects: that there are none is impossible.
use Rattle.std.specs.Prelude.{MatchOption}
use Rattle.std.proofs.Common.{◌≡◌, ◌⊎◌, ℕ, zero, suc, ◌+◌, ◌≤◌, List, [], ◌∷◌, ◌++◌, length, inl, inr, refl, subst, arith, Option, Some, None}
use Rattle.wl_module.specs.Bodies.{Body}
use Rattle.wl_bytes.specs.declared.read_error.ReadError.{ReadError}
use Rattle.wl_linking.specs.Object.{Object}
use Rattle.wl_ops.specs.Decoding.{AreTaken}
use Rattle.wl_ops.specs.Numbers.{HasNumbers, numbers}
use Rattle.wl_ops.specs.declared.op.Op.{Op}
use Rattle.wl_ops.specs.declared.op.DataIndexImm.{DataIndexImm}
use Rattle.wl_ops.proofs.NumberLaws.{marked_body}
use Rattle.wl_live.specs.Faults.{HasBodyFault, HasGlobalFault}
use Rattle.wl_live.specs.Facts.{Facts, uses_of, slot_uses, segment_uses, faults_of, AreSegmentUses, FaultsOfBodies, AreFacts, AreAllFacts}
use Rattle.wl_live.specs.declared.object_facts.SegmentUse.{SegmentUse}
use Rattle.wl_live.specs.declared.object_facts.UnitFault.{UnitFault}
use Rattle.wl_symbols.specs.declared.units.WasmGcUnit.TheVariants.{DefinedFunction, DefinedGlobal}
use Rattle.wl_lists.proofs.In.{Contains-none}
use Rattle.wl_lists.proofs.Places.{there_is}
use Rattle.wl_live.proofs.FaultLaws.{FaultsOfGlobals, FaultsOfBodies-more, FaultsOfGlobals-more, AreFaults-from}

-- that there is none is impossible
abbrev Possible : Type 0 → Type 0
Possible P = (P → ⊥) → ⊥

made : {P Q : Type 0} → (P → Q) → Possible P → Possible Q
made f p none = p (λ x. none (f x))

joined : {P Q : Type 0} → Possible P → (P → Possible Q) → Possible Q
joined p f none = p (λ x. f x none)

either_way : (P : Type 0) → Possible (P ⊎ (P → ⊥))
either_way P none = none (inr (λ p. none (inl p)))

-- ---- segments

numbers_of : (body : List ℕ) → Possible ((ns : List DataIndexImm) × HasNumbers ns body)
numbers_of body = made told (either_way ((ops : List Op) × AreTaken ops body))
  where
    told : ((ops : List Op) × AreTaken ops body) ⊎ (((ops : List Op) × AreTaken ops body) → ⊥) → (ns : List DataIndexImm) × HasNumbers ns body
    told (inl p) = let m = marked_body body p.0 p.1 in (numbers m.0, inl (m.0, m.1, refl))
    told (inr none) = ([], inr (λ ops taken. none (ops, taken), refl))

segments_of : (k : ℕ) (bodies : List Body) → Possible ((uses : List SegmentUse) × AreSegmentUses k bodies uses)
segments_of k [] = λ none. none ([], refl)
segments_of k (body ∷ bodies) =
    joined (numbers_of body.bytes)
    (λ n. made (λ r. (segment_uses k n.0 ++ r.0, (n.0, r.0, n.1, r.1, refl))) (segments_of (k + 1) bodies))

-- ---- faults

-- the error of a cause, if it has one
abbrev ErrorOf : (ReadError → Type 0) → Type 0
ErrorOf Cause = (error : Option ReadError) × MatchOption error ((e : ReadError) → Cause e → ⊥) Cause

error_of : (Cause : ReadError → Type 0) → Possible (ErrorOf Cause)
error_of Cause = made told (either_way ((e : ReadError) × Cause e))
  where
    told : ((e : ReadError) × Cause e) ⊎ (((e : ReadError) × Cause e) → ⊥) → ErrorOf Cause
    told (inl p) = (Some p.0, p.1)
    told (inr none) = (None, λ e c. none (e, c))

body_faults : (o : Object) (n : ℕ) → n ≤ length o.bodies → Possible ((faults : List UnitFault) × FaultsOfBodies o n faults)
body_faults o zero le = λ none. none ([], record { only = λ f m. absurd (Contains-none f m); every = λ k e lt f. absurd (omega arith) })
body_faults o (suc n) le =
    let b = there_is o.bodies n (omega (arith, le)) in
    let next : n + 1 ≡ suc n = omega arith in
    joined (body_faults o n (omega (arith, le)))
    (λ old. made
    (λ x.
    let new : List UnitFault = old.0 ++ faults_of (DefinedFunction n) x.0 in
    (new, subst (λ (m : ℕ). FaultsOfBodies o m new) next (FaultsOfBodies-more o n b.0 old.0 new x.0 old.1 b.1 x.1 refl)))
    (error_of (HasBodyFault o b.0)))

global_faults : (o : Object) (n : ℕ) → n ≤ length o.globals → Possible ((faults : List UnitFault) × FaultsOfGlobals o n faults)
global_faults o zero le =
    made (λ b. (b.0, record { only = b.1.only; bodies = b.1.every; globals = λ k e lt f. absurd (omega arith) }))
    (body_faults o (length o.bodies) (omega arith))
global_faults o (suc n) le =
    let g = there_is o.globals n (omega (arith, le)) in
    let next : n + 1 ≡ suc n = omega arith in
    joined (global_faults o n (omega (arith, le)))
    (λ old. made
    (λ x.
    let new : List UnitFault = old.0 ++ faults_of (DefinedGlobal n) x.0 in
    (new, subst (λ (m : ℕ). FaultsOfGlobals o m new) next (FaultsOfGlobals-more o n g.0 old.0 new x.0 old.1 g.1 x.1 refl)))
    (error_of (HasGlobalFault g.0)))

-- ---- objects

facts_of : (o : Object) → Possible ((f : Facts) × AreFacts o f)
facts_of o =
    joined (segments_of 0 o.bodies)
    (λ s. made
    (λ f. (
      record { uses = uses_of o; slots = slot_uses o; segments = s.0; faults = f.0 },
      record { uses = refl; slots = refl; segments = s.1; faults = AreFaults-from o (length o.globals) f.0 f.1 (omega arith) },
    ))
    (global_faults o (length o.globals) (omega arith)))

all_facts_of : (objects : List Object) → Possible ((facts : List Facts) × AreAllFacts objects facts)
all_facts_of [] = λ none. none ([], tt)
all_facts_of (o ∷ objects) = joined (facts_of o) (λ f. made (λ r. (f.0 ∷ r.0, (f.1, r.1))) (all_facts_of objects))

pub some_facts : (objects : List Object) → ((facts : List Facts) → AreAllFacts objects facts → ⊥) → ⊥
some_facts objects none = all_facts_of objects (λ p. none p.0 p.1)
