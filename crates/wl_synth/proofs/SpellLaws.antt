-- What is written one after the other.
use Rattle.std.proofs.Common.{◌≡◌, ℕ, ◌+◌, ◌<◌, pos, List, [], ◌∷◌, ◌++◌, length, map, take, drop, get_or, None, refl, sym, ap, subst, ◌∙◌, append_assoc, add-one, drop-cons}
use Rattle.std.proofs.lemmas.List.{append-nil}
use Rattle.wl_ops.specs.declared.op.Op.{Op}
use Rattle.wl_synth.specs.declared.operator.Operator.{Operator}
use Rattle.wl_synth.specs.declared.error.SynthError.{SynthError}
use Rattle.wl_synth.specs.declared.error.SynthError.TheVariants.{OutOfMemory, Range}
use Rattle.wl_synth.specs.Spelling.{IsShortImmediate, AreShortImmediates, IsSpelled, AreSpelled, IsSpelledBody, as_op, as_ops}
use Rattle.wl_synth.specs.Encoding.{great_constant, AreInRange, EncodeFault, AddsText, IsWritten}
use Rattle.wl_synth.proofs.OpLaws.{ReadAgain, made_body}
use Rattle.std.specs.List.{Contains}
use Rattle.std.proofs.lemmas.List.{map-append, take-append-drop}
use Rattle.std.proofs.lemmas.List.Elements.{Contains-append_left, Contains-append_right}

-- what is written so far, with a text that is to come
pub moved_on : (Q : List ℕ → Type 0) (now new text y : List ℕ) → new ≡ now ++ text → Q (now ++ (text ++ y)) → Q (new ++ y)
moved_on Q now new text y e q = subst Q (sym (append_assoc now text y) ∙ ap (λ (x : List ℕ). x ++ y) (sym e)) q

-- one more number
pub number_more : (Q : List ℕ → Type 0) (ns : List ℕ) (i : ℕ) (now new : List ℕ) → i < length ns
    → ((y : List ℕ) → AreShortImmediates None (map (λ n. pos n) (drop i ns)) y → Q (now ++ y))
    → AddsText (IsShortImmediate None (pos (get_or ns i 0))) now new
    → (y : List ℕ) → AreShortImmediates None (map (λ n. pos n) (drop (i + 1) ns)) y → Q (new ++ y)
number_more Q ns i now new lt f a y short =
    let front : drop i ns ≡ get_or ns i 0 ∷ drop (i + 1) ns = rw (add-one) (drop-cons ns i 0 lt) in
    let all : AreShortImmediates None (map (λ n. pos n) (drop i ns)) (a.text ++ y) =
    subst (λ (x : List ℕ). AreShortImmediates None (map (λ n. pos n) x) (a.text ++ y)) (sym front) (a.text, y, refl, a.spelled, short) in
    moved_on Q now new a.text y a.parts (f (a.text ++ y) all)

pub numbers_done : (Q : List ℕ → Type 0) (ns : List ℕ) (i : ℕ) (now : List ℕ) → drop i ns ≡ []
    → ((y : List ℕ) → AreShortImmediates None (map (λ n. pos n) (drop i ns)) y → Q (now ++ y)) → Q now
numbers_done Q ns i now e f =
    let none : AreShortImmediates None (map (λ n. pos n) (drop i ns)) [] = subst (λ (x : List ℕ). AreShortImmediates None (map (λ n. pos n) x) []) (sym e) refl in
    subst Q (append-nil now) (f [] none)

-- ---- a body

-- with the rest after it the body is whole
abbrev IsOpenBody : List Op → List ℕ → List Op → Type 0
IsOpenBody all now rest = (y : List ℕ) → AreSpelled rest y → IsSpelledBody all (now ++ y)

-- one more operator
pub op_more : (all : List Op) (os : List Operator) (i : ℕ) (o : Operator) (now new : List ℕ) → drop i os ≡ o ∷ drop (i + 1) os
    → IsOpenBody all now (as_ops (drop i os)) → AddsText (IsSpelled (as_op o)) now new → IsOpenBody all new (as_ops (drop (i + 1) os))
op_more all os i o now new front f a y s =
    let rest : AreSpelled (as_ops (drop i os)) (a.text ++ y) =
    subst (λ (x : List Operator). AreSpelled (as_ops x) (a.text ++ y)) (sym front) (a.text, y, refl, a.spelled, s) in
    moved_on (IsSpelledBody all) now new a.text y a.parts (f (a.text ++ y) rest)

-- and its constant is in range
pub range_more : (all : List Op) (os : List Operator) (i : ℕ) (o : Operator) → drop i os ≡ o ∷ drop (i + 1) os → great_constant (as_op o) ≡ None
    → (AreInRange (as_ops (drop i os)) → AreInRange all) → AreInRange (as_ops (drop (i + 1) os)) → AreInRange all
range_more all os i o front fits f rest = f (subst (λ (x : List Operator). AreInRange (as_ops x)) (sym front) (fits, rest))

-- a fault of one operator is one of all
pub fault_of_all : (os : List Operator) (i : ℕ) (o : Operator) (e : SynthError) → drop i os ≡ o ∷ drop (i + 1) os → EncodeFault (as_op o ∷ []) e → EncodeFault (as_ops os) e
fault_of_all os i o OutOfMemory front f = tt
fault_of_all os i o (Range v) front f =
    let before = as_ops (take i os) in
    let behind = as_ops (drop (i + 1) os) in
    let whole : before ++ ((as_op o ∷ []) ++ behind) ≡ as_ops os =
    ap (λ (x : List Operator). before ++ as_ops x) (sym front) ∙ sym (map-append as_op (take i os) (drop i os)) ∙ ap as_ops (take-append-drop i os) in
    (f.0, subst (λ (x : List Op). Contains x f.0) whole (Contains-append_right before ((as_op o ∷ []) ++ behind) f.0 (Contains-append_left (as_op o ∷ []) behind f.0 f.1)), f.2)

pub made_whole : ReadAgain → (os : List Operator) (i : ℕ) (now : List ℕ) → drop i os ≡ [] → IsOpenBody (as_ops os) now (as_ops (drop i os))
    → (AreInRange (as_ops (drop i os)) → AreInRange (as_ops os)) → IsWritten (as_ops os) now
made_whole r os i now none f range =
    let rest : AreSpelled (as_ops (drop i os)) [] = subst (λ (x : List Operator). AreSpelled (as_ops x) []) (sym none) refl in
    let made : IsSpelledBody (as_ops os) now = subst (IsSpelledBody (as_ops os)) (append-nil now) (f [] rest) in
    record {
      spelled = made;
      in_range = range (subst (λ (x : List Operator). AreInRange (as_ops x)) (sym none) tt);
      decodes = made_body r os now made;
    }
