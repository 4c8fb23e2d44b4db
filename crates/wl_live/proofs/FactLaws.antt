-- What objects say of their units is determined, as far as references go.
use Rattle.std.proofs.Common.{◌≡◌, ℕ, suc, ◌+◌, ◌<◌, List, [], ◌∷◌, ◌++◌, length, get_or, drop, refl, ap, sym, ◌∙◌, subst, arith, drop-cons, append_assoc, append-nil}
use Rattle.std.specs.List.{AllZip}
use Rattle.wl_module.specs.Bodies.{Body}
use Rattle.wl_linking.specs.Object.{Object}
use Rattle.wl_ops.specs.declared.op.DataIndexImm.{DataIndexImm}
use Rattle.wl_symbols.specs.Link.{Link}
use Rattle.wl_symbols.specs.Units.{units_of}
use Rattle.wl_live.specs.Facts.{Facts, segment_uses, NumbersAdded, AreSegmentUses, AreFacts, AreAllFacts}
use Rattle.wl_live.specs.Table.{object_references, references_from, most_steps}
use Rattle.wl_live.specs.declared.object_facts.SegmentUse.{SegmentUse}
use Rattle.wl_symbols.specs.declared.units.UnitCounts.{UnitCounts}
use Rattle.wl_symbols.proofs.KeptLaws.{OneNumbers}

-- ---- one list of facts

pub segments_one : OneNumbers → (k : ℕ) (bodies : List Body) (xs ys : List SegmentUse) → AreSegmentUses k bodies xs → AreSegmentUses k bodies ys → xs ≡ ys
segments_one one k [] xs ys a b = a ∙ sym b
segments_one one k (body ∷ bodies) xs ys a b =
    let numbers : a.0 ≡ b.0 = one body.bytes a.0 b.0 a.2 b.2 in
    let rest : a.1 ≡ b.1 = segments_one one (k + 1) bodies a.1 b.1 a.3 b.3 in
    a.4 ∙ (ap (λ (l : List DataIndexImm). segment_uses k l ++ a.1) numbers ∙ (ap (λ (l : List SegmentUse). segment_uses k b.0 ++ l) rest ∙ sym b.4))

pub object_references-one : OneNumbers → (link : Link) (ns : List UnitCounts) (k : ℕ) (o : Object) (f g : Facts) → AreFacts o f → AreFacts o g → object_references link ns k f ≡ object_references link ns k g
object_references-one one link ns k o f g a b =
    let uses : f.uses ≡ g.uses = a.uses ∙ sym b.uses in
    let slots : f.slots ≡ g.slots = a.slots ∙ sym b.slots in
    let segments : f.segments ≡ g.segments = segments_one one 0 o.bodies f.segments g.segments a.segments b.segments in
    rw (uses, slots, segments) refl

pub references-one : OneNumbers → (link : Link) (ns : List UnitCounts) (k : ℕ) (objects : List Object) (fs gs : List Facts) → AllZip AreFacts objects fs → AllZip AreFacts objects gs → references_from link ns k fs ≡ references_from link ns k gs
references-one one link ns k [] [] [] a b = refl
references-one one link ns k [] [] (g ∷ gs) a b = absurd b
references-one one link ns k [] (f ∷ fs) gs a b = absurd a
references-one one link ns k (o ∷ objects) [] gs a b = absurd a
references-one one link ns k (o ∷ objects) (f ∷ fs) [] a b = absurd b
references-one one link ns k (o ∷ objects) (f ∷ fs) (g ∷ gs) a b =
    rw (object_references-one one link ns k o f g a.0 b.0, references-one one link ns (k + 1) objects fs gs a.1 b.1) refl

pub most_steps-one : OneNumbers → (link : Link) (fs gs : List Facts) → AreAllFacts link.objects fs → AreAllFacts link.objects gs → most_steps link fs ≡ most_steps link gs
most_steps-one one link fs gs a b = rw (references-one one link (units_of link.objects) 0 link.objects fs gs a b) refl

-- ---- facts that are gathered one by one

-- what is gathered so far, with what is still to come after it
abbrev pub Gathered : List Object → ℕ → List Facts → Type 0
Gathered objects k facts = (rest : List Facts) → AllZip AreFacts (drop k objects) rest → AllZip AreFacts objects (facts ++ rest)

pub Gathered-all : (objects : List Object) (k : ℕ) (facts : List Facts) → Gathered objects k facts → drop k objects ≡ [] → AreAllFacts objects facts
Gathered-all objects k facts g none =
    let end : facts ++ [] ≡ facts = append-nil facts in
    subst (λ (l : List Facts). AllZip AreFacts objects l) end (g [] (subst (λ (l : List Object). AllZip AreFacts l []) (sym none) tt))

-- the same for the numbers of bodies
abbrev pub Numbered : List Body → ℕ → List SegmentUse → Type 0
Numbered bodies k uses = (rest : List SegmentUse) → AreSegmentUses k (drop k bodies) rest → AreSegmentUses 0 bodies (uses ++ rest)

pub Numbered-more : (bodies : List Body) (k : ℕ) (b : Body) (old new : List SegmentUse) → Numbered bodies k old → k < length bodies → get_or bodies k b ≡ b → NumbersAdded k b.bytes old new → Numbered bodies (k + 1) new
Numbered-more bodies k b old new n lt at added rest h =
    let one : suc k ≡ k + 1 = omega arith in
    let next : drop k bodies ≡ b ∷ drop (k + 1) bodies = drop-cons bodies k b lt ∙ (ap (λ (x : Body). x ∷ drop (suc k) bodies) at ∙ ap (λ (m : ℕ). b ∷ drop m bodies) one) in
    let here : AreSegmentUses k (b ∷ drop (k + 1) bodies) (segment_uses k added.0 ++ rest) = (added.0, rest, added.1, h, refl) in
    let whole : AreSegmentUses k (drop k bodies) (segment_uses k added.0 ++ rest) = subst (λ (l : List Body). AreSegmentUses k l (segment_uses k added.0 ++ rest)) (sym next) here in
    let joined : old ++ (segment_uses k added.0 ++ rest) ≡ new ++ rest = sym (append_assoc old (segment_uses k added.0) rest) ∙ ap (λ (l : List SegmentUse). l ++ rest) (sym added.2) in
    subst (λ (l : List SegmentUse). AreSegmentUses 0 bodies l) joined (n (segment_uses k added.0 ++ rest) whole)

pub Numbered-all : (bodies : List Body) (k : ℕ) (uses : List SegmentUse) → Numbered bodies k uses → drop k bodies ≡ [] → AreSegmentUses 0 bodies uses
Numbered-all bodies k uses n none =
    subst (λ (l : List SegmentUse). AreSegmentUses 0 bodies l) (append-nil uses) (n [] (subst (λ (l : List Body). AreSegmentUses k l []) (sym none) refl))
