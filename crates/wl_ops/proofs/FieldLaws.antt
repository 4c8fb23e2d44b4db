-- The bytes of a field stand in the rewritten body where the field has moved.
use Rattle.std.proofs.Common.{◌≡◌, ℕ, zero, suc, ◌+◌, ◌-◌, ◌≤◌, true, leb, List, [], ◌∷◌, ◌++◌, length, take, drop, Option, Some, refl, sym, ap, subst, ◌∙◌, arith, length-append, inl, inr}
use Rattle.std.proofs.Math.Seq.{drop-append-add}
use Rattle.std.proofs.lemmas.Bool.Decides.{leb_tells}
use Rattle.std.proofs.lemmas.List.{take-append-le, length-drop}
use Rattle.std.proofs.lemmas.List.Sums.{sum_by-cons}
use Rattle.wl_bytes.specs.Leb.{IsShortest}
use Rattle.wl_bytes.proofs.ShortestLaws.{shortest_is_one}
use Rattle.wl_ops.specs.declared.op.DataIndexImm.{DataIndexImm}
use Rattle.wl_ops.specs.Numbers.{HasNumbers}
use Rattle.wl_ops.specs.Rewriting.{IsShort, Rewrites, before, old_bytes, NewBytes, Moves, LieWithin}
use Rattle.wl_ops.specs.Standing.{OverlapsNone, window}
use Rattle.wl_ops.proofs.LieLaws.{none_before, numbers_lie}

-- ---- how many bytes

some_same : (k j : ℕ) (o : Option ℕ) → o ≡ Some k → o ≡ Some j → k ≡ j
some_same k j o e f = cc

-- a number has one shortest spelling, whichever way it was found
pub one_short : (o : Option ℕ) (k j : ℕ) (s t : List ℕ) → o ≡ Some k → IsShort k s → o ≡ Some j → IsShort j t → s ≡ t
one_short o k j s t e a f b = shortest_is_one k s t a.1 (subst (λ (n : ℕ). IsShortest n t) (some_same j k o f e) b.1)

pub one_new : (new : ℕ → Option ℕ) (ns : List DataIndexImm) (a b : ℕ) → NewBytes new ns a → NewBytes new ns b → a ≡ b
one_new new [] a b g h = omega (arith, g, h)
one_new new (n ∷ ns) a b g h =
    let here = one_short (new n.index) g.0 h.0 g.1 h.1 g.3 g.4 h.3 h.4 in
    let others = one_new new ns g.2 h.2 g.5 h.5 in
    omega (arith, g.6, h.6, others, ap length here)

-- the bytes of two lists
pub new_append : (new : ℕ → Option ℕ) (ns ks : List DataIndexImm) (a : ℕ) → NewBytes new (ns ++ ks) a → (b : ℕ) × (c : ℕ) × NewBytes new ns b × NewBytes new ks c × (a ≡ b + c)
new_append new [] ks a g = (0, a, refl, g, omega arith)
new_append new (n ∷ ns) ks a g =
    let w = new_append new ns ks g.2 g.5 in
    (length g.1 + w.0, w.1, (g.0, g.1, w.0, g.3, g.4, w.2, refl), w.3, omega (arith, g.6, w.4))

-- ---- stretches

drop_within : (xs ys : List ℕ) (a : ℕ) → a ≤ length xs → drop a (xs ++ ys) ≡ drop a xs ++ ys
drop_within xs ys zero le = refl
drop_within [] ys (suc a) le = absurd (omega (arith, le))
drop_within (x ∷ xs) ys (suc a) le = drop_within xs ys a (omega (arith, le))

-- a stretch within the front
front_stretch : (a w : ℕ) (xs ys : List ℕ) → a + w ≤ length xs → window a w (xs ++ ys) ≡ window a w xs
front_stretch a w xs ys le =
    ap (take w) (drop_within xs ys a (omega (arith, le))) ∙ take-append-le w (drop a xs) ys (omega (arith, le, length-drop a xs))

-- a stretch after two parts
back_stretch : (a w : ℕ) (xs ys zs : List ℕ) → window (length xs + (length ys + a)) w (xs ++ (ys ++ zs)) ≡ window a w zs
back_stretch a w xs ys zs = ap (take w) (drop-append-add xs (ys ++ zs) (length ys + a) ∙ drop-append-add ys zs a)

-- ---- where the bytes of a field stand

abbrev Found : (ℕ → Option ℕ) → List DataIndexImm → ℕ → ℕ → ℕ → List ℕ → List ℕ → Type 0
Found new ns from a w x y = (b : ℕ) × (window b w y ≡ window a w x) × ((bytes : ℕ) → NewBytes new (before (from + a) ns) bytes → b + old_bytes (before (from + a) ns) ≡ a + bytes)

field_found : (new : ℕ → Option ℕ) (ns : List DataIndexImm) (from to a w : ℕ) (x y : List ℕ) → Rewrites new from ns x y → LieWithin from ns to → OverlapsNone ns (from + a) w → a + w ≤ length x → Found new ns from a w x y
field_found new [] from to a w x y r l o le = (a, ap (window a w) r, λ bytes g. omega (arith, g))
field_found new (n ∷ ns) from to a w x y r l o le =
    elim (leb_tells (n.offset + n.len) (from + a)) [
      | inl t ↦ behind (λ from a x y r l o le. field_found new ns from to a w x y r l o le) t.0 t.1
      | inr f ↦ elim o.0 [
        | inl h ↦ absurd (omega (arith, h, f.1))
        | inr h ↦
            let within : a + w ≤ length r.0 = omega (arith, h, r.7) in
            let later : before (from + a) (n ∷ ns) ≡ [] = rw f.0 (none_before (n.offset + n.len) ns to (from + a) l.2 f.1) in (
              a,
              ap (window a w) r.11 ∙ front_stretch a w r.0 (r.4 ++ r.5) within ∙ sym (ap (window a w) r.6 ∙ front_stretch a w r.0 (r.1 ++ r.2) within),
              λ bytes g. nothing bytes later g,
            )
      ]
    ]
  where
    nothing : (bytes : ℕ) → before (from + a) (n ∷ ns) ≡ [] → NewBytes new (before (from + a) (n ∷ ns)) bytes → a + old_bytes (before (from + a) (n ∷ ns)) ≡ a + bytes
    nothing bytes e g =
        let none : bytes ≡ 0 = subst (λ (ks : List DataIndexImm). NewBytes new ks bytes) e g in
        subst (λ (ks : List DataIndexImm). a + old_bytes ks ≡ a + bytes) (sym e) (omega (arith, none))

    behind : ((from a : ℕ) (x y : List ℕ) → Rewrites new from ns x y → LieWithin from ns to → OverlapsNone ns (from + a) w → a + w ≤ length x → Found new ns from a w x y)
        → leb (n.offset + n.len) (from + a) ≡ true → n.offset + n.len ≤ from + a → Found new (n ∷ ns) from a w x y
    behind further is earlier =
        let rest : ℕ = a - length r.0 - length r.1 in
        let at : a ≡ length r.0 + (length r.1 + rest) = omega (arith, earlier, r.7, r.8) in
        let place : from + a ≡ n.offset + n.len + rest = omega (arith, at, r.7, r.8) in
        let bound : rest + w ≤ length r.2 = omega (arith, at, le, ap length r.6, length-append r.0 (r.1 ++ r.2), length-append r.1 r.2) in
        let f = further (n.offset + n.len) rest r.2 r.5 r.12 l.2 (subst (λ (p : ℕ). OverlapsNone ns p w) place o.1) bound in
        let theirs : before (from + a) (n ∷ ns) ≡ n ∷ before (from + a) ns = rw is refl in (
          length r.0 + (length r.4 + f.0),
          ap (window (length r.0 + (length r.4 + f.0)) w) r.11 ∙ back_stretch f.0 w r.0 r.4 r.5 ∙ f.1
              ∙ sym (ap (λ (p : ℕ). window p w x) at ∙ ap (window (length r.0 + (length r.1 + rest)) w) r.6 ∙ back_stretch rest w r.0 r.1 r.2),
          λ bytes g.
              let h = subst (λ (ks : List DataIndexImm). NewBytes new ks bytes) theirs g in
              let short = one_short (new n.index) r.3 h.0 r.4 h.1 r.9 r.10 h.3 h.4 in
              let more = f.2 h.2 (subst (λ (p : ℕ). NewBytes new (before p ns) h.2) place h.5) in
              let more' : f.0 + old_bytes (before (from + a) ns) ≡ rest + h.2 = subst (λ (p : ℕ). f.0 + old_bytes (before p ns) ≡ rest + h.2) (sym place) more in
              let all : length r.0 + (length r.4 + f.0) + old_bytes (n ∷ before (from + a) ns) ≡ a + bytes =
              omega (arith, more', at, r.8, h.6, ap length short, sum_by-cons (λ (n : DataIndexImm). n.len) n (before (from + a) ns)) in
              subst (λ (ks : List DataIndexImm). length r.0 + (length r.4 + f.0) + old_bytes ks ≡ a + bytes) (sym theirs) all,
        )

-- the bytes of a field that overlaps no number are the same where it has moved
pub field_same : (new : ℕ → Option ℕ) (ns : List DataIndexImm) (p q w : ℕ) (x y : List ℕ) → HasNumbers ns x → Rewrites new 0 ns x y → Moves new ns p q → OverlapsNone ns p w → p + w ≤ length x
    → window q w y ≡ window p w x
field_same new ns p q w x y h r m o le =
    let zero : p ≡ 0 + p = omega arith in
    let f = field_found new ns 0 (length x) p w x y r (numbers_lie ns x h) (subst (λ (k : ℕ). OverlapsNone ns k w) zero o) le in
    let there = f.2 m.0 (subst (λ (k : ℕ). NewBytes new (before k ns) m.0) zero m.1) in
    let there' : f.0 + old_bytes (before p ns) ≡ p + m.0 = subst (λ (k : ℕ). f.0 + old_bytes (before k ns) ≡ p + m.0) (sym zero) there in
    let same : q ≡ f.0 = omega (arith, there', m.2) in
    ap (λ (k : ℕ). window k w y) same ∙ f.1
