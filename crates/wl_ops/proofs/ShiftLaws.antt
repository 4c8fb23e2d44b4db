-- Rewriting numbers one after the other, and where what lies after them stands then.
use Rattle.std.proofs.Common.{◌≡◌, ℕ, zero, suc, ◌+◌, ◌-◌, ◌*◌, ◌<◌, ◌≤◌, ◌^◌, true, false, leb, List, [], ◌∷◌, ◌++◌, length, take, drop, map, get_or, Option, Some, Result, Ok, Err, refl, sym, ap, subst, ◌∙◌, arith, append_assoc, length-append, inl, inr}
use Rattle.std.specs.Prelude.{IfOk, OnOk}
use Rattle.std.specs.List.{AllByRecursion}
use Rattle.std.specs.List.Sorted.{IsNonDecreasingBy, IsPartitionPoint}
use Rattle.std.proofs.lemmas.Bool.{lt-leb, le-leb}
use Rattle.std.proofs.lemmas.Bool.Decides.{leb_tells}
use Rattle.std.proofs.lemmas.List.{get_or_default, take-append-drop, length-take}
use Rattle.std.proofs.lemmas.List.Sums.{sum_by-cons}
use Rattle.wl_bytes.specs.Leb.{IsShortest, AppendsUleb}
use Rattle.wl_bytes.proofs.ShortestLaws.{written_u32}
use Rattle.wl_ops.specs.declared.op.DataIndexImm.{DataIndexImm}
use Rattle.wl_ops.specs.declared.rewriting.Shift.{Shift}
use Rattle.wl_ops.specs.Rewriting.{IsShort, Rewrites, before, old_bytes, NewBytes, AllMove, LieWithin, AreShifts, shifted, IsNear}
use Rattle.wl_ops.proofs.LieLaws.{none_before}

-- ---- the bytes

pub short_len : (k : ℕ) (short : List ℕ) → k < 2 ^ 32 → IsShortest k short → length short ≤ 5
short_len k short lt s =
    let t = written_u32 k short lt s 0 [] in
    omega (arith, t.spelled.leb.short, ap length t.parts, length-append short [], length-append t.text [])

-- what is written of a number of 32 bits is short
pub appended : {E : Type 0} (index : ℕ) (old new : List ℕ) (r : Result (Unit {0}) E) → index < 2 ^ 32 → OnOk r (AppendsUleb index old new)
    → IfOk r (λ _. (short : List ℕ) × IsShort index short × (length short ≤ 5) × (new ≡ old ++ short))
appended index old new (Ok u) lt a = (a.text, (lt, a.short), short_len index a.text lt a.short, a.parts)
appended index old new (Err e) lt a = tt

-- one more number is rewritten
pub rewrites_more : (new : ℕ → Option ℕ) (ns tail : List DataIndexImm) (n : DataIndexImm) (place index : ℕ) (body rest before here after out out' short : List ℕ)
    → ((y : List ℕ) → Rewrites new place (n ∷ tail) rest y → Rewrites new 0 ns body (out ++ y))
    → place ≤ n.offset → before ≡ take (n.offset - place) rest → here ≡ drop (n.offset - place) rest → length before ≡ n.offset - place → after ≡ drop n.len here → n.len ≤ length here
    → new n.index ≡ Some index → IsShort index short → out' ≡ (out ++ before) ++ short
    → (y : List ℕ) → Rewrites new (n.offset + n.len) tail after y → Rewrites new 0 ns body (out' ++ y)
rewrites_more new ns tail n place index body rest before here after out out' short h low front back count later enough is shortest grown y r =
    let split : here ≡ take n.len here ++ after = sym (take-append-drop n.len here) ∙ ap (λ (x : List ℕ). take n.len here ++ x) (sym later) in
    let whole : rest ≡ before ++ (take n.len here ++ after) =
    sym (take-append-drop (n.offset - place) rest) ∙ ap (λ (x : List ℕ). x ++ drop (n.offset - place) rest) (sym front) ∙ ap (λ (x : List ℕ). before ++ x) (sym back ∙ split) in
    let at : n.offset ≡ place + length before = omega (arith, low, count) in
    let len : n.len ≡ length (take n.len here) = omega (arith, enough, length-take n.len here) in
    let all = h (before ++ (short ++ y)) (before, take n.len here, after, index, short, y, whole, at, len, is, shortest, refl, r) in
    let same : out ++ (before ++ (short ++ y)) ≡ out' ++ y = rw grown (simp append_assoc) in
    subst (λ (z : List ℕ). Rewrites new 0 ns body z) same all

-- ---- the places

-- one more shift
pub shifts_more : (new : ℕ → Option ℕ) (ns tail : List DataIndexImm) (n : DataIndexImm) (made more : List Shift) (old there : ℕ) (s : Shift) (k : ℕ) (short : List ℕ)
    → ((ss : List Shift) → AreShifts new old there (n ∷ tail) ss → AreShifts new 0 0 ns (made ++ ss))
    → more ≡ made ++ s ∷ [] → s.old_end ≡ n.offset + n.len → new n.index ≡ Some k → IsShort k short → length short ≤ 5 → s.new_end + old ≡ there + n.offset + length short
    → (ss : List Shift) → AreShifts new s.old_end s.new_end tail ss → AreShifts new 0 0 ns (more ++ ss)
shifts_more new ns tail n made more old there s k short h e end is shortest few at ss a =
    let same : made ++ s ∷ ss ≡ more ++ ss = rw e (simp append_assoc) in
    subst (λ (l : List Shift). AreShifts new 0 0 ns l) same (h (s ∷ ss) (end, (k, short, is, shortest, few, at), a))

-- no end moves far
pub near : (new : ℕ → Option ℕ) (old there to : ℕ) (ns : List DataIndexImm) (ss : List Shift) → LieWithin old ns to → AreShifts new old there ns ss → 3 * there ≤ 7 * old → AllByRecursion IsNear ss
near new old there to [] [] l a le = tt
near new old there to [] (s ∷ ss) l a le = absurd a
near new old there to (n ∷ ns) [] l a le = absurd a
near new old there to (n ∷ ns) (s ∷ ss) l a le =
    let one : 3 * s.new_end ≤ 7 * s.old_end = omega (arith, l.0, l.1, a.0, a.1.4, a.1.5, le) in
    (one, near new s.old_end s.new_end to ns ss (rw a.0 l.2) a.2 one)

-- the ends come one after the other
ends_from : (new : ℕ → Option ℕ) (old there to : ℕ) (ns : List DataIndexImm) (ss : List Shift) → LieWithin old ns to → AreShifts new old there ns ss → (j : ℕ) (d : Shift) → j < length ss → old ≤ (get_or ss j d).old_end
ends_from new old there to [] [] l a j d lt = absurd (omega (arith, lt))
ends_from new old there to [] (s ∷ ss) l a j d lt = absurd a
ends_from new old there to (n ∷ ns) [] l a j d lt = absurd a
ends_from new old there to (n ∷ ns) (s ∷ ss) l a zero d lt = omega (arith, l.0, a.0)
ends_from new old there to (n ∷ ns) (s ∷ ss) l a (suc j) d lt =
    let later = ends_from new s.old_end s.new_end to ns ss (rw a.0 l.2) a.2 j d (omega (arith, lt)) in
    omega (arith, later, l.0, a.0)

pub rising : (new : ℕ → Option ℕ) (old there to : ℕ) (ns : List DataIndexImm) (ss : List Shift) → LieWithin old ns to → AreShifts new old there ns ss → IsNonDecreasingBy (λ s. s.old_end) ss
rising new old there to [] [] l a i j d le lt = absurd (omega (arith, lt))
rising new old there to [] (s ∷ ss) l a i j d le lt = absurd a
rising new old there to (n ∷ ns) [] l a i j d le lt = absurd a
rising new old there to (n ∷ ns) (s ∷ ss) l a zero zero d le lt = omega arith
rising new old there to (n ∷ ns) (s ∷ ss) l a zero (suc j) d le lt = ends_from new s.old_end s.new_end to ns ss (rw a.0 l.2) a.2 j d (omega (arith, lt))
rising new old there to (n ∷ ns) (s ∷ ss) l a (suc i) zero d le lt = absurd (omega (arith, le))
rising new old there to (n ∷ ns) (s ∷ ss) l a (suc i) (suc j) d le lt = rising new s.old_end s.new_end to ns ss (rw a.0 l.2) a.2 i j d (omega (arith, le)) (omega (arith, lt))

abbrev Shifted : (ℕ → Option ℕ) → List DataIndexImm → ℕ → ℕ → ℕ → ℕ → Type 0
Shifted new ns old there p q = (bytes : ℕ) × NewBytes new (before p ns) bytes × (q + old_bytes (before p ns) + old ≡ there + p + bytes)

-- by the shifts a place moves by the sum of the changes of length before it
shifted_is : (new : ℕ → Option ℕ) (ns : List DataIndexImm) (ss : List Shift) (old there to p q : ℕ) → LieWithin old ns to → AreShifts new old there ns ss → old ≤ p → q + old ≡ there + p → Shifted new ns old there p (shifted ss p q)
shifted_is new [] [] old there to p q l a le at = (0, refl, omega (arith, at))
shifted_is new [] (s ∷ ss) old there to p q l a le at = absurd a
shifted_is new (n ∷ ns) [] old there to p q l a le at = absurd a
shifted_is new (n ∷ ns) (s ∷ ss) old there to p q l a le at =
    elim (leb_tells s.old_end p) [
      | inl t ↦
          let next : ℕ = s.new_end + (p - s.old_end) in
          let w = shifted_is new ns ss s.old_end s.new_end to p next (rw a.0 l.2) a.2 t.1 (omega (arith, t.1)) in
          let earlier : leb (n.offset + n.len) p ≡ true = rw (← a.0) t.0 in
          let here : shifted (s ∷ ss) p q ≡ shifted ss p next = rw t.0 refl in
          let theirs : before p (n ∷ ns) ≡ n ∷ before p ns = rw earlier refl in
          let all : shifted ss p next + old_bytes (n ∷ before p ns) + old ≡ there + p + (length a.1.1 + w.0) = omega (arith, w.2, a.0, a.1.5, sum_by-cons (λ (n : DataIndexImm). n.len) n (before p ns)) in
          let whole : (bytes : ℕ) × NewBytes new (n ∷ before p ns) bytes × (shifted ss p next + old_bytes (n ∷ before p ns) + old ≡ there + p + bytes) =
          (length a.1.1 + w.0, (a.1.0, a.1.1, w.0, a.1.2, a.1.3, w.1, refl), all) in
          subst (λ (z : ℕ). Shifted new (n ∷ ns) old there p z) (sym here)
          (subst (λ (ks : List DataIndexImm). (bytes : ℕ) × NewBytes new ks bytes × (shifted ss p next + old_bytes ks + old ≡ there + p + bytes)) (sym theirs) whole)
      | inr f ↦
          let lt : p < n.offset + n.len = omega (arith, f.1, a.0) in
          let later : leb (n.offset + n.len) p ≡ false = lt-leb (n.offset + n.len) p lt in
          let here : shifted (s ∷ ss) p q ≡ q = rw f.0 refl in
          let theirs : before p (n ∷ ns) ≡ [] = rw later (none_before (n.offset + n.len) ns to p l.2 lt) in
          let whole : (bytes : ℕ) × NewBytes new [] bytes × (q + old_bytes [] + old ≡ there + p + bytes) = (0, refl, omega (arith, at)) in
          subst (λ (z : ℕ). Shifted new (n ∷ ns) old there p z) (sym here)
          (subst (λ (ks : List DataIndexImm). (bytes : ℕ) × NewBytes new ks bytes × (q + old_bytes ks + old ≡ there + p + bytes)) (sym theirs) whole)
    ]

pub all_move : (new : ℕ → Option ℕ) (ns : List DataIndexImm) (ss : List Shift) (to : ℕ) (ps : List ℕ) → LieWithin 0 ns to → AreShifts new 0 0 ns ss → AllMove new ns ps (map (λ p. shifted ss p p) ps)
all_move new ns ss to [] l a = tt
all_move new ns ss to (p ∷ ps) l a =
    let w = shifted_is new ns ss 0 0 to p p l a (omega arith) (omega arith) in
    ((w.0, w.1, omega (arith, w.2)), all_move new ns ss to ps l a)

-- ---- the last shift before a place

-- no shift is before p
pub none_tells : (ss : List Shift) (p q : ℕ) (d : Shift) → ((k : ℕ) → k < length ss → p < (get_or ss k d).old_end) → shifted ss p q ≡ q
none_tells [] p q d high = refl
none_tells (s ∷ ss) p q d high = rw (lt-leb s.old_end p (high 0 (omega arith))) refl

-- those up to the i-th are before p, and those after it aren't
pub last_tells : (ss : List Shift) (i p q : ℕ) (d : Shift) → i < length ss → ((k : ℕ) → k ≤ i → (get_or ss k d).old_end ≤ p) → ((k : ℕ) → i < k → k < length ss → p < (get_or ss k d).old_end)
    → shifted ss p q ≡ (get_or ss i d).new_end + (p - (get_or ss i d).old_end)
last_tells [] i p q d lt low high = absurd (omega (arith, lt))
last_tells (s ∷ ss) zero p q d lt low high =
    let first = low 0 (omega arith) in
    rw (le-leb s.old_end p first) (none_tells ss p (s.new_end + (p - s.old_end)) d (λ k less. high (suc k) (omega arith) (omega (arith, less))))
last_tells (s ∷ ss) (suc i) p q d lt low high =
    let first = low 0 (omega arith) in
    let others = last_tells ss i p (s.new_end + (p - s.old_end)) d (omega (arith, lt)) (λ k le. low (suc k) (omega (arith, le))) (λ k at less. high (suc k) (omega (arith, at)) (omega (arith, less))) in
    rw (le-leb s.old_end p first) others

abbrev pub nowhere : Shift
nowhere = record { old_end = 0; new_end = 0 }

-- ---- how many end at a place or before

-- so many, where the last of these does and the next one doesn't
pub ends_parted : (ss : List Shift) (place k : ℕ) (x : Shift)
    → IsNonDecreasingBy (λ (s : Shift). s.old_end) ss → k ≤ length ss
    → (0 < k → (get_or ss (k - 1) x).old_end ≤ place)
    → (k < length ss → place < (get_or ss k x).old_end)
    → IsPartitionPoint (λ (s : Shift). s.old_end ≤ place) (λ (s : Shift). place < s.old_end) ss k
ends_parted ss place k x ascend le last next = (
  λ i d from to.
      let at : (get_or ss i x).old_end ≤ (get_or ss (k - 1) x).old_end =
      ascend i (k - 1) x (omega (arith, to)) (omega (arith, to, le)) in
      let here : (get_or ss i x).old_end ≤ place = omega (arith, at, last (omega (arith, to))) in
      subst (λ (s : Shift). s.old_end ≤ place) (get_or_default ss i x d (omega (arith, to, le))) here,
  λ i d from to.
      let at : (get_or ss k x).old_end ≤ (get_or ss i x).old_end =
      ascend k i x from to in
      let here : place < (get_or ss i x).old_end = omega (arith, at, next (omega (arith, from, to))) in
      subst (λ (s : Shift). place < s.old_end) (get_or_default ss i x d to) here,
)
