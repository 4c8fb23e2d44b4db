-- Where the numbers of a body lie.
use Rattle.std.proofs.Common.{◌≡◌, ℕ, ◌+◌, ◌<◌, ◌≤◌, true, false, leb, List, [], ◌∷◌, ◌++◌, length, drop, get_or, Option, Some, None, refl, ap, subst, arith, length-append, add-one, drop-cons, inl, inr}
use Rattle.std.specs.List.{cons_option}
use Rattle.std.proofs.lemmas.Bool.{lt-leb, le-leb}
use Rattle.wl_bytes.specs.Leb.{IsU32}
use Rattle.wl_bytes.specs.Grammar.{Items}
use Rattle.wl_bytes.specs.Checks.{When}
use Rattle.wl_ops.specs.declared.op.DataIndexImm.{DataIndexImm}
use Rattle.wl_ops.specs.declared.op.Marked.{Marked}
use Rattle.wl_ops.specs.Table.{is_prefix}
use Rattle.wl_ops.specs.Numbers.{is_segment, IsMarkedOp, numbers, HasNumbers}
use Rattle.wl_ops.specs.Rewriting.{LieWithin, before}
use Rattle.wl_ops.proofs.NumberLaws.{segment_is}
use Rattle.wl_ops.proofs.NumberIn.{HasNumber, some_is}

abbrev pub nothing : DataIndexImm
nothing = record { offset = 0; len = 0; index = 0 }

pub next : (ns : List DataIndexImm) (k : ℕ) → k < length ns → drop k ns ≡ get_or ns k nothing ∷ drop (k + 1) ns
next ns k lt = rw add-one (drop-cons ns k nothing lt)

pub lie_ends : (from : ℕ) (ns : List DataIndexImm) (to : ℕ) → LieWithin from ns to → from ≤ to
lie_ends from [] to h = h
lie_ends from (n ∷ ns) to h = let more = lie_ends (n.offset + n.len) ns to h.2 in omega (arith, h.0, more)

-- the next number lies after the place, and those after it lie after it
pub lie_next : (from : ℕ) (ns : List DataIndexImm) (k to : ℕ) (n : DataIndexImm) → k < length ns → get_or ns k nothing ≡ n → LieWithin from (drop k ns) to → (from ≤ n.offset) × LieWithin (n.offset + n.len) (drop (k + 1) ns) to
lie_next from ns k to n lt e h =
    let l = subst (λ (m : DataIndexImm). (from + 2 ≤ m.offset) × (1 ≤ m.len) × LieWithin (m.offset + m.len) (drop (k + 1) ns) to) e (subst (λ (l : List DataIndexImm). LieWithin from l to) (next ns k lt) h) in
    (omega (arith, l.0), l.2)

-- numbers that lie after a place lie after each earlier one
pub lie_from : (a b : ℕ) (ns : List DataIndexImm) (to : ℕ) → a ≤ b → LieWithin b ns to → LieWithin a ns to
lie_from a b [] to le l = omega (arith, le, l)
lie_from a b (n ∷ ns) to le l = (omega (arith, le, l.0), l.1, l.2)

-- some numbers up to a place, and others from there on
pub lie_join : (a b : ℕ) (ns ks : List DataIndexImm) (to : ℕ) → LieWithin a ns b → LieWithin b ks to → LieWithin a (ns ++ ks) to
lie_join a b [] ks to l k = lie_from a b ks to l k
lie_join a b (n ∷ ns) ks to l k = (l.0, l.1, lie_join (n.offset + n.len) b ns ks to l.2 k)

-- none of the numbers that lie after p is before it
pub none_before : (a : ℕ) (ns : List DataIndexImm) (to p : ℕ) → LieWithin a ns to → p < a → before p ns ≡ []
none_before a [] to p l lt = refl
none_before a (n ∷ ns) to p l lt =
    let later : leb (n.offset + n.len) p ≡ false = lt-leb (n.offset + n.len) p (omega (arith, l.0, lt)) in
    rw later (none_before (n.offset + n.len) ns to p l.2 (omega (arith, l.0, lt)))

-- all that lie up to p are
pub all_before : (a : ℕ) (ns : List DataIndexImm) (to p : ℕ) → LieWithin a ns to → to ≤ p → before p ns ≡ ns
all_before a [] to p l le = refl
all_before a (n ∷ ns) to p l le =
    let ends = lie_ends (n.offset + n.len) ns to l.2 in
    let earlier : leb (n.offset + n.len) p ≡ true = le-leb (n.offset + n.len) p (omega (arith, ends, le)) in
    rw earlier (ap (λ (ks : List DataIndexImm). n ∷ ks) (all_before (n.offset + n.len) ns to p l.2 le))

-- ---- where the numbers lie

pub lies_so : (place : ℕ) (m : Marked) (text : List ℕ) (n : DataIndexImm) → HasNumber place m text n → (place + 2 ≤ n.offset) × (1 ≤ n.len) × (n.offset + n.len ≤ place + length text)
lies_so place m text n h =
    let code = (segment_is m.op.code m.op.sub h.segment).0 in
    let sub : When IsU32 true (place + length h.first.0) h.first.4.0 h.first.1 = subst (λ (k : ℕ). When IsU32 (is_prefix k) (place + length h.first.0) h.first.4.0 h.first.1) code h.first.4.1 in
    let some = some_when (place + length h.first.0) h.first.4.0 h.first.1 sub in
    let digits = u32_some (place + length h.head) n.index h.digits h.number.0 in (
      omega (arith, h.number.1, ap length h.first.2, length-append h.first.0 h.first.1, ap length h.first.3, some),
      omega (arith, h.number.2, digits),
      omega (arith, h.number.1, h.number.2, ap length h.parts, length-append h.head (h.digits ++ h.back), length-append h.digits h.back),
    )
  where
    u32_some : (place n : ℕ) (t : List ℕ) → IsU32 place n t → 1 ≤ length t
    u32_some place n t s = omega (arith, ap length s.leb.parts, length-append s.leb.front (s.leb.end ∷ []))

    some_when : (place : ℕ) (o : Option ℕ) (t : List ℕ) → When IsU32 true place o t → 1 ≤ length t
    some_when place None t s = absurd s
    some_when place (Some n) t s = u32_some place n t s

pub lie_items : (ms : List Marked) (from place : ℕ) (text : List ℕ) → from ≤ place → Items IsMarkedOp place ms text → LieWithin from (numbers ms) (place + length text)
lie_items [] from place text le s = omega (arith, le)
lie_items (m ∷ ms) from place text le s =
    let all : place + length s.0 + length s.1 ≡ place + length text = omega (arith, ap length s.2, length-append s.0 s.1) in
    by_number (λ from place text le s. lie_items ms from place text le s) all m.number refl
  where
    by_number : ((from place : ℕ) (text : List ℕ) → from ≤ place → Items IsMarkedOp place ms text → LieWithin from (numbers ms) (place + length text))
        → place + length s.0 + length s.1 ≡ place + length text → (o : Option DataIndexImm) → m.number ≡ o → LieWithin from (cons_option m.number (numbers ms)) (place + length text)
    by_number further all None none =
        rw none (subst (λ (to : ℕ). LieWithin from (numbers ms) to) all (further from (place + length s.0) s.1 (omega (arith, le)) s.4))
    by_number further all (Some n) some =
        let h = some_is (is_segment m.op.code m.op.sub) m place s.0 n refl some s.3 in
        let l = lies_so place m s.0 n h in
        rw some (omega (arith, l.0, le), l.1, subst (λ (to : ℕ). LieWithin (n.offset + n.len) (numbers ms) to) all (further (n.offset + n.len) (place + length s.0) s.1 l.2 s.4))

-- the numbers of a body lie within it
pub numbers_lie : (ns : List DataIndexImm) (body : List ℕ) → HasNumbers ns body → LieWithin 0 ns (length body)
numbers_lie ns body (inl n) =
    let l = lie_items n.0 0 (length n.1.1) n.1.2 (omega arith) n.1.5 in
    let len : length n.1.1 + length n.1.2 ≡ length body = omega (arith, ap length n.1.3, length-append n.1.1 n.1.2) in
    rw n.2 (subst (λ (to : ℕ). LieWithin 0 (numbers n.0) to) len l)
numbers_lie ns body (inr n) = rw n.1 (omega arith)
