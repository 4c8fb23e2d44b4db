-- What becomes of the bytes of each operator where the numbers of a body are rewritten.
use Rattle.std.proofs.Common.{◌≡◌, ℕ, ◌+◌, ◌≤◌, List, [], ◌∷◌, ◌++◌, length, take, drop, map, Option, Some, None, refl, sym, ap, subst, ◌∙◌, arith, append_assoc, length-append}
use Rattle.std.specs.List.{cons_option}
use Rattle.std.specs.Option.{option_to_list}
use Rattle.std.proofs.lemmas.List.{take_at, drop_at, take-append-drop, length-take}
use Rattle.std.proofs.lemmas.List.Sums.{sum_by-cons}
use Rattle.wl_bytes.specs.Grammar.{Items}
use Rattle.wl_ops.specs.declared.op.Op.{Op}
use Rattle.wl_ops.specs.declared.op.DataIndexImm.{DataIndexImm}
use Rattle.wl_ops.specs.declared.op.Marked.{Marked}
use Rattle.wl_ops.specs.Operators.{IsTaken}
use Rattle.wl_ops.specs.Numbers.{is_segment, IsMarkedOp, numbers}
use Rattle.wl_ops.specs.Rewriting.{Rewrites, old_bytes, NewBytes, renumbered, LieWithin}
use Rattle.wl_ops.proofs.PlaceLaws.{taken_there}
use Rattle.wl_ops.proofs.NumberIn.{alone, none_is, some_is, marked_anew, renumbered_is}
use Rattle.wl_ops.proofs.LieLaws.{lie_join, lie_items}

-- ---- cutting

-- two ways to cut the same bytes at the same place
pub cut_same : (a b c d : List ℕ) → a ++ b ≡ c ++ d → length a ≡ length c → (a ≡ c) × (b ≡ d)
cut_same a b c d e len = (
  sym (take_at a b (length c) len) ∙ ap (take (length c)) e ∙ take_at c d (length c) refl,
  sym (drop_at a b (length c) len) ∙ ap (drop (length c)) e ∙ drop_at c d (length c) refl,
)

-- the front of a longer front
pub cut_within : (pre x front back : List ℕ) → pre ++ x ≡ front ++ back → length pre ≤ length front → (more : List ℕ) × (front ≡ pre ++ more) × (x ≡ more ++ back)
cut_within pre x front back e le =
    let n : ℕ = length pre in
    let whole : front ≡ take n front ++ drop n front = sym (take-append-drop n front) in
    let len : n ≡ length (take n front) = omega (arith, le, length-take n front) in
    let all : pre ++ x ≡ take n front ++ (drop n front ++ back) = e ∙ ap (λ (z : List ℕ). z ++ back) whole ∙ append_assoc (take n front) (drop n front) back in
    let cut = cut_same pre x (take n front) (drop n front ++ back) all len in
    (drop n front, whole ∙ ap (λ (z : List ℕ). z ++ drop n front) (sym cut.0), cut.1)

-- leading bytes that no number reaches stay first
pub recut : (new : ℕ → Option ℕ) (ns : List DataIndexImm) (from to : ℕ) (pre x y : List ℕ) → LieWithin (from + length pre) ns to → Rewrites new from ns (pre ++ x) y → (more : List ℕ) × (y ≡ pre ++ more) × Rewrites new (from + length pre) ns x more
recut new [] from to pre x y l r = (x, r, refl)
recut new (n ∷ ns) from to pre x y l r =
    let c = cut_within pre x r.0 (r.1 ++ r.2) r.6 (omega (arith, l.0, r.7)) in
    let at : n.offset ≡ from + length pre + length c.0 = omega (arith, r.7, ap length c.1, length-append pre c.0) in
    let whole : y ≡ pre ++ (c.0 ++ (r.4 ++ r.5)) = r.11 ∙ ap (λ (z : List ℕ). z ++ (r.4 ++ r.5)) c.1 ∙ append_assoc pre c.0 (r.4 ++ r.5) in
    (c.0 ++ (r.4 ++ r.5), whole, (c.0, r.1, r.2, r.3, r.4, r.5, c.2, at, r.8, r.9, r.10, refl, r.12))

-- ---- one operator

pub record Piece (new : ℕ → Option ℕ) (m : Marked) (ns : List DataIndexImm) (place : ℕ) (text rest y : List ℕ) : Type 0 where
  pub anew : List ℕ
  pub more : List ℕ
  pub parts : y ≡ anew ++ more
  pub taken : (there : ℕ) → IsTaken there (renumbered new m.op) anew
  pub others : Rewrites new (place + length text) ns rest more
  pub bytes : ℕ
  pub grown : NewBytes new (option_to_list m.number) bytes
  pub size : length anew + old_bytes (option_to_list m.number) ≡ length text + bytes

joined_so : (y before short more head back rest : List ℕ) → y ≡ before ++ (short ++ more) → head ≡ before → more ≡ back ++ rest → y ≡ (head ++ (short ++ back)) ++ rest
joined_so y before short more head back rest e p q = rw (e, ← p, q) (simp append_assoc)

pub piece : (new : ℕ → Option ℕ) → (m : Marked) (ns : List DataIndexImm) (place to : ℕ) (text rest y : List ℕ) → IsMarkedOp place m text → LieWithin (place + length text) ns to
    → Rewrites new place (cons_option m.number ns) (text ++ rest) y → Piece new m ns place text rest y
piece new m ns place to text rest y s l r = by_number m.number refl
  where
    by_number : (o : Option DataIndexImm) → m.number ≡ o → Piece new m ns place text rest y
    by_number None none =
        let r' : Rewrites new place ns (text ++ rest) y = subst (λ (o : Option DataIndexImm). Rewrites new place (cons_option o ns) (text ++ rest) y) none r in
        let c = recut new ns place to text rest y l r' in
        let seg = none_is (is_segment m.op.code m.op.sub) m place text refl none s in
        let same : renumbered new m.op ≡ m.op = rw seg refl in
        record {
          anew = text;
          more = c.0;
          parts = c.1;
          taken = λ there. subst (λ (o : Op). IsTaken there o text) (sym same) (taken_there m.op place there text (alone m place text s));
          others = c.2;
          bytes = 0;
          grown = rw none refl;
          size = rw none refl;
        }
    by_number (Some n) some =
        let h = some_is (is_segment m.op.code m.op.sub) m place text n refl some s in
        let c = subst (λ (o : Option DataIndexImm). Rewrites new place (cons_option o ns) (text ++ rest) y) some r in
        let whole : h.head ++ (h.digits ++ (h.back ++ rest)) ≡ c.0 ++ (c.1 ++ c.2) = sym (ap (λ (z : List ℕ). z ++ rest) h.parts ∙ simp append_assoc) ∙ c.6 in
        let one = cut_same h.head (h.digits ++ (h.back ++ rest)) c.0 (c.1 ++ c.2) whole (omega (arith, h.number.1, c.7)) in
        let two = cut_same h.digits (h.back ++ rest) c.1 c.2 one.1 (omega (arith, h.number.2, c.8)) in
        let len : length text ≡ length h.head + (n.len + length h.back) = omega (arith, ap length h.parts, length-append h.head (h.digits ++ h.back), length-append h.digits h.back, h.number.2) in
        let at : place + length text ≡ n.offset + n.len + length h.back = omega (arith, len, h.number.1) in
        let d = recut new ns (n.offset + n.len) to h.back rest c.5 (subst (λ (k : ℕ). LieWithin k ns to) at l) (subst (λ (z : List ℕ). Rewrites new (n.offset + n.len) ns z c.5) (sym two.1) c.12) in
        let size : length (h.head ++ (c.4 ++ h.back)) + n.len ≡ length text + length c.4 = omega (arith, len, length-append h.head (c.4 ++ h.back), length-append c.4 h.back) in
        record {
          anew = h.head ++ (c.4 ++ h.back);
          more = d.0;
          parts = joined_so y c.0 c.4 c.5 h.head h.back d.0 c.11 one.0 d.1;
          taken = λ there. subst (λ (o : Op). IsTaken there o (h.head ++ (c.4 ++ h.back))) (renumbered_is new m place text n c.3 (there + length h.head) (length c.4) h c.9)
              (marked_anew m place there text n c.3 c.4 h c.10.0 c.10.1);
          others = subst (λ (k : ℕ). Rewrites new k ns rest d.0) (sym at) d.2;
          bytes = length c.4;
          grown = subst (λ (o : Option DataIndexImm). NewBytes new (option_to_list o) (length c.4)) (sym some) (c.3, c.4, 0, c.9, c.10, refl, omega arith);
          size = subst (λ (o : Option DataIndexImm). length (h.head ++ (c.4 ++ h.back)) + old_bytes (option_to_list o) ≡ length text + length c.4) (sym some) (omega (arith, size));
        }

-- ---- operators in a row

pub record Pieces (new : ℕ → Option ℕ) (ms : List Marked) (ns : List DataIndexImm) (place : ℕ) (text rest y : List ℕ) : Type 0 where
  pub anew : List ℕ
  pub more : List ℕ
  pub parts : y ≡ anew ++ more
  pub taken : (there : ℕ) → Items IsTaken there (map (λ m. renumbered new m.op) ms) anew
  pub others : Rewrites new (place + length text) ns rest more
  pub bytes : ℕ
  pub grown : NewBytes new (numbers ms) bytes
  pub size : length anew + old_bytes (numbers ms) ≡ length text + bytes

pub cons_append : (o : Option DataIndexImm) (ns ks : List DataIndexImm) → cons_option o ns ++ ks ≡ cons_option o (ns ++ ks)
cons_append None ns ks = refl
cons_append (Some n) ns ks = refl

pub grown_more : (new : ℕ → Option ℕ) (o : Option DataIndexImm) (ns : List DataIndexImm) (a b : ℕ) → NewBytes new (option_to_list o) a → NewBytes new ns b → NewBytes new (cons_option o ns) (a + b)
grown_more new None ns a b g h = subst (λ (k : ℕ). NewBytes new ns k) (omega (arith, g)) h
grown_more new (Some n) ns a b g h = (g.0, g.1, b, g.3, g.4, h, omega (arith, g.5, g.6))

old_more : (o : Option DataIndexImm) (ns : List DataIndexImm) → old_bytes (cons_option o ns) ≡ old_bytes (option_to_list o) + old_bytes ns
old_more None ns = omega arith
old_more (Some n) ns = omega (arith, sum_by-cons (λ (n : DataIndexImm). n.len) n ns, sum_by-cons (λ (n : DataIndexImm). n.len) n [])

pub pieces : (new : ℕ → Option ℕ) → (ms : List Marked) (ns : List DataIndexImm) (place to : ℕ) (text rest y : List ℕ) → Items IsMarkedOp place ms text → LieWithin (place + length text) ns to
    → Rewrites new place (numbers ms ++ ns) (text ++ rest) y → Pieces new ms ns place text rest y
pieces new [] ns place to text rest y s l r =
    let none : place ≡ place + length text = omega (arith, ap length s) in
    record {
      anew = [];
      more = y;
      parts = refl;
      taken = λ there. refl;
      others = subst (λ (k : ℕ). Rewrites new k ns rest y) none (subst (λ (z : List ℕ). Rewrites new place ns (z ++ rest) y) s r);
      bytes = 0;
      grown = refl;
      size = omega (arith, ap length s);
    }
pieces new (m ∷ ms) ns place to text rest y s l r =
    let len : place + length s.0 + length s.1 ≡ place + length text = omega (arith, ap length s.2, length-append s.0 s.1) in
    let l' = subst (λ (k : ℕ). LieWithin k ns to) (sym len) l in
    let theirs = lie_join (place + length s.0) (place + length s.0 + length s.1) (numbers ms) ns to (lie_items ms (place + length s.0) (place + length s.0) s.1 (omega arith) s.4) l' in
    let whole : text ++ rest ≡ s.0 ++ (s.1 ++ rest) = ap (λ (z : List ℕ). z ++ rest) s.2 ∙ append_assoc s.0 s.1 rest in
    let r' : Rewrites new place (cons_option m.number (numbers ms ++ ns)) (s.0 ++ (s.1 ++ rest)) y =
    subst (λ (ks : List DataIndexImm). Rewrites new place ks (s.0 ++ (s.1 ++ rest)) y) (cons_append m.number (numbers ms) ns) (subst (λ (z : List ℕ). Rewrites new place (cons_option m.number (numbers ms) ++ ns) z y) whole r) in
    let one = piece new m (numbers ms ++ ns) place to s.0 (s.1 ++ rest) y s.3 theirs r' in
    let all = pieces new ms ns (place + length s.0) to s.1 rest one.more s.4 l' one.others in
    record {
      anew = one.anew ++ all.anew;
      more = all.more;
      parts = one.parts ∙ ap (λ (z : List ℕ). one.anew ++ z) all.parts ∙ sym (append_assoc one.anew all.anew all.more);
      taken = λ there. (one.anew, all.anew, refl, one.taken there, all.taken (there + length one.anew));
      others = subst (λ (k : ℕ). Rewrites new k ns rest all.more) len all.others;
      bytes = one.bytes + all.bytes;
      grown = grown_more new m.number (numbers ms) one.bytes all.bytes one.grown all.grown;
      size = omega (arith, one.size, all.size, old_more m.number (numbers ms), length-append one.anew all.anew, ap length s.2, length-append s.0 s.1);
    }
