-- What a body keeps whose numbers are rewritten.
use Rattle.std.proofs.Common.{◌≡◌, ℕ, ◌+◌, ◌<◌, ◌≤◌, true, cond, List, [], ◌∷◌, ◌++◌, length, map, Option, Some, None, refl, sym, ap, subst, ◌∙◌, arith, append_assoc, length-append, inl, inr}
use Rattle.std.specs.List.{cons_option}
use Rattle.std.specs.Option.{option_to_list}
use Rattle.std.proofs.lemmas.Bool.{lt-leb, le-leb}
use Rattle.std.proofs.lemmas.List.{append-nil, append_cancel_right, length-map, map-append}
use Rattle.std.proofs.lemmas.List.Elements.{filter-append, filter_map-append}
use Rattle.std.proofs.lemmas.List.Sums.{sum_by-cons, sum_by-append}
use Rattle.wl_bytes.specs.Cursor.{Cursor}
use Rattle.wl_bytes.specs.Grammar.{Items}
use Rattle.wl_ops.specs.declared.op.Op.{Op}
use Rattle.wl_ops.specs.declared.op.DataIndexImm.{DataIndexImm}
use Rattle.wl_ops.specs.declared.op.Marked.{Marked}
use Rattle.wl_ops.specs.Operators.{IsTaken}
use Rattle.wl_ops.specs.Decoding.{AreLocals, is_ended, AreTaken}
use Rattle.wl_ops.specs.Numbers.{IsMarkedOp, op_in, numbers, AreMarked, HasNumbers}
use Rattle.wl_ops.specs.Rewriting.{Rewrites, is_before, before, old_bytes, NewBytes, Moves, renumbered, LieWithin}
use Rattle.wl_ops.specs.Standing.{StandsInLocals, StandsIn, OverlapsNone, Keeps}
use Rattle.wl_ops.proofs.DecodeLaws.{all_taken}
use Rattle.wl_ops.proofs.NumberLaws.{of_taken, marked_body}
use Rattle.wl_ops.proofs.ToldLaws.{one_mid, one_list}
use Rattle.wl_ops.proofs.LieLaws.{lie_join, lie_items, none_before, all_before}
use Rattle.wl_ops.proofs.PieceLaws.{recut, piece, pieces}
use Rattle.wl_ops.proofs.FieldLaws.{one_new, new_append, field_same}

-- ---- operators with their numbers

marked_op : (op : Op) (place : ℕ) (text : List ℕ) → IsTaken place op text → (m : Marked) × IsMarkedOp place m text × (m.op ≡ op)
marked_op op place text s =
    let w = of_taken op (record { position = place; rest = text }) (record { position = place + length text; rest = [] }) (record { text = text; spelled = s; parts = sym (append-nil text); moved = refl }) in
    let same : text ≡ w.1.text = append_cancel_right text w.1.text [] (append-nil text ∙ w.1.parts) in
    (w.0, subst (λ (z : List ℕ). IsMarkedOp place w.0 z) (sym same) w.1.spelled, w.2)

marked_items : (ops : List Op) (place : ℕ) (text : List ℕ) → Items IsTaken place ops text → (ms : List Marked) × Items IsMarkedOp place ms text × (map op_in ms ≡ ops)
marked_items [] place text s = ([], s, refl)
marked_items (op ∷ ops) place text s =
    let one = marked_op op place s.0 s.3 in
    let all = marked_items ops (place + length s.0) s.1 s.4 in
    (one.0 ∷ all.0, (s.0, s.1, s.2, one.1, all.1), ap (λ (o : Op). o ∷ map op_in all.0) one.2 ∙ ap (λ (os : List Op). op ∷ os) all.2)

items_join : {X : Type 0} (item : ℕ → X → List ℕ → Type 0) (xs ys : List X) (place : ℕ) (a b : List ℕ) → Items item place xs a → Items item (place + length a) ys b → Items item place (xs ++ ys) (a ++ b)
items_join item [] ys place a b s t =
    let same : place + length a ≡ place = omega (arith, ap length s) in
    let whole : a ++ b ≡ b = ap (λ (z : List ℕ). z ++ b) s in
    subst (λ (z : List ℕ). Items item place ys z) (sym whole) (subst (λ (k : ℕ). Items item k ys b) same t)
items_join item (x ∷ xs) ys place a b s t =
    let at : place + length a ≡ place + length s.0 + length s.1 = omega (arith, ap length s.2, length-append s.0 s.1) in
    let more = items_join item xs ys (place + length s.0) s.1 b s.4 (subst (λ (k : ℕ). Items item k ys b) at t) in
    (s.0, s.1 ++ b, ap (λ (z : List ℕ). z ++ b) s.2 ∙ append_assoc s.0 s.1 b, s.3, more)

-- ---- the same operators

ended_same : (new : ℕ → Option ℕ) (ms : List Marked) → is_ended (map (λ m. renumbered new m.op) ms) ≡ is_ended (map op_in ms)
ended_same new [] = refl
ended_same new (m ∷ []) = refl
ended_same new (m ∷ next ∷ ms) = ended_same new (next ∷ ms)

map_map : (new : ℕ → Option ℕ) (ms : List Marked) → map (renumbered new) (map op_in ms) ≡ map (λ m. renumbered new m.op) ms
map_map new [] = refl
map_map new (m ∷ ms) = ap (λ (os : List Op). renumbered new m.op ∷ os) (map_map new ms)

-- a rewritten body is decoded to the same operators but for the numbers
body_kept : (new : ℕ → Option ℕ) → (ms : List Marked) (x y : List ℕ) → AreMarked ms x → Rewrites new 0 (numbers ms) x y → AreTaken (map (renumbered new) (map op_in ms)) y
body_kept new ms x y s r =
    let front : List ℕ = s.1 in
    let back : List ℕ = s.2 in
    let lie = lie_items ms (length front) (length front) back (omega arith) s.5 in
    let c = recut new (numbers ms) 0 (length front + length back) front back y (subst (λ (k : ℕ). LieWithin k (numbers ms) (length front + length back)) (omega arith) lie) (subst (λ (z : List ℕ). Rewrites new 0 (numbers ms) z y) s.3 r) in
    let r' : Rewrites new (length front) (numbers ms ++ []) (back ++ []) c.0 =
    subst (λ (k : ℕ). Rewrites new k (numbers ms ++ []) (back ++ []) c.0) {x = 0 + length front} (omega arith)
    (subst (λ (ns : List DataIndexImm). Rewrites new (0 + length front) ns (back ++ []) c.0) (sym (append-nil (numbers ms))) (subst (λ (z : List ℕ). Rewrites new (0 + length front) (numbers ms) z c.0) (sym (append-nil back)) c.2)) in
    let p = pieces new ms [] (length front) (length front + length back) back [] c.0 s.5 (omega arith) r' in
    let whole : c.0 ≡ p.anew = p.parts ∙ ap (λ (z : List ℕ). p.anew ++ z) p.others ∙ append-nil p.anew in
    let all = all_taken (map (λ m. renumbered new m.op) ms) (length front) p.anew (p.taken (length front)) in
    rw (map_map new ms) ((s.0, front, p.anew, c.1 ∙ ap (λ (z : List ℕ). front ++ z) whole, s.4, all.0, ended_same new ms ∙ s.6), all.1)

operators_kept : (new : ℕ → Option ℕ) → (ns : List DataIndexImm) (x y : List ℕ) → HasNumbers ns x → Rewrites new 0 ns x y → (ops : List Op) → AreTaken ops x → AreTaken (map (renumbered new) ops) y
operators_kept new ns x y h r ops s =
    let m = marked_body x ops s in
    let same = one_list x ns (numbers m.0) h (inl (m.0, m.1, refl)) in
    subst (λ (os : List Op). AreTaken (map (renumbered new) os) y) m.2 (body_kept new m.0 x y m.1 (subst (λ (ks : List DataIndexImm). Rewrites new 0 ks x y) same r))

-- ---- where a byte of an operator stands

-- the numbers before a place in an operator: those of the operators before it, and maybe its own
before_here : (p : ℕ) (es ls : List DataIndexImm) (o : Option DataIndexImm) (a b : ℕ) (to : ℕ) → LieWithin a es b → b ≤ p → before p ls ≡ [] → before p (es ++ cons_option o ls) ≡ es ++ before p (option_to_list o)
before_here p es ls o a b to l le none =
    filter-append (is_before p) es (cons_option o ls) ∙ ap (λ (ks : List DataIndexImm). ks ++ before p (cons_option o ls)) (all_before a es b p l le) ∙ ap (λ (ks : List DataIndexImm). es ++ ks) (own o)
  where
    own : (o : Option DataIndexImm) → before p (cons_option o ls) ≡ before p (option_to_list o)
    own None = none
    own (Some n) = ap (λ (ks : List DataIndexImm). cond (is_before p n) (n ∷ ks) ks) none

abbrev Located : ℕ → ℕ → ℕ → Type 0
Located there size q = (there ≤ q) × (q < there + size)

located : (new : ℕ → Option ℕ) (es : List DataIndexImm) (o : Option DataIndexImm) (p q place there text anew eb ob bytes : ℕ)
    → NewBytes new es eb → NewBytes new (option_to_list o) ob → there + old_bytes es ≡ place + eb → anew + old_bytes (option_to_list o) ≡ text + ob
    → LieWithin place (option_to_list o) (place + text) → OverlapsNone (option_to_list o) p 1
    → NewBytes new (es ++ before p (option_to_list o)) bytes → q + old_bytes (es ++ before p (option_to_list o)) ≡ p + bytes → place ≤ p → p < place + text → Located there anew q
located new es None p q place there text anew eb ob bytes ge go te ta l v g at low high =
    let w = new_append new es [] bytes g in
    let same = one_new new es eb w.0 ge w.2 in
    let none : w.1 ≡ 0 = w.3 in
    let old : old_bytes (es ++ []) ≡ old_bytes es = ap old_bytes (append-nil es) in
    (omega (arith, te, at, w.4, same, none, old, low), omega (arith, te, ta, at, w.4, same, none, old, low, high))
located new es (Some n) p q place there text anew eb ob bytes ge go te ta l v g at low high =
    let own : old_bytes (n ∷ []) ≡ n.len = omega (arith, sum_by-cons (λ (n : DataIndexImm). n.len) n []) in
    elim v.0 [
      | inl h ↦
          let earlier : before p (n ∷ []) ≡ n ∷ [] = rw (le-leb (n.offset + n.len) p h) refl in
          let w = new_append new es (n ∷ []) bytes (subst (λ (ks : List DataIndexImm). NewBytes new (es ++ ks) bytes) earlier g) in
          let same = one_new new es eb w.0 ge w.2 in
          let same' = one_new new (n ∷ []) ob w.1 go w.3 in
          let old : old_bytes (es ++ before p (n ∷ [])) ≡ old_bytes es + n.len = ap (λ (ks : List DataIndexImm). old_bytes (es ++ ks)) earlier ∙ sum_by-append (λ (n : DataIndexImm). n.len) es (n ∷ []) ∙ ap (λ (k : ℕ). old_bytes es + k) own in
          (omega (arith, te, at, w.4, same, same', old, l.0, h), omega (arith, te, ta, own, at, w.4, same, same', old, l.0, h, high))
      | inr h ↦
          let later : before p (n ∷ []) ≡ [] = rw (lt-leb (n.offset + n.len) p (omega (arith, h))) refl in
          let w = new_append new es [] bytes (subst (λ (ks : List DataIndexImm). NewBytes new (es ++ ks) bytes) later g) in
          let same = one_new new es eb w.0 ge w.2 in
          let none : w.1 ≡ 0 = w.3 in
          let old : old_bytes (es ++ before p (n ∷ [])) ≡ old_bytes es = ap (λ (ks : List DataIndexImm). old_bytes (es ++ ks)) later ∙ ap old_bytes (append-nil es) in
          let ends : n.offset + n.len ≤ place + text = l.2 in
          (omega (arith, te, at, w.4, same, none, old, low), omega (arith, te, ta, own, at, w.4, same, none, old, low, h, ends))
    ]

-- a number of the first list, or of the second
overlap_back : (ns ks : List DataIndexImm) (p w : ℕ) → OverlapsNone (ns ++ ks) p w → OverlapsNone ks p w
overlap_back [] ks p w o = o
overlap_back (n ∷ ns) ks p w o = overlap_back ns ks p w o.1

overlap_own : (o : Option DataIndexImm) (ks : List DataIndexImm) (p w : ℕ) → OverlapsNone (cons_option o ks) p w → OverlapsNone (option_to_list o) p w
overlap_own None ks p w v = tt
overlap_own (Some n) ks p w v = (v.0, tt)

own_list : (o : Option DataIndexImm) → cons_option o [] ≡ option_to_list o
own_list None = refl
own_list (Some n) = refl

-- the numbers of the operators before one, its own, and those of the operators after it
numbers_split : (es : List Marked) (m : Marked) (ls : List Marked) → numbers (es ++ m ∷ ls) ≡ numbers es ++ cons_option m.number (numbers ls)
numbers_split es m ls = filter_map-append (λ m. m.number) es (m ∷ ls)

stands_marked : (new : ℕ → Option ℕ) → (es : List Marked) (m : Marked) (ls : List Marked) (locals : List (ℕ × ℕ)) (front first text rest y : List ℕ) (p q : ℕ)
    → AreLocals 0 locals front → Items IsMarkedOp (length front) es first → IsMarkedOp (length front + length first) m text → Items IsMarkedOp (length front + length first + length text) ls rest
    → is_ended (map op_in (es ++ m ∷ ls)) ≡ true
    → Rewrites new 0 (numbers es ++ cons_option m.number (numbers ls)) (front ++ (first ++ (text ++ rest))) y
    → Moves new (numbers es ++ cons_option m.number (numbers ls)) p q → OverlapsNone (numbers es ++ cons_option m.number (numbers ls)) p 1
    → length front + length first ≤ p → p < length front + length first + length text → StandsIn y (length es) q
stands_marked new es m ls locals front first text rest y p q declared se sm sl ended r moves v above below =
    let place : ℕ = length front + length first in
    let behind : ℕ = place + length text in
    let to : ℕ = behind + length rest in
    let le = lie_items es (length front) (length front) first (omega arith) se in
    let ll = lie_items ls behind behind rest (omega arith) sl in
    let size : place + length (text ++ rest) ≡ to = omega (arith, length-append text rest) in
    let lm : LieWithin place (cons_option m.number (numbers ls)) to =
    subst (λ (k : ℕ). LieWithin place (cons_option m.number (numbers ls)) k) size (lie_items (m ∷ ls) place place (text ++ rest) (omega arith) (text, rest, refl, sm, sl)) in
    let all = lie_join (length front) place (numbers es) (cons_option m.number (numbers ls)) to le lm in
    let start : length front ≡ 0 + length front = omega arith in
    let c = recut new (numbers es ++ cons_option m.number (numbers ls)) 0 to front (first ++ (text ++ rest)) y (subst (λ (k : ℕ). LieWithin k (numbers es ++ cons_option m.number (numbers ls)) to) start all) r in
    let a = pieces new es (cons_option m.number (numbers ls)) (length front) to first (text ++ rest) c.0 se lm
    (subst (λ (k : ℕ). Rewrites new k (numbers es ++ cons_option m.number (numbers ls)) (first ++ (text ++ rest)) c.0) (sym start) c.2) in
    let b = piece new m (numbers ls) place to text rest a.more sm ll a.others in
    let r' : Rewrites new behind (numbers ls ++ []) (rest ++ []) b.more =
    subst (λ (ns : List DataIndexImm). Rewrites new behind ns (rest ++ []) b.more) (sym (append-nil (numbers ls))) (subst (λ (z : List ℕ). Rewrites new behind (numbers ls) z b.more) (sym (append-nil rest)) b.others) in
    let d = pieces new ls [] behind to rest [] b.more sl (omega arith) r' in
    let last : b.more ≡ d.anew = d.parts ∙ ap (λ (z : List ℕ). d.anew ++ z) d.others ∙ append-nil d.anew in
    let whole : y ≡ front ++ (a.anew ++ (b.anew ++ d.anew)) =
    c.1 ∙ ap (λ (z : List ℕ). front ++ z) (a.parts ∙ ap (λ (z : List ℕ). a.anew ++ z) (b.parts ∙ ap (λ (z : List ℕ). b.anew ++ z) last)) in
    let none : before p (numbers ls) ≡ [] = none_before behind (numbers ls) (behind + length rest) p ll below in
    let theirs = before_here p (numbers es) (numbers ls) m.number (length front) place to le above none in
    let own = subst (λ (ns : List DataIndexImm). LieWithin place ns (place + length text)) (own_list m.number) (lie_items (m ∷ []) place place text (omega arith) (text, [], sym (append-nil text), sm, refl)) in
    let at = located new (numbers es) m.number p q place (length front + length a.anew) (length text) (length b.anew) a.bytes b.bytes moves.0 a.grown b.grown (omega (arith, a.size)) b.size own
    (overlap_own m.number (numbers ls) p 1 (overlap_back (numbers es) (cons_option m.number (numbers ls)) p 1 v))
    (subst (λ (ks : List DataIndexImm). NewBytes new ks moves.0) theirs moves.1) (subst (λ (ks : List DataIndexImm). q + old_bytes ks ≡ p + moves.0) theirs moves.2) above below in
    record {
      locals = locals;
      earlier = map (λ m. renumbered new m.op) es;
      op = renumbered new m.op;
      later = map (λ m. renumbered new m.op) ls;
      front = front;
      first = a.anew;
      text = b.anew;
      rest = d.anew;
      parts = whole;
      declared = declared;
      spelled_earlier = a.taken (length front);
      spelled = b.taken (length front + length a.anew);
      spelled_later = d.taken (length front + length a.anew + length b.anew);
      ended = ap is_ended (sym (map-append (λ (m : Marked). renumbered new m.op) es (m ∷ ls))) ∙ ended_same new (es ++ m ∷ ls) ∙ ended;
      count = length-map es (λ (m : Marked). renumbered new m.op);
      above = at.0;
      below = at.1;
    }

-- a byte that no number has stands in the operator of the same position
stands : (new : ℕ → Option ℕ) → (ns : List DataIndexImm) (x y : List ℕ) (i p q : ℕ) → HasNumbers ns x → Rewrites new 0 ns x y → Moves new ns p q → OverlapsNone ns p 1 → StandsIn x i p → StandsIn y i q
stands new ns x y i p q h r moves v s =
    let es = marked_items s.earlier (length s.front) s.first s.spelled_earlier in
    let m = marked_op s.op (length s.front + length s.first) s.text s.spelled in
    let ls = marked_items s.later (length s.front + length s.first + length s.text) s.rest s.spelled_later in
    let all : List Marked = es.0 ++ m.0 ∷ ls.0 in
    let ops : map op_in all ≡ s.earlier ++ s.op ∷ s.later =
    map-append op_in es.0 (m.0 ∷ ls.0) ∙ ap (λ (os : List Op). os ++ m.0.op ∷ map op_in ls.0) es.2 ∙ ap (λ (o : Op). s.earlier ++ o ∷ map op_in ls.0) m.2 ∙ ap (λ (os : List Op). s.earlier ++ s.op ∷ os) ls.2 in
    let ended : is_ended (map op_in all) ≡ true = ap is_ended ops ∙ s.ended in
    let back : Items IsMarkedOp (length s.front) all (s.first ++ (s.text ++ s.rest)) =
    items_join IsMarkedOp es.0 (m.0 ∷ ls.0) (length s.front) s.first (s.text ++ s.rest) es.1 (s.text, s.rest, refl, m.1, ls.1) in
    let marked : AreMarked all x = (s.locals, s.front, s.first ++ (s.text ++ s.rest), s.parts, s.declared, back, ended) in
    let same : ns ≡ numbers es.0 ++ cons_option m.0.number (numbers ls.0) = one_list x ns (numbers all) h (inl (all, marked, refl)) ∙ numbers_split es.0 m.0 ls.0 in
    let r' = subst (λ (z : List ℕ). Rewrites new 0 (numbers es.0 ++ cons_option m.0.number (numbers ls.0)) z y) s.parts (subst (λ (ks : List DataIndexImm). Rewrites new 0 ks x y) same r) in
    let count : length es.0 ≡ i = sym (length-map es.0 op_in) ∙ ap length es.2 ∙ s.count in
    subst (λ (k : ℕ). StandsIn y k q) count
    (stands_marked new es.0 m.0 ls.0 s.locals s.front s.first s.text s.rest y p q s.declared es.1 m.1 ls.1 ended r'
    (subst (λ (ks : List DataIndexImm). Moves new ks p q) same moves) (subst (λ (ks : List DataIndexImm). OverlapsNone ks p 1) same v) s.above s.below)

-- ---- local declarations

no_move : (new : ℕ → Option ℕ) (ns : List DataIndexImm) (p q : ℕ) → before p ns ≡ [] → Moves new ns p q → q ≡ p
no_move new ns p q e m =
    let none : m.0 ≡ 0 = subst (λ (ks : List DataIndexImm). NewBytes new ks m.0) e m.1 in
    let at : q + old_bytes [] ≡ p + m.0 = subst (λ (ks : List DataIndexImm). q + old_bytes ks ≡ p + m.0) e m.2 in
    omega (arith, at, none)

locals_kept : (new : ℕ → Option ℕ) (ns : List DataIndexImm) (x y : List ℕ) (p q : ℕ) → HasNumbers ns x → Rewrites new 0 ns x y → Moves new ns p q → StandsInLocals x p → (q ≡ p) × StandsInLocals y q
locals_kept new ns x y p q (inr h) r m s =
    let same : y ≡ x = subst (λ (ks : List DataIndexImm). Rewrites new 0 ks x y) h.1 r in
    let at : q ≡ p = no_move new [] p q refl (subst (λ (ks : List DataIndexImm). Moves new ks p q) h.1 m) in
    (at, subst (λ (k : ℕ). StandsInLocals y k) (sym at) (subst (λ (z : List ℕ). StandsInLocals z p) (sym same) s))
locals_kept new ns x y p q (inl h) r m s =
    let w = h.1 in
    let front : List ℕ = w.1 in
    let mid = one_mid x s.front s.back front w.2 (s.locals, s.declared) s.parts (w.0, w.4) w.3 in
    let len : length s.front ≡ length front = ap (λ (c : Cursor). c.position) mid in
    let lie = lie_items h.0 (length front) (length front) w.2 (omega arith) w.5 in
    let none = none_before (length front) (numbers h.0) (length front + length w.2) p lie (omega (arith, s.below, len)) in
    let at : q ≡ p = no_move new (numbers h.0) p q none (subst (λ (ks : List DataIndexImm). Moves new ks p q) h.2 m) in
    let c = recut new (numbers h.0) 0 (length front + length w.2) front w.2 y (subst (λ (k : ℕ). LieWithin k (numbers h.0) (length front + length w.2)) (omega arith) lie)
    (subst (λ (z : List ℕ). Rewrites new 0 (numbers h.0) z y) w.3 (subst (λ (ks : List DataIndexImm). Rewrites new 0 ks x y) h.2 r)) in
    (at, record { locals = w.0; front = front; back = c.0; parts = c.1; declared = w.4; below = omega (arith, at, s.below, len) })

-- ---- fields

-- no number ends within a field that overlaps none
before_same : (ns : List DataIndexImm) (p w j : ℕ) → OverlapsNone ns p w → j < w → before (p + j) ns ≡ before p ns
before_same [] p w j o lt = refl
before_same (n ∷ ns) p w j o lt =
    let others = before_same ns p w j o.1 lt in
    elim o.0 [
      | inl h ↦ rw (le-leb (n.offset + n.len) (p + j) (omega (arith, h)), le-leb (n.offset + n.len) p h, others) refl
      | inr h ↦ rw (lt-leb (n.offset + n.len) (p + j) (omega (arith, h, lt)), lt-leb (n.offset + n.len) p (omega (arith, h, lt)), others) refl
    ]

overlaps_one : (ns : List DataIndexImm) (p w j : ℕ) → OverlapsNone ns p w → j < w → OverlapsNone ns (p + j) 1
overlaps_one [] p w j o lt = tt
overlaps_one (n ∷ ns) p w j o lt = (
  elim o.0 [
    | inl h ↦ inl (omega (arith, h))
    | inr h ↦ inr (omega (arith, h, lt))
  ],
  overlaps_one ns p w j o.1 lt,
)

-- the bytes of such a field move together
moves_on : (new : ℕ → Option ℕ) (ns : List DataIndexImm) (p q w j : ℕ) → Moves new ns p q → OverlapsNone ns p w → j < w → Moves new ns (p + j) (q + j)
moves_on new ns p q w j m o lt =
    subst (λ (ks : List DataIndexImm). (bytes : ℕ) × NewBytes new ks bytes × (q + j + old_bytes ks ≡ p + j + bytes)) (sym (before_same ns p w j o lt)) (m.0, m.1, omega (arith, m.2))

pub keeps : (new : ℕ → Option ℕ) → (ns : List DataIndexImm) (x y : List ℕ) → HasNumbers ns x → Rewrites new 0 ns x y → Keeps new ns x y
keeps new ns x y h r = record {
  operators = λ ops s. operators_kept new ns x y h r ops s;
  bytes = λ p q w m o le. field_same new ns p q w x y h r m o le;
  places = λ p q w i j m o lt s. stands new ns x y i (p + j) (q + j) h r (moves_on new ns p q w j m o lt) (overlaps_one ns p w j o lt) s;
  locals = λ p q w j m o lt s.
      let k = locals_kept new ns x y (p + j) (q + j) h r (moves_on new ns p q w j m o lt) s in
      (omega (arith, k.0), k.1);
}
