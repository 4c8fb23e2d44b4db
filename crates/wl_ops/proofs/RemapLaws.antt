-- What is answered where the numbers of a body are to be rewritten.
use Rattle.std.proofs.Common.{◌≡◌, ◌≢◌, ℕ, zero, suc, ◌+◌, ◌<◌, Bool, true, false, not, eqb, List, [], ◌∷◌, ◌++◌, length, map, get_or, Option, None, Result, Ok, Err, refl, sym, ap, subst, ◌∙◌, arith, inl, inr}
use Rattle.std.specs.Prelude.{IfOk, IfErr}
use Rattle.wl_bytes.specs.declared.read_error.ReadError.{ReadError}
use Rattle.wl_bytes.specs.declared.read_error.ReadError.TheVariants.{OutOfMemory, Malformed, Unsupported}
use Rattle.wl_bytes.specs.Outcome.{HasCause}
use Rattle.wl_ops.specs.declared.op.DataIndexImm.{DataIndexImm}
use Rattle.wl_ops.specs.Numbers.{NumbersFault, AreTold}
use Rattle.wl_ops.specs.declared.rewriting.Shift.{Shift}
use Rattle.wl_ops.specs.Rewriting.{Rewrites, LacksIndex, Moves, AllMove, IsRemapped, RemapFault, Remaps, RewriteFault, IsRewriting, shifted}
use Rattle.wl_ops.proofs.ToldLaws.{one_list, no_fault, one_fault, reads_so}
use Rattle.wl_ops.proofs.PieceLaws.{cut_same}
use Rattle.wl_ops.proofs.FieldLaws.{one_short, one_new}
use Rattle.wl_ops.proofs.LieLaws.{numbers_lie}
use Rattle.wl_ops.proofs.ShiftLaws.{all_move}
use Rattle.wl_ops.specs.Rewriting.{before}

-- ---- one answer

one_rewriting : (new : ℕ → Option ℕ) (ns : List DataIndexImm) (place : ℕ) (x y z : List ℕ) → Rewrites new place ns x y → Rewrites new place ns x z → y ≡ z
one_rewriting new [] place x y z r t = r ∙ sym t
one_rewriting new (n ∷ ns) place x y z r t =
    let one = cut_same r.0 (r.1 ++ r.2) t.0 (t.1 ++ t.2) (sym r.6 ∙ t.6) (omega (arith, r.7, t.7)) in
    let two = cut_same r.1 r.2 t.1 t.2 one.1 (omega (arith, r.8, t.8)) in
    let short = one_short (new n.index) r.3 t.3 r.4 t.4 r.9 r.10 t.9 t.10 in
    let more = one_rewriting new ns (n.offset + n.len) t.2 r.5 t.5 (subst (λ (w : List ℕ). Rewrites new (n.offset + n.len) ns w r.5) two.1 r.12) t.12 in
    r.11 ∙ ap (λ (w : List ℕ). w ++ (r.4 ++ r.5)) one.0 ∙ ap (λ (w : List ℕ). t.0 ++ (w ++ r.5)) short ∙ ap (λ (w : List ℕ). t.0 ++ (t.4 ++ w)) more ∙ sym t.11

one_move : (new : ℕ → Option ℕ) (ns : List DataIndexImm) (p q k : ℕ) → Moves new ns p q → Moves new ns p k → q ≡ k
one_move new ns p q k m n = let same = one_new new (before p ns) m.0 n.0 m.1 n.1 in omega (arith, same, m.2, n.2)

all_one : (new : ℕ → Option ℕ) (ns : List DataIndexImm) (ps qs ks : List ℕ) → AllMove new ns ps qs → AllMove new ns ps ks → qs ≡ ks
all_one new ns [] [] [] m k = refl
all_one new ns [] [] (k ∷ ks) m n = absurd n
all_one new ns [] (q ∷ qs) ks m n = absurd m
all_one new ns (p ∷ ps) [] ks m n = absurd m
all_one new ns (p ∷ ps) (q ∷ qs) [] m n = absurd n
all_one new ns (p ∷ ps) (q ∷ qs) (k ∷ ks) m n = ap (λ (z : ℕ). z ∷ qs) (one_move new ns p q k m.0 n.0) ∙ ap (λ (zs : List ℕ). k ∷ zs) (all_one new ns ps qs ks m.1 n.1)

abbrev Answer : Type 0
Answer = Bool × (List ℕ × List ℕ)

one_answer : (new : ℕ → Option ℕ) (ps x : List ℕ) (a b : Answer) → IsRemapped new ps a x → IsRemapped new ps b x → a ≡ b
one_answer new ps x a b s t =
    let same = one_list x s.numbers t.numbers s.theirs.0 t.theirs.0 in
    let some : a.0 ≡ b.0 = s.some ∙ ap (λ (ns : List DataIndexImm). not (eqb (length ns) 0)) same ∙ sym t.some in
    let bytes = one_rewriting new t.numbers 0 x a.1.0 b.1.0 (subst (λ (ns : List DataIndexImm). Rewrites new 0 ns x a.1.0) same s.bytes) t.bytes in
    let places = all_one new t.numbers ps a.1.1 b.1.1 (subst (λ (ns : List DataIndexImm). AllMove new ns ps a.1.1) same s.places) t.places in
    ap (λ (f : Bool). (f, a.1)) some ∙ ap (λ (z : List ℕ). (b.0, (z, a.1.1))) bytes ∙ ap (λ (z : List ℕ). (b.0, (b.1.0, z))) places

-- ---- an answer or a fault

have_new : (new : ℕ → Option ℕ) (ns : List DataIndexImm) (place : ℕ) (x y : List ℕ) → Rewrites new place ns x y → (k : ℕ) (d : DataIndexImm) → k < length ns → new (get_or ns k d).index ≢ None
have_new new [] place x y r k d lt none = absurd (omega (arith, lt))
have_new new (n ∷ ns) place x y r zero d lt none = absurd (let some = r.9 in cc)
have_new new (n ∷ ns) place x y r (suc k) d lt none = have_new new ns (n.offset + n.len) r.2 r.5 r.12 k d (omega (arith, lt)) none

none_lacks : (new : ℕ → Option ℕ) (ns : List DataIndexImm) (x y : List ℕ) → Rewrites new 0 ns x y → ¬ LacksIndex new ns
none_lacks new ns x y r l = have_new new ns 0 x y r l.1.0 l.0 l.1.1 (ap (λ (n : DataIndexImm). new n.index) l.1.2 ∙ l.2)

not_both : (new : ℕ → Option ℕ) (ps x : List ℕ) (a : Answer) (e : ReadError) → IsRemapped new ps a x → ¬ RemapFault new e x
not_both new ps x a e s (inl f) = no_fault x s.numbers e s.theirs f
not_both new ps x a e s (inr f) =
    let same = one_list x s.numbers f.0 s.theirs.0 f.1.0 in
    none_lacks new f.0 x a.1.0 (subst (λ (ns : List DataIndexImm). Rewrites new 0 ns x a.1.0) same s.bytes) f.2

one_refusal : (new : ℕ → Option ℕ) (x : List ℕ) (e d : ReadError) → RemapFault new e x → RemapFault new d x → e ≡ d
one_refusal new x e d (inl f) (inl g) = one_fault x e d f g
one_refusal new x e d (inl f) (inr g) = absurd (no_fault x g.0 e g.1 f)
one_refusal new x e d (inr f) (inl g) = absurd (no_fault x f.0 d f.1 g)
one_refusal new x e d (inr f) (inr g) = f.3 ∙ sym g.3

-- ---- what a call answers

remapped_so : (new : ℕ → Option ℕ) (ps x qs y : List ℕ) (r : Result Bool ReadError) → IfOk r (λ some. IsRemapped new ps (some, (y, qs)) x) → IfErr r (HasCause (λ e. RemapFault new e x)) → Remaps new (x, ps) (y, qs) r
remapped_so new ps x qs y r s f =
    reads_so (λ some. (some, (y, qs))) (IsRemapped new ps) (RemapFault new) x (λ a b s t. one_answer new ps x a b s t) (λ a e s f. not_both new ps x a e s f) (λ e d f g. one_refusal new x e d f g) r s f

-- the numbers aren't found
unread : (new : ℕ → Option ℕ) (x : List ℕ) (e : ReadError) → HasCause (λ d. NumbersFault d x) e → HasCause (λ d. RemapFault new d x) e
unread new x OutOfMemory f = tt
unread new x (Malformed why) f = inl f
unread new x (Unsupported form) f = inl f

-- one of them has no new one
unwritten : (new : ℕ → Option ℕ) (x : List ℕ) (ns : List DataIndexImm) (e : ReadError) → AreTold ns x → RewriteFault new ns e → HasCause (λ d. RemapFault new d x) e
unwritten new x ns OutOfMemory s f = tt
unwritten new x ns (Malformed why) s f = inr (ns, s, f.1, ap Malformed f.0)
unwritten new x ns (Unsupported form) s f = absurd f

-- without numbers nothing moves
none_move : (new : ℕ → Option ℕ) (ps : List ℕ) → AllMove new [] ps ps
none_move new [] = tt
none_move new (p ∷ ps) = ((0, refl, refl), none_move new ps)

pub refused_unread : (new : ℕ → Option ℕ) (x ps : List ℕ) (e : ReadError) → HasCause (λ d. NumbersFault d x) e → Remaps new (x, ps) (x, ps) (Err e)
refused_unread new x ps e f = remapped_so new ps x ps x (Err e) tt (unread new x e f)

pub refused_unwritten : (new : ℕ → Option ℕ) (x ps : List ℕ) (ns : List DataIndexImm) (e : ReadError) → AreTold ns x → RewriteFault new ns e → Remaps new (x, ps) (x, ps) (Err e)
refused_unwritten new x ps ns e s f = remapped_so new ps x ps x (Err e) tt (unwritten new x ns e s f)

pub without_numbers : (new : ℕ → Option ℕ) (x ps : List ℕ) → AreTold [] x → Remaps new (x, ps) (x, ps) (Ok false)
without_numbers new x ps s = remapped_so new ps x ps x (Ok false) (record { numbers = []; theirs = s; some = refl; bytes = refl; places = none_move new ps }) tt

pub with_numbers : (new : ℕ → Option ℕ) (x ps y : List ℕ) (ns : List DataIndexImm) (ss : List Shift) → AreTold ns x → eqb (length ns) 0 ≡ false → IsRewriting new ns x y ss → Remaps new (x, ps) (y, map (λ p. shifted ss p p) ps) (Ok true)
with_numbers new x ps y ns ss s some r =
    remapped_so new ps x (map (λ p. shifted ss p p) ps) y (Ok true)
    (record { numbers = ns; theirs = s; some = ap not (sym some); bytes = r.0; places = all_move new ns ss (length x) ps (numbers_lie ns x s.0) r.1 }) tt
