-- The run of the body that makes a thread's block.
use Rattle.std.proofs.Common.{◌≡◌, ◌≢◌, ℕ, zero, suc, ◌+◌, ◌-◌, ◌%◌, ◌<◌, ◌≤◌, ◌^◌, ℤ, pos, negsuc, Bool, true, false, cond, eqb, ltb, List, [], ◌∷◌, ◌++◌, length, take, drop, Option, Some, refl, sym, ap, subst, ◌∙◌, arith, append_assoc, inl, inr, add-zero}
use Rattle.std.specs.Prelude.{◌+ℤ◌, replicate, slice_get, slice_set}
use Rattle.std.specs.List.{flat_map, AllByRecursion}
use Rattle.std.proofs.lemmas.Option.{slice_get_within}
use Rattle.std.proofs.lemmas.List.{length-replicate, nil_from_length, length-take-le, drop-append-le, take-append-le, take-append-drop}
use Rattle.std.proofs.lemmas.Bool.{ltb-true, ltb-false, le-leb, eqb-true, cases_lt}
use Rattle.std.proofs.Math.Seq.{take-append-add, drop-append-add}
use Rattle.wl_synth.specs.declared.parts.PassiveSegmentCopy.{PassiveSegmentCopy}
use Rattle.wl_synth.specs.declared.parts.TlsPointerFixup.{TlsPointerFixup}
use Rattle.wl_synth.specs.declared.parts.TlsGotFixup.{TlsGotFixup}
use Rattle.wl_synth.specs.Wat as wat
use Rattle.wl_synth.specs.Bodies.{const, place_ops, clear_ops, template_ops, pointer_ops, got_ops, ThreadBlock, init_tls_ops}
use Rattle.wl_synth.specs.Machine.{Value, I32, wrapped, i32_sum, World, State, Going, Ended, Done, overlay, i32_bytes, push_found, set_global, instruction, step, go, entered}
use Rattle.wl_synth.specs.Memory.{segment_bytes, FitsSegment, overlaid}
use Rattle.wl_synth.specs.ThreadLocal.{moved_by, IsWordGlobal, CanInitTls}
use Rattle.wl_synth.proofs.RunLaws.{then_go}
use Rattle.wl_synth.proofs.LaidLaws.{laid_size}
use Rattle.wl_synth.proofs.MemoryLaws.{next, stage, const_is, init_is, write_size, copied_size, resized}

-- ---- a overlay into a block

joined_parts : (a b x d r : List ℕ) → (a ++ b) ++ (x ++ (d ++ r)) ≡ a ++ ((b ++ (x ++ d)) ++ r)
joined_parts a b x d r = simp append_assoc

nested : (base o : ℕ) (bytes block m : List ℕ) → o + length bytes ≤ length block → base + length block ≤ length m
    → overlay (base + o) bytes (overlay base block m) ≡ overlay base (overlay o bytes block) m
nested base o bytes block m inside fits =
    let front = take base m in
    let rest = drop (base + length block) m in
    let whole = front ++ (block ++ rest) in
    let size : length front ≡ base = length-take-le base m (omega arith) in
    let q = o + length bytes in
    let first : take (base + o) whole ≡ front ++ take o block =
    subst (λ (k : ℕ). take (k + o) whole ≡ front ++ take o block) size (take-append-add front (block ++ rest) o ∙ ap (λ (x : List ℕ). front ++ x) (take-append-le o block rest (omega arith))) in
    let same : base + o + length bytes ≡ base + q = omega arith in
    let last : drop (base + o + length bytes) whole ≡ drop q block ++ rest =
    rw same (subst (λ (k : ℕ). drop (k + q) whole ≡ drop q block ++ rest) size (drop-append-add front (block ++ rest) q ∙ drop-append-le q block rest inside)) in
    let kept : length (overlay o bytes block) ≡ length block = write_size o bytes block inside in
    rw (first, last, kept) (joined_parts front (take o block) bytes (drop q block) rest)

-- ---- single steps

abbrev pub tl : State → List Value → List ℕ → List Value → State
tl s vs m gl = stage (record s { globals = gl }) s.labels vs m s.segments 0

get_local : (w : World) (s : State) (vs : List Value) (m : List ℕ) (gl : List Value) (v : Value) → slice_get s.locals 0 ≡ Some v → step w (wat.local_get 0) (tl s vs m gl) ≡ Going (tl s (v ∷ vs) m gl)
unfolding step instruction
get_local w s vs m gl v e = ap (λ (o : Option Value). push_found o (tl s vs m gl)) e

get_global : (w : World) (s : State) (vs : List Value) (m : List ℕ) (gl : List Value) (g : ℕ) (v : Value) → slice_get gl g ≡ Some v → step w (wat.global_get g) (tl s vs m gl) ≡ Going (tl s (v ∷ vs) m gl)
unfolding step instruction
get_global w s vs m gl g v e = ap (λ (o : Option Value). push_found o (tl s vs m gl)) e

put_global : (w : World) (s : State) (vs : List Value) (m : List ℕ) (gl : List Value) (g n : ℕ) → IsWordGlobal w gl g
    → step w (wat.global_set g) (tl s (I32 n ∷ vs) m gl) ≡ Going (tl s vs m (slice_set gl g (I32 n)))
unfolding step instruction
put_global w s vs m gl g n (old, e, set) =
    ap (λ (b : Bool). set_global b (slice_get gl g) g (I32 n) (tl s vs m gl)) set
    ∙ ap (λ (o : Option Value). set_global true o g (I32 n) (tl s vs m gl)) e

fill_is : (w : World) (s : State) (vs : List Value) (m : List ℕ) (gl : List Value) (a n : ℕ) → a + n ≤ length m
    → step w wat.memory_fill (tl s (I32 n ∷ I32 0 ∷ I32 a ∷ vs) m gl) ≡ Going (tl s vs (overlay a (replicate n 0) m) gl)
unfolding step instruction
fill_is w s vs m gl a n le = rw (le-leb (a + n) (length m) le) refl

put_word : (w : World) (s : State) (vs : List Value) (m : List ℕ) (gl : List Value) (a v : ℕ) → a + 4 ≤ length m
    → step w wat.i32_store (tl s (I32 v ∷ I32 a ∷ vs) m gl) ≡ Going (tl s vs (overlay a (i32_bytes v) m) gl)
unfolding step instruction
put_word w s vs m gl a v le = rw (add-zero a, le-leb (a + 4) (length m) le) refl

-- ---- templates

place_by : (w : World) (s : State) (m : List ℕ) (gl : List Value) (base o : ℕ) (b : Bool) → eqb o 0 ≡ b → slice_get s.locals 0 ≡ Some (I32 base) → o < 2 ^ 32 → base < 2 ^ 32
    → go w (Going (tl s [] m gl)) (place_ops o) ≡ Going (tl s (I32 ((base + o) % 4294967296) ∷ []) m gl)
unfolding step instruction
place_by w s m gl base o true e given lo lt =
    let zero_offset = eqb-true o 0 e in
    let none : base ≡ (base + o) % 4294967296 = omega arith in
    ap (λ (t : Bool). go w (Going (tl s [] m gl)) (cond t (wat.local_get 0 ∷ []) (wat.local_get 0 ∷ const o ∷ wat.i32_add ∷ []))) e
    ∙ get_local w s [] m gl (I32 base) given ∙ ap (λ (k : ℕ). Going (tl s (I32 k ∷ []) m gl)) none
place_by w s m gl base o false e given lo lt =
    ap (λ (t : Bool). go w (Going (tl s [] m gl)) (cond t (wat.local_get 0 ∷ []) (wat.local_get 0 ∷ const o ∷ wat.i32_add ∷ []))) e
    ∙ next w (tl s [] m gl) (tl s (I32 base ∷ []) m gl) (wat.local_get 0) (const o ∷ wat.i32_add ∷ []) (get_local w s [] m gl (I32 base) given)
    ∙ next w (tl s (I32 base ∷ []) m gl) (tl s (I32 o ∷ I32 base ∷ []) m gl) (const o) (wat.i32_add ∷ []) (const_is w (record s { globals = gl }) s.labels (I32 base ∷ []) m s.segments o lo)

write_nothing : (a : ℕ) (m : List ℕ) → overlay a [] m ≡ m
write_nothing a m = rw (add-zero a) (take-append-drop a m)

-- a copy at an address that may have passed 2 ^ 32, where nothing is copied
at_address : (base o n : ℕ) (bytes block m : List ℕ) → length bytes ≡ n → o + n ≤ length block → base + length block ≤ length m → base + length block ≤ 2 ^ 32
    → overlay ((base + o) % 4294967296) bytes (overlay base block m) ≡ overlay base (overlay o bytes block) m
at_address base o n bytes block m len le fits small =
    elim (cases_lt (base + o) 4294967296) [
      | inl lt ↦
          let same : (base + o) % 4294967296 ≡ base + o = omega arith in
          rw same (nested base o bytes block m (rw len le) fits)
      | inr past ↦
          let none : bytes ≡ [] = nil_from_length bytes (omega arith) in
          rw none (write_nothing ((base + o) % 4294967296) (overlay base block m) ∙ ap (λ (x : List ℕ). overlay base x m) (sym (write_nothing o block)))
    ]

one_template : (w : World) (s : State) (m block : List ℕ) (gl : List Value) (base : ℕ) (c : PassiveSegmentCopy) → slice_get s.locals 0 ≡ Some (I32 base) → base < 2 ^ 32
    → base + length block ≤ length m → base + length block ≤ 2 ^ 32 → length block < 2 ^ 32 → FitsSegment s.segments (length block) c
    → go w (Going (tl s [] (overlay base block m) gl)) (template_ops c) ≡ Going (tl s [] (overlay base (overlay c.offset (segment_bytes s.segments c.segment_index) block) m) gl)
one_template w s m block gl base c given lt fits small short a' =
    let len = a'.as_long in
    let le = a'.within in
    let lo : c.offset < 2 ^ 32 = omega arith in
    let ll : c.len < 2 ^ 32 = omega arith in
    let now = overlay base block m in
    let bytes = segment_bytes s.segments c.segment_index in
    let t = record s { globals = gl } in
    let a = (base + c.offset) % 4294967296 in
    let size : length now ≡ length m = write_size base block m fits in
    let inside : a + c.len ≤ length now = omega (arith, size) in
    then_go w (Going (tl s [] now gl)) (Going (tl s (I32 a ∷ []) now gl)) _ (place_ops c.offset) (const 0 ∷ const c.len ∷ wat.memory_init c.segment_index ∷ [])
    (place_by w s now gl base c.offset (eqb c.offset 0) refl given lo lt)
    (next w (tl s (I32 a ∷ []) now gl) (tl s (I32 0 ∷ I32 a ∷ []) now gl) (const 0) (const c.len ∷ wat.memory_init c.segment_index ∷ []) (const_is w t s.labels (I32 a ∷ []) now s.segments 0 (omega arith))
    ∙ next w (tl s (I32 0 ∷ I32 a ∷ []) now gl) (tl s (I32 c.len ∷ I32 0 ∷ I32 a ∷ []) now gl) (const c.len) (wat.memory_init c.segment_index ∷ []) (const_is w t s.labels (I32 0 ∷ I32 a ∷ []) now s.segments c.len ll)
    ∙ init_is w t s.labels [] now s.segments a c.len c.segment_index bytes a'.there len inside
    ∙ ap (λ (x : List ℕ). Going (tl s [] x gl)) (at_address base c.offset c.len bytes block m len le fits small))

pub templates : (w : World) (s : State) (m block : List ℕ) (gl : List Value) (base : ℕ) (cs : List PassiveSegmentCopy) → slice_get s.locals 0 ≡ Some (I32 base) → base < 2 ^ 32
    → base + length block ≤ length m → base + length block ≤ 2 ^ 32 → length block < 2 ^ 32 → AllByRecursion (FitsSegment s.segments (length block)) cs
    → go w (Going (tl s [] (overlay base block m) gl)) (flat_map template_ops cs) ≡ Going (tl s [] (overlay base (overlaid s.segments cs block) m) gl)
templates w s m block gl base [] given lt fits small short a = refl
templates w s m block gl base (c ∷ cs) given lt fits small short a =
    let more = overlay c.offset (segment_bytes s.segments c.segment_index) block in
    let size : length more ≡ length block = copied_size s.segments c block a.0 in
    then_go w (Going (tl s [] (overlay base block m) gl)) (Going (tl s [] (overlay base more m) gl)) _ (template_ops c) (flat_map template_ops cs)
    (one_template w s m block gl base c given lt fits small short a.0)
    (templates w s m more gl base cs given lt (rw size fits) (rw size small) (rw size short) (resized s.segments cs (length block) (length more) size a.1))

-- ---- sums

negative_sum : (base k : ℕ) (b : Bool) → ltb base (suc k) ≡ b → i32_sum base (wrapped 4294967296 (negsuc k)) ≡ wrapped 4294967296 (pos base +ℤ negsuc k)
negative_sum base k true e =
    let lt = ltb-true base (suc k) e in
    let less : (base + (4294967295 - k % 4294967296)) % 4294967296 ≡ 4294967295 - (suc k - suc base) % 4294967296 = omega arith in
    rw e less
negative_sum base k false e =
    let le = ltb-false base (suc k) e in
    let more : (base + (4294967295 - k % 4294967296)) % 4294967296 ≡ (base - suc k) % 4294967296 = omega arith in
    rw e more

-- the sum of bits is the sum of the numbers
moved_sum : (base : ℕ) (z : ℤ) → i32_sum base (wrapped 4294967296 z) ≡ moved_by base z
moved_sum base (pos k) = omega arith
moved_sum base (negsuc k) = negative_sum base k (ltb base (suc k)) refl

-- ---- pointers

-- the block with its pointers
abbrev pub pointed : ℕ → List TlsPointerFixup → List ℕ → List ℕ
pointed base [] block = block
pointed base (f ∷ fs) block = pointed base fs (overlay f.dest (i32_bytes (moved_by base f.offset)) block)

one_pointer : (w : World) (s : State) (m block : List ℕ) (gl : List Value) (base g : ℕ) (f : TlsPointerFixup) → slice_get gl g ≡ Some (I32 base)
    → base + length block ≤ length m → base + length block ≤ 2 ^ 32 → f.dest + 4 ≤ length block
    → go w (Going (tl s [] (overlay base block m) gl)) (pointer_ops g f) ≡ Going (tl s [] (overlay base (overlay f.dest (i32_bytes (moved_by base f.offset)) block) m) gl)
unfolding step instruction
one_pointer w s m block gl base g f there fits small le =
    let now = overlay base block m in
    let t = record s { globals = gl } in
    let a = base + f.dest in
    let v = i32_sum base (wrapped 4294967296 f.offset) in
    let z = wrapped 4294967296 f.offset in
    let sum : (f.dest + base) % 4294967296 ≡ a = omega arith in
    let size : length now ≡ length m = write_size base block m fits in
    next w (tl s [] now gl) (tl s (I32 f.dest ∷ []) now gl) (const f.dest) (wat.global_get g ∷ wat.i32_add ∷ wat.global_get g ∷ wat.i32_const f.offset ∷ wat.i32_add ∷ wat.i32_store ∷ []) (const_is w t s.labels [] now s.segments f.dest (omega arith))
    ∙ next w (tl s (I32 f.dest ∷ []) now gl) (tl s (I32 base ∷ I32 f.dest ∷ []) now gl) (wat.global_get g) (wat.i32_add ∷ wat.global_get g ∷ wat.i32_const f.offset ∷ wat.i32_add ∷ wat.i32_store ∷ []) (get_global w s (I32 f.dest ∷ []) now gl g (I32 base) there)
    ∙ next w (tl s (I32 base ∷ I32 f.dest ∷ []) now gl) (tl s (I32 a ∷ []) now gl) wat.i32_add (wat.global_get g ∷ wat.i32_const f.offset ∷ wat.i32_add ∷ wat.i32_store ∷ []) (ap (λ (k : ℕ). Going (tl s (I32 k ∷ []) now gl)) sum)
    ∙ next w (tl s (I32 a ∷ []) now gl) (tl s (I32 base ∷ I32 a ∷ []) now gl) (wat.global_get g) (wat.i32_const f.offset ∷ wat.i32_add ∷ wat.i32_store ∷ []) (get_global w s (I32 a ∷ []) now gl g (I32 base) there)
    ∙ next w (tl s (I32 base ∷ I32 a ∷ []) now gl) (tl s (I32 z ∷ I32 base ∷ I32 a ∷ []) now gl) (wat.i32_const f.offset) (wat.i32_add ∷ wat.i32_store ∷ []) refl
    ∙ next w (tl s (I32 z ∷ I32 base ∷ I32 a ∷ []) now gl) (tl s (I32 v ∷ I32 a ∷ []) now gl) wat.i32_add (wat.i32_store ∷ []) refl
    ∙ put_word w s [] now gl a v (omega (arith, size))
    ∙ ap (λ (x : List ℕ). Going (tl s [] x gl)) (nested base f.dest (i32_bytes v) block m le fits)
    ∙ ap (λ (k : ℕ). Going (tl s [] (overlay base (overlay f.dest (i32_bytes k) block) m) gl)) (moved_sum base f.offset)

pub pointers : (w : World) (s : State) (m block : List ℕ) (gl : List Value) (base g : ℕ) (fs : List TlsPointerFixup) → slice_get gl g ≡ Some (I32 base)
    → base + length block ≤ length m → base + length block ≤ 2 ^ 32 → AllByRecursion (λ f. f.dest + 4 ≤ length block) fs
    → go w (Going (tl s [] (overlay base block m) gl)) (flat_map (pointer_ops g) fs) ≡ Going (tl s [] (overlay base (pointed base fs block) m) gl)
pointers w s m block gl base g [] there fits small a = refl
pointers w s m block gl base g (f ∷ fs) there fits small a =
    let more = overlay f.dest (i32_bytes (moved_by base f.offset)) block in
    let size : length more ≡ length block = write_size f.dest (i32_bytes (moved_by base f.offset)) block a.0 in
    then_go w (Going (tl s [] (overlay base block m) gl)) (Going (tl s [] (overlay base more m) gl)) _ (pointer_ops g f) (flat_map (pointer_ops g) fs)
    (one_pointer w s m block gl base g f there fits small a.0)
    (pointers w s m more gl base g fs there (rw size fits) (rw size small) (subst (λ (k : ℕ). AllByRecursion (λ (f : TlsPointerFixup). f.dest + 4 ≤ k) fs) (sym size) a.1))

-- ---- globals

pub slice_same : (gl : List Value) (i : ℕ) (v : Value) → i < length gl → slice_get (slice_set gl i v) i ≡ Some v
slice_same [] i v lt = absurd (omega arith)
slice_same (x ∷ gl) zero v lt = refl
slice_same (x ∷ gl) (suc i) v lt = slice_same gl i v (omega arith)

pub slice_other : (gl : List Value) (i j : ℕ) (v : Value) → i ≢ j → slice_get (slice_set gl i v) j ≡ slice_get gl j
slice_other [] i j v ne = refl
slice_other (x ∷ gl) zero zero v ne = absurd (ne refl)
slice_other (x ∷ gl) zero (suc j) v ne = refl
slice_other (x ∷ gl) (suc i) zero v ne = refl
slice_other (x ∷ gl) (suc i) (suc j) v ne = slice_other gl i j v (λ e. ne (ap suc e))

pub keep : (w : World) (gl : List Value) (x n k : ℕ) → IsWordGlobal w gl k → IsWordGlobal w (slice_set gl x (I32 n)) k
keep w gl x n k (old, e, set) = let there = value gl x n k old e in (there.0, there.1, set)
  where
    value : (gl : List Value) (x n k old : ℕ) → slice_get gl k ≡ Some (I32 old) → (v : ℕ) × (slice_get (slice_set gl x (I32 n)) k ≡ Some (I32 v))
    value [] x n k old e = (old, e)
    value (y ∷ gl) zero n zero old e = (n, refl)
    value (y ∷ gl) zero n (suc k) old e = (old, e)
    value (y ∷ gl) (suc x) n zero old e = (old, e)
    value (y ∷ gl) (suc x) n (suc k) old e = value gl x n k old e

abbrev pub GotFits : World → List Value → ℕ → List TlsGotFixup → Type 0
GotFits w gl g fs = AllByRecursion (λ (f : TlsGotFixup). IsWordGlobal w gl f.global × (f.global ≢ g)) fs

pub keep_all : (w : World) (gl : List Value) (x n g : ℕ) (fs : List TlsGotFixup) → GotFits w gl g fs → GotFits w (slice_set gl x (I32 n)) g fs
keep_all w gl x n g [] a = a
keep_all w gl x n g (f ∷ fs) a = ((keep w gl x n f.global a.0.0, a.0.1), keep_all w gl x n g fs a.1)

-- the globals with their addresses
abbrev pub with_got : ℕ → List TlsGotFixup → List Value → List Value
with_got base [] globals = globals
with_got base (f ∷ fs) globals = with_got base fs (slice_set globals f.global (I32 (moved_by base f.offset)))

one_got : (w : World) (s : State) (m : List ℕ) (gl : List Value) (base g : ℕ) (f : TlsGotFixup) → slice_get gl g ≡ Some (I32 base) → IsWordGlobal w gl f.global
    → go w (Going (tl s [] m gl)) (got_ops g f) ≡ Going (tl s [] m (slice_set gl f.global (I32 (moved_by base f.offset))))
unfolding step instruction
one_got w s m gl base g f there word =
    let v = i32_sum base (wrapped 4294967296 f.offset) in
    next w (tl s [] m gl) (tl s (I32 base ∷ []) m gl) (wat.global_get g) (wat.i32_const f.offset ∷ wat.i32_add ∷ wat.global_set f.global ∷ []) (get_global w s [] m gl g (I32 base) there)
    ∙ put_global w s [] m gl f.global v word ∙ ap (λ (k : ℕ). Going (tl s [] m (slice_set gl f.global (I32 k)))) (moved_sum base f.offset)

pub gots : (w : World) (s : State) (m : List ℕ) (gl : List Value) (base g : ℕ) (fs : List TlsGotFixup) → slice_get gl g ≡ Some (I32 base) → GotFits w gl g fs
    → go w (Going (tl s [] m gl)) (flat_map (got_ops g) fs) ≡ Going (tl s [] m (with_got base fs gl))
gots w s m gl base g [] there a = refl
gots w s m gl base g (f ∷ fs) there a =
    let more = slice_set gl f.global (I32 (moved_by base f.offset)) in
    then_go w (Going (tl s [] m gl)) (Going (tl s [] m more)) _ (got_ops g f) (flat_map (got_ops g) fs)
    (one_got w s m gl base g f there a.0.0)
    (gots w s m more base g fs (slice_other gl f.global g (I32 (moved_by base f.offset)) a.0.1 ∙ there) (keep_all w gl f.global (moved_by base f.offset) g fs a.1))

-- ---- the front

clear_by : (w : World) (s : State) (m : List ℕ) (gl : List Value) (base size : ℕ) (b : Bool) → eqb size 0 ≡ b → slice_get s.locals 0 ≡ Some (I32 base) → size < 2 ^ 32 → base + size ≤ length m
    → go w (Going (tl s [] m gl)) (clear_ops size) ≡ Going (tl s [] (overlay base (replicate size 0) m) gl)
unfolding step instruction
clear_by w s m gl base size true e given lt le =
    let none : size ≡ 0 = eqb-true size 0 e in
    ap (λ (t : Bool). go w (Going (tl s [] m gl)) (cond t [] (wat.local_get 0 ∷ const 0 ∷ const size ∷ wat.memory_fill ∷ []))) e
    ∙ ap (λ (x : List ℕ). Going (tl s [] x gl)) (sym (write_nothing base m))
    ∙ ap (λ (k : ℕ). Going (tl s [] (overlay base (replicate k 0) m) gl)) (sym none)
clear_by w s m gl base size false e given lt le =
    let t = record s { globals = gl } in
    ap (λ (t : Bool). go w (Going (tl s [] m gl)) (cond t [] (wat.local_get 0 ∷ const 0 ∷ const size ∷ wat.memory_fill ∷ []))) e
    ∙ next w (tl s [] m gl) (tl s (I32 base ∷ []) m gl) (wat.local_get 0) (const 0 ∷ const size ∷ wat.memory_fill ∷ []) (get_local w s [] m gl (I32 base) given)
    ∙ next w (tl s (I32 base ∷ []) m gl) (tl s (I32 0 ∷ I32 base ∷ []) m gl) (const 0) (const size ∷ wat.memory_fill ∷ []) (const_is w t s.labels (I32 base ∷ []) m s.segments 0 (omega arith))
    ∙ next w (tl s (I32 0 ∷ I32 base ∷ []) m gl) (tl s (I32 size ∷ I32 0 ∷ I32 base ∷ []) m gl) (const size) (wat.memory_fill ∷ []) (const_is w t s.labels (I32 0 ∷ I32 base ∷ []) m s.segments size lt)
    ∙ fill_is w s [] m gl base size le

-- ---- the whole body

-- the block with its templates and pointers
abbrev pub block_of : State → ℕ → ThreadBlock → List ℕ
block_of s base b = pointed base b.pointers (overlaid s.segments b.templates (replicate b.size 0))

pub tls_runs : (w : World) (s : State) (base : ℕ) (b : ThreadBlock) → CanInitTls w s base b → b.size < 2 ^ 32
    → go w (Going (entered 0 s)) (init_tls_ops b) ≡ Ended (Done (record s {
      stack = [];
      labels = [];
      skipped = 0;
      memory = overlay base (block_of s base b) s.memory;
      globals = with_got base b.got (slice_set s.globals b.base_global (I32 base));
    }))
unfolding step instruction
tls_runs w s base b r short =
    let t = entered 0 s in
    let m = s.memory in
    let g = b.base_global in
    let gl = slice_set s.globals g (I32 base) in
    let zeros : List ℕ = replicate b.size 0 in
    let many : length zeros ≡ b.size = length-replicate b.size 0 in
    let block = overlaid s.segments b.templates zeros in
    let fits = resized s.segments b.templates b.size (length zeros) many r.templates in
    let kept : length block ≡ b.size = laid_size s.segments b.templates zeros fits ∙ many in
    let small : base + b.size ≤ 2 ^ 32 = omega (arith, r.pages, r.room) in
    let there : slice_get gl g ≡ Some (I32 base) = slice_same s.globals g (I32 base) (slice_get_within s.globals g (I32 r.base_global.0) r.base_global.1) in
    let m1 = overlay base zeros m in
    let m2 = overlay base block m in
    let m3 = overlay base (block_of s base b) m in
    let room1 : base + length zeros ≤ length m = rw many r.room in
    let small1 : base + length zeros ≤ 2 ^ 32 = rw many small in
    let short1 : length zeros < 2 ^ 32 = rw many short in
    let room2 : base + length block ≤ length m = rw kept r.room in
    let small2 : base + length block ≤ 2 ^ 32 = rw kept small in
    let front : go w (Going t) (wat.local_get 0 ∷ wat.global_set g ∷ []) ≡ Going (tl t [] m gl) =
    next w (tl t [] m s.globals) (tl t (I32 base ∷ []) m s.globals) (wat.local_get 0) (wat.global_set g ∷ []) (get_local w t [] m s.globals (I32 base) r.given)
    ∙ put_global w t [] m s.globals g base r.base_global in
    let a = clear_by w t m gl base b.size (eqb b.size 0) refl r.given short r.room in
    let f = templates w t m zeros gl base b.templates r.given r.is_word room1 small1 short1 fits in
    let c = pointers w t m block gl base g b.pointers there room2 small2 (subst (λ (k : ℕ). AllByRecursion (λ (f : TlsPointerFixup). f.dest + 4 ≤ k) b.pointers) (sym kept) r.pointers) in
    let d = gots w t m3 gl base g b.got there (keep_all w s.globals g base g b.got r.got) in
    let p1 = wat.local_get 0 ∷ wat.global_set g ∷ [] in
    let p2 = p1 ++ clear_ops b.size in
    let p3 = p2 ++ flat_map template_ops b.templates in
    let p4 = p3 ++ flat_map (pointer_ops g) b.pointers in
    let p5 = p4 ++ flat_map (got_ops g) b.got in
    let s2 = then_go w (Going t) (Going (tl t [] m gl)) (Going (tl t [] m1 gl)) p1 (clear_ops b.size) front a in
    let s3 = then_go w (Going t) (Going (tl t [] m1 gl)) (Going (tl t [] m2 gl)) p2 (flat_map template_ops b.templates) s2 f in
    let s4 = then_go w (Going t) (Going (tl t [] m2 gl)) (Going (tl t [] m3 gl)) p3 (flat_map (pointer_ops g) b.pointers) s3 c in
    let s5 = then_go w (Going t) (Going (tl t [] m3 gl)) (Going (tl t [] m3 (with_got base b.got gl))) p4 (flat_map (got_ops g) b.got) s4 d in
    then_go w (Going t) (Going (tl t [] m3 (with_got base b.got gl))) _ p5 (wat.end ∷ []) s5 refl
