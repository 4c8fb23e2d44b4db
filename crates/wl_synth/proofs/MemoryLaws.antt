-- The run of the body that lays segments in memory.
use Rattle.std.proofs.Common.{◌≡◌, ℕ, suc, ◌+◌, ◌%◌, ◌<◌, ◌≤◌, ◌^◌, negsuc, Bool, true, false, cond, leb, eqb, List, [], ◌∷◌, ◌++◌, length, take, drop, Option, Some, None, refl, sym, ap, subst, ◌∙◌, arith, length-append, add-zero}
use Rattle.std.specs.Prelude.{slice_get, slice_set}
use Rattle.std.specs.List.{flat_map, AllByRecursion}
use Rattle.std.proofs.lemmas.List.{length-drop, length-take-le}
use Rattle.std.proofs.lemmas.Bool.{eq-eqb, le-leb, ne_eqb}
use Rattle.std.proofs.lemmas.Option.{slice_get-get_or, slice_get_within}
use Rattle.std.proofs.Math.ListN.{length-set}
use Rattle.std.proofs.Math.Seq.{take-length}
use Rattle.wl_ops.specs.declared.op.Op.{Op}
use Rattle.wl_synth.specs.declared.parts.PassiveSegmentCopy.{PassiveSegmentCopy}
use Rattle.wl_synth.specs.Wat as wat
use Rattle.wl_synth.specs.Bodies.{const, copy_ops, drop_ops, claim_ops, release_ops, wait_ops}
use Rattle.wl_synth.specs.Machine.{Value, I32, I64, World, State, Label, Progress, Going, Ended, Done, Waits, overlay, i32_bytes, i32_at, woken, is_word, copied, dropped, instruction, step, go}
use Rattle.wl_synth.specs.Memory.{segment_bytes, FitsSegment, overlaid, without}
use Rattle.wl_synth.proofs.RunLaws.{then_go}

-- ---- single steps

-- an operator that goes on, before others
pub next : (w : World) (s t : State) (op : Op) (ops : List Op) → step w op s ≡ Going t → go w (Going s) (op ∷ ops) ≡ go w (Going t) ops
next w s t op ops e = ap (λ (o : Progress). go w o ops) e

-- a state with all that the body changes
abbrev pub stage : State → List Label → List Value → List ℕ → List (Option (List ℕ)) → ℕ → State
stage s ls vs m gs k = record s { labels = ls; stack = vs; memory = m; segments = gs; skipped = k }

pub const_is : (w : World) (s : State) (ls : List Label) (vs : List Value) (m : List ℕ) (gs : List (Option (List ℕ))) (n : ℕ) → n < 2 ^ 32
    → step w (const n) (stage s ls vs m gs 0) ≡ Going (stage s ls (I32 n ∷ vs) m gs 0)
unfolding step instruction
const_is w s ls vs m gs n lt =
    let same : n % 4294967296 ≡ n = omega arith in
    ap (λ (k : ℕ). Going (stage s ls (I32 k ∷ vs) m gs 0)) same

pub is_word_there : (a : ℕ) (m : List ℕ) → a % 4 ≡ 0 → a + 4 ≤ length m → is_word a m ≡ true
is_word_there a m e le = rw (eq-eqb (a % 4) 0 e, le-leb (a + 4) (length m) le) refl

pub exchange_is : (w : World) (s : State) (ls : List Label) (vs : List Value) (m : List ℕ) (gs : List (Option (List ℕ))) (a old new : ℕ) → is_word a m ≡ true
    → step w wat.i32_atomic_rmw_cmpxchg (stage s ls (I32 new ∷ I32 old ∷ I32 a ∷ vs) m gs 0)
    ≡ Going (stage s ls (I32 (i32_at a m) ∷ vs) (cond (eqb (i32_at a m) old) (overlay a (i32_bytes new) m) m) gs 0)
unfolding step instruction
exchange_is w s ls vs m gs a old new e = rw (add-zero a, e) refl

pub store_is : (w : World) (s : State) (ls : List Label) (vs : List Value) (m : List ℕ) (gs : List (Option (List ℕ))) (a v : ℕ) → is_word a m ≡ true → a + 4 ≤ length m
    → step w wat.i32_atomic_store (stage s ls (I32 v ∷ I32 a ∷ vs) m gs 0) ≡ Going (stage s ls vs (overlay a (i32_bytes v) m) gs 0)
unfolding step instruction
store_is w s ls vs m gs a v e le = rw (add-zero a, e, le-leb (a + 4) (length m) le) refl

pub notify_is : (w : World) (s : State) (ls : List Label) (vs : List Value) (m : List ℕ) (gs : List (Option (List ℕ))) (a n : ℕ) → is_word a m ≡ true
    → step w wat.memory_atomic_notify (stage s ls (I32 n ∷ I32 a ∷ vs) m gs 0) ≡ Going (stage s ls (I32 (woken w a n) ∷ vs) m gs 0)
unfolding step instruction
notify_is w s ls vs m gs a n e = rw (add-zero a, e) refl

pub wait_is : (w : World) (s : State) (ls : List Label) (vs : List Value) (m : List ℕ) (gs : List (Option (List ℕ))) (a t v : ℕ) → w.is_shared ≡ true → is_word a m ≡ true → i32_at a m ≡ v
    → step w wat.memory_atomic_wait32 (stage s ls (I64 t ∷ I32 v ∷ I32 a ∷ vs) m gs 0) ≡ Ended (Waits (stage s ls vs m gs 0))
unfolding step instruction
wait_is w s ls vs m gs a t v shared e same = rw (add-zero a, shared, e, eq-eqb (i32_at a m) v same) refl

pub init_is : (w : World) (s : State) (ls : List Label) (vs : List Value) (m : List ℕ) (gs : List (Option (List ℕ))) (a n k : ℕ) (bytes : List ℕ)
    → slice_get gs k ≡ Some (Some bytes) → length bytes ≡ n → a + n ≤ length m
    → step w (wat.memory_init k) (stage s ls (I32 n ∷ I32 0 ∷ I32 a ∷ vs) m gs 0) ≡ Going (stage s ls vs (overlay a bytes m) gs 0)
unfolding step instruction
init_is w s ls vs m gs a n k bytes there len le =
    let first : leb (0 + n) (length bytes) ≡ true = le-leb (0 + n) (length bytes) (omega arith) in
    let second : leb (a + n) (length m) ≡ true = le-leb (a + n) (length m) le in
    let all : take n bytes ≡ bytes = rw (← len) (take-length bytes) in
    ap (λ (o : Option (Option (List ℕ))). copied a 0 n o (stage s ls vs m gs 0)) there ∙ rw (first, second, all) refl

-- ---- memory

pub write_size : (a : ℕ) (bytes m : List ℕ) → a + length bytes ≤ length m → length (overlay a bytes m) ≡ length m
write_size a bytes m le =
    omega (arith, length-append (take a m) (bytes ++ drop (a + length bytes) m), length-append bytes (drop (a + length bytes) m), length-take-le a m (omega arith), length-drop (a + length bytes) m)

-- ---- parts of the body

-- the constants of a copy are numbers of 32 bits
abbrev pub HasWords : PassiveSegmentCopy → Type 0
HasWords c = (c.offset < 2 ^ 32) × (c.len < 2 ^ 32)

pub one_copy : (w : World) (s : State) (ls : List Label) (m : List ℕ) (gs : List (Option (List ℕ))) (c : PassiveSegmentCopy) → FitsSegment gs (length m) c → HasWords c
    → go w (Going (stage s ls [] m gs 0)) (copy_ops c) ≡ Going (stage s ls [] (overlay c.offset (segment_bytes gs c.segment_index) m) gs 0)
one_copy w s ls m gs c a (lo, ll) =
    next w (stage s ls [] m gs 0) (stage s ls (I32 c.offset ∷ []) m gs 0) (const c.offset) (const 0 ∷ const c.len ∷ wat.memory_init c.segment_index ∷ []) (const_is w s ls [] m gs c.offset lo)
    ∙ next w (stage s ls (I32 c.offset ∷ []) m gs 0) (stage s ls (I32 0 ∷ I32 c.offset ∷ []) m gs 0) (const 0) (const c.len ∷ wat.memory_init c.segment_index ∷ []) (const_is w s ls (I32 c.offset ∷ []) m gs 0 (omega arith))
    ∙ next w (stage s ls (I32 0 ∷ I32 c.offset ∷ []) m gs 0) (stage s ls (I32 c.len ∷ I32 0 ∷ I32 c.offset ∷ []) m gs 0) (const c.len) (wat.memory_init c.segment_index ∷ []) (const_is w s ls (I32 0 ∷ I32 c.offset ∷ []) m gs c.len ll)
    ∙ init_is w s ls [] m gs c.offset c.len c.segment_index (segment_bytes gs c.segment_index) a.there a.as_long a.within

pub copied_size : (gs : List (Option (List ℕ))) (c : PassiveSegmentCopy) (m : List ℕ) → FitsSegment gs (length m) c → length (overlay c.offset (segment_bytes gs c.segment_index) m) ≡ length m
copied_size gs c m a = write_size c.offset (segment_bytes gs c.segment_index) m (rw a.as_long a.within)

pub resized : (gs : List (Option (List ℕ))) (cs : List PassiveSegmentCopy) (m n : ℕ) → n ≡ m → AllByRecursion (FitsSegment gs m) cs → AllByRecursion (FitsSegment gs n) cs
resized gs cs m n e a = subst (λ (k : ℕ). AllByRecursion (FitsSegment gs k) cs) (sym e) a

pub all_copies : (w : World) (s : State) (ls : List Label) (m : List ℕ) (gs : List (Option (List ℕ))) (cs : List PassiveSegmentCopy) → AllByRecursion (FitsSegment gs (length m)) cs → AllByRecursion HasWords cs
    → go w (Going (stage s ls [] m gs 0)) (flat_map copy_ops cs) ≡ Going (stage s ls [] (overlaid gs cs m) gs 0)
all_copies w s ls m gs [] a b = refl
all_copies w s ls m gs (c ∷ cs) a b =
    let more = overlay c.offset (segment_bytes gs c.segment_index) m in
    then_go w (Going (stage s ls [] m gs 0)) (Going (stage s ls [] more gs 0)) (Going (stage s ls [] (overlaid gs cs more) gs 0)) (copy_ops c) (flat_map copy_ops cs)
    (one_copy w s ls m gs c a.0 b.0)
    (all_copies w s ls more gs cs (resized gs cs (length m) (length more) (copied_size gs c m a.0) a.1) b.1)

-- copies that are passed over
pub passes : (w : World) (s : State) (ls : List Label) (m : List ℕ) (gs : List (Option (List ℕ))) (k : ℕ) (cs : List PassiveSegmentCopy)
    → go w (Going (stage s ls [] m gs (suc k))) (flat_map copy_ops cs) ≡ Going (stage s ls [] m gs (suc k))
unfolding step instruction
passes w s ls m gs k [] = refl
passes w s ls m gs k (c ∷ cs) = passes w s ls m gs k cs

abbrev pub b : Label
b = record { results = 0; below = [] }

abbrev pub one_open : List Label
one_open = b ∷ []

abbrev pub two_open : List Label
two_open = b ∷ b ∷ []

abbrev pub three_open : List Label
three_open = b ∷ b ∷ b ∷ []

abbrev pub four_open : List Label
four_open = b ∷ b ∷ b ∷ b ∷ []

abbrev after_claim : State → List ℕ → List (Option (List ℕ)) → ℕ → ℕ → State
after_claim s m gs flag v = stage s four_open (I32 v ∷ []) (cond (eqb v 0) (overlay flag (i32_bytes 1) m) m) gs 0

claim_front : (w : World) (s : State) (m : List ℕ) (gs : List (Option (List ℕ))) (flag : ℕ) → flag < 2 ^ 32 → is_word flag m ≡ true
    → go w (Going (stage s one_open [] m gs 0)) (wat.block ∷ wat.block ∷ wat.block ∷ const flag ∷ const 0 ∷ const 1 ∷ wat.i32_atomic_rmw_cmpxchg ∷ []) ≡ Going (after_claim s m gs flag (i32_at flag m))
unfolding step instruction
claim_front w s m gs flag lt word =
    next w (stage s one_open [] m gs 0) (stage s two_open [] m gs 0) wat.block (wat.block ∷ wat.block ∷ const flag ∷ const 0 ∷ const 1 ∷ wat.i32_atomic_rmw_cmpxchg ∷ []) refl
    ∙ next w (stage s two_open [] m gs 0) (stage s three_open [] m gs 0) wat.block (wat.block ∷ const flag ∷ const 0 ∷ const 1 ∷ wat.i32_atomic_rmw_cmpxchg ∷ []) refl
    ∙ next w (stage s three_open [] m gs 0) (stage s four_open [] m gs 0) wat.block (const flag ∷ const 0 ∷ const 1 ∷ wat.i32_atomic_rmw_cmpxchg ∷ []) refl
    ∙ next w (stage s four_open [] m gs 0) (stage s four_open (I32 flag ∷ []) m gs 0) (const flag) (const 0 ∷ const 1 ∷ wat.i32_atomic_rmw_cmpxchg ∷ []) (const_is w s four_open [] m gs flag lt)
    ∙ next w (stage s four_open (I32 flag ∷ []) m gs 0) (stage s four_open (I32 0 ∷ I32 flag ∷ []) m gs 0) (const 0) (const 1 ∷ wat.i32_atomic_rmw_cmpxchg ∷ []) refl
    ∙ next w (stage s four_open (I32 0 ∷ I32 flag ∷ []) m gs 0) (stage s four_open (I32 1 ∷ I32 0 ∷ I32 flag ∷ []) m gs 0) (const 1) (wat.i32_atomic_rmw_cmpxchg ∷ []) refl
    ∙ exchange_is w s four_open [] m gs flag 0 1 word

claimed : (w : World) (s : State) (m : List ℕ) (gs : List (Option (List ℕ))) (flag v : ℕ) (t : State) → flag < 2 ^ 32 → is_word flag m ≡ true → i32_at flag m ≡ v
    → go w (Going (after_claim s m gs flag v)) (wat.br_table 0 1 2 ∷ wat.end ∷ []) ≡ Going t
    → go w (Going (stage s one_open [] m gs 0)) (claim_ops flag) ≡ Going t
claimed w s m gs flag v t lt word e rest =
    then_go w (Going (stage s one_open [] m gs 0)) (Going (after_claim s m gs flag v)) (Going t) (wat.block ∷ wat.block ∷ wat.block ∷ const flag ∷ const 0 ∷ const 1 ∷ wat.i32_atomic_rmw_cmpxchg ∷ []) (wat.br_table 0 1 2 ∷ wat.end ∷ [])
    (claim_front w s m gs flag lt word ∙ ap (λ (k : ℕ). Going (after_claim s m gs flag k)) e) rest

pub claim_zero : (w : World) (s : State) (m : List ℕ) (gs : List (Option (List ℕ))) (flag : ℕ) → flag < 2 ^ 32 → is_word flag m ≡ true → i32_at flag m ≡ 0
    → go w (Going (stage s one_open [] m gs 0)) (claim_ops flag) ≡ Going (stage s three_open [] (overlay flag (i32_bytes 1) m) gs 0)
unfolding step instruction
claim_zero w s m gs flag lt word e = claimed w s m gs flag 0 (stage s three_open [] (overlay flag (i32_bytes 1) m) gs 0) lt word e refl

pub claim_one : (w : World) (s : State) (m : List ℕ) (gs : List (Option (List ℕ))) (flag : ℕ) → flag < 2 ^ 32 → is_word flag m ≡ true → i32_at flag m ≡ 1
    → go w (Going (stage s one_open [] m gs 0)) (claim_ops flag) ≡ Going (stage s three_open [] m gs 1)
unfolding step instruction
claim_one w s m gs flag lt word e = claimed w s m gs flag 1 (stage s three_open [] m gs 1) lt word e refl

pub claim_more : (w : World) (s : State) (m : List ℕ) (gs : List (Option (List ℕ))) (flag n : ℕ) → flag < 2 ^ 32 → is_word flag m ≡ true → i32_at flag m ≡ suc (suc n)
    → go w (Going (stage s one_open [] m gs 0)) (claim_ops flag) ≡ Going (stage s two_open [] m gs 2)
unfolding step instruction
claim_more w s m gs flag n lt word e =
    let other : eqb (suc (suc n)) 0 ≡ false = ne_eqb (suc (suc n)) 0 (λ h. absurd (omega arith)) in
    claimed w s m gs flag (suc (suc n)) (stage s two_open [] m gs 2) lt word e
    (ap (λ (t : Bool). Going (stage s two_open [] (cond t (overlay flag (i32_bytes 1) m) m) gs 2)) other)

pub release : (w : World) (s : State) (m : List ℕ) (gs : List (Option (List ℕ))) (flag : ℕ) → flag < 2 ^ 32 → flag % 4 ≡ 0 → flag + 4 ≤ length m
    → go w (Going (stage s three_open [] m gs 0)) (release_ops flag) ≡ Going (stage s two_open [] (overlay flag (i32_bytes 2) m) gs 1)
unfolding step instruction
release w s m gs flag lt four_divides le =
    let set = overlay flag (i32_bytes 2) m in
    let word = is_word_there flag m four_divides le in
    let word' = is_word_there flag set four_divides (rw (write_size flag (i32_bytes 2) m le) le) in
    next w (stage s three_open [] m gs 0) (stage s three_open (I32 flag ∷ []) m gs 0) (const flag) (const 2 ∷ wat.i32_atomic_store ∷ const flag ∷ wat.i32_const (negsuc 0) ∷ wat.memory_atomic_notify ∷ wat.drop ∷ wat.br 1 ∷ wat.end ∷ []) (const_is w s three_open [] m gs flag lt)
    ∙ next w (stage s three_open (I32 2 ∷ I32 flag ∷ []) m gs 0) (stage s three_open [] set gs 0) wat.i32_atomic_store (const flag ∷ wat.i32_const (negsuc 0) ∷ wat.memory_atomic_notify ∷ wat.drop ∷ wat.br 1 ∷ wat.end ∷ []) (store_is w s three_open [] m gs flag 2 word le)
    ∙ next w (stage s three_open [] set gs 0) (stage s three_open (I32 flag ∷ []) set gs 0) (const flag) (wat.i32_const (negsuc 0) ∷ wat.memory_atomic_notify ∷ wat.drop ∷ wat.br 1 ∷ wat.end ∷ []) (const_is w s three_open [] set gs flag lt)
    ∙ next w (stage s three_open (I32 4294967295 ∷ I32 flag ∷ []) set gs 0) (stage s three_open (I32 (woken w flag 4294967295) ∷ []) set gs 0) wat.memory_atomic_notify (wat.drop ∷ wat.br 1 ∷ wat.end ∷ []) (notify_is w s three_open [] set gs flag 4294967295 word')

-- ---- passed over

pub release_last : (w : World) (s : State) (m : List ℕ) (gs : List (Option (List ℕ))) (flag : ℕ) → go w (Going (stage s three_open [] m gs 1)) (release_ops flag) ≡ Going (stage s two_open [] m gs 0)
unfolding step instruction
release_last w s m gs flag = refl

pub release_more : (w : World) (s : State) (m : List ℕ) (gs : List (Option (List ℕ))) (flag : ℕ) → go w (Going (stage s two_open [] m gs 2)) (release_ops flag) ≡ Going (stage s two_open [] m gs 1)
unfolding step instruction
release_more w s m gs flag = refl

pub wait_last : (w : World) (s : State) (m : List ℕ) (gs : List (Option (List ℕ))) (flag : ℕ) → go w (Going (stage s two_open [] m gs 1)) (wait_ops flag) ≡ Going (stage s one_open [] m gs 0)
unfolding step instruction
wait_last w s m gs flag = refl

-- ---- waiting

pub waits_on : (w : World) (t : State) (ops : List Op) → go w (Ended (Waits t)) ops ≡ Ended (Waits t)
waits_on w t [] = refl
waits_on w t (op ∷ ops) = waits_on w t ops

pub waiting : (w : World) (s : State) (m : List ℕ) (gs : List (Option (List ℕ))) (flag : ℕ) → flag < 2 ^ 32 → w.is_shared ≡ true → is_word flag m ≡ true → i32_at flag m ≡ 1
    → go w (Going (stage s two_open [] m gs 0)) (wait_ops flag) ≡ Ended (Waits (stage s two_open [] m gs 0))
unfolding step instruction
waiting w s m gs flag lt shared word e =
    next w (stage s two_open [] m gs 0) (stage s two_open (I32 flag ∷ []) m gs 0) (const flag) (const 1 ∷ wat.i64_const (negsuc 0) ∷ wat.memory_atomic_wait32 ∷ wat.drop ∷ wat.end ∷ []) (const_is w s two_open [] m gs flag lt)
    ∙ ap (λ (o : Progress). go w o (wat.drop ∷ wat.end ∷ [])) (wait_is w s two_open [] m gs flag 18446744073709551615 1 shared word e)

-- ---- dropping segments

pub one_drop : (w : World) (s : State) (ls : List Label) (m : List ℕ) (gs : List (Option (List ℕ))) (k : ℕ) → k < length gs
    → step w (wat.data_drop k) (stage s ls [] m gs 0) ≡ Going (stage s ls [] m (slice_set gs k None) 0)
unfolding step instruction
one_drop w s ls m gs k lt = ap (λ (o : Option (Option (List ℕ))). dropped k o (stage s ls [] m gs 0)) (slice_get-get_or gs k None lt)

pub all_drops : (w : World) (s : State) (ls : List Label) (m : List ℕ) (gs : List (Option (List ℕ))) (cs : List PassiveSegmentCopy) → AllByRecursion (λ c. c.segment_index < length gs) cs
    → go w (Going (stage s ls [] m gs 0)) (flat_map drop_ops cs) ≡ Going (stage s ls [] m (without cs gs) 0)
all_drops w s ls m gs [] a = refl
all_drops w s ls m gs (c ∷ cs) a =
    let rest = slice_set gs c.segment_index None in
    let same : length rest ≡ length gs = length-set gs c.segment_index None in
    then_go w (Going (stage s ls [] m gs 0)) (Going (stage s ls [] m rest 0)) (Going (stage s ls [] m (without cs rest) 0)) (drop_ops c) (flat_map drop_ops cs)
    (one_drop w s ls m gs c.segment_index a.0)
    (all_drops w s ls m rest cs (subst (λ (k : ℕ). AllByRecursion (λ (c : PassiveSegmentCopy). c.segment_index < k) cs) (sym same) a.1))

pub indices : (gs : List (Option (List ℕ))) (n : ℕ) (cs : List PassiveSegmentCopy) → AllByRecursion (FitsSegment gs n) cs → AllByRecursion (λ c. c.segment_index < length gs) cs
indices gs n [] a = a
indices gs n (c ∷ cs) a = (slice_get_within gs c.segment_index (Some (segment_bytes gs c.segment_index)) a.0.there, indices gs n cs a.1)

-- the end of the body
pub drops_end : (w : World) (s : State) (m : List ℕ) (gs : List (Option (List ℕ))) (n : ℕ) (cs : List PassiveSegmentCopy) → AllByRecursion (FitsSegment gs n) cs
    → go w (Going (stage s one_open [] m gs 0)) (flat_map drop_ops cs ++ wat.end ∷ []) ≡ Ended (Done (stage s [] [] m (without cs gs) 0))
unfolding step instruction
drops_end w s m gs n cs a =
    then_go w (Going (stage s one_open [] m gs 0)) (Going (stage s one_open [] m (without cs gs) 0)) (Ended (Done (stage s [] [] m (without cs gs) 0))) (flat_map drop_ops cs) (wat.end ∷ [])
    (all_drops w s one_open m gs cs (indices gs n cs a)) refl
