-- The whole run of the body that lays segments in memory.
use Rattle.std.proofs.Common.{◌≡◌, ◌≢◌, ℕ, zero, suc, List, [], ◌∷◌, ◌++◌, length, refl, ap, ◌∙◌, append_assoc}
use Rattle.std.specs.List.{flat_map}
use Rattle.wl_ops.specs.declared.op.Op.{Op}
use Rattle.wl_synth.specs.declared.parts.PassiveSegmentCopy.{PassiveSegmentCopy}
use Rattle.wl_synth.specs.Wat as wat
use Rattle.wl_synth.specs.Bodies.{copy_ops, drop_ops, claim_ops, release_ops, wait_ops, init_memory_ops}
use Rattle.wl_synth.specs.Machine.{World, State, Progress, Going, Ended, Done, Waits, overlay, i32_bytes, i32_at, go}
use Rattle.wl_synth.specs.Encoding.{IsEncoded}
use Rattle.wl_synth.specs.Memory.{overlaid, CanInitMemory, done_with, InitsMemory}
use Rattle.wl_synth.proofs.RunLaws.{then_go}
use Rattle.wl_synth.proofs.BoundLaws.{memory_words}
use Rattle.wl_synth.proofs.MemoryLaws.{stage, one_open, two_open, three_open, is_word_there, write_size, resized, all_copies, passes, claim_zero, claim_one, claim_more, release, release_last, release_more, wait_last, waiting, waits_on, drops_end}
use Rattle.wl_synth.proofs.LaidLaws.{all_laid, laid_size}

-- five parts and the end
pub in_parts : (w : World) (o p1 p2 p3 p4 q : Progress) (a b c d e f : List Op) → go w o a ≡ p1 → go w p1 b ≡ p2 → go w p2 c ≡ p3 → go w p3 d ≡ p4 → go w p4 (e ++ f) ≡ q
    → go w o (a ++ b ++ c ++ d ++ e ++ f) ≡ q
in_parts w o p1 p2 p3 p4 q a b c d e f h1 h2 h3 h4 h5 =
    ap (λ (x : List Op). go w o x) (append_assoc (a ++ b ++ c ++ d) e f)
    ∙ then_go w o p4 q (a ++ b ++ c ++ d) (e ++ f)
    (then_go w o p3 p4 (a ++ b ++ c) d (then_go w o p2 p3 (a ++ b) c (then_go w o p1 p2 a b h1 h2) h3) h4) h5

-- a number that is neither 0 nor 1
two_at_least : (k : ℕ) → k ≢ 0 → k ≢ 1 → (n : ℕ) × (k ≡ suc (suc n))
two_at_least zero none one = absurd (none refl)
two_at_least (suc zero) none one = absurd (one refl)
two_at_least (suc (suc n)) none one = (n, refl)

pub inits_memory : (w : World) (s : State) (flag : ℕ) (cs : List PassiveSegmentCopy) (body : List ℕ) → IsEncoded (init_memory_ops flag cs) body
    → CanInitMemory w s flag cs → InitsMemory w s flag cs body
inits_memory w s flag cs body e r =
    let m = s.memory in
    let gs = s.segments in
    let ops = init_memory_ops flag cs in
    let words = memory_words flag cs e.in_range in
    let lt = words.0 in
    let word = is_word_there flag m r.aligned r.within in
    let start = Going (stage s one_open [] m gs 0) in
    let tail = flat_map drop_ops cs in
    let claimed = overlay flag (i32_bytes 1) m in
    let size : length claimed ≡ length m = write_size flag (i32_bytes 1) m r.within in
    let fits = resized gs cs (length m) (length claimed) size r.segments in
    let there = overlaid gs cs claimed in
    let size' : length there ≡ length m = laid_size gs cs claimed fits ∙ size in
    let last = overlay flag (i32_bytes 2) there in
    record {
      first = λ zero_found. (
        last,
        all_laid s flag cs r.within r.segments r.clear r.disjoint,
        (
          ops,
          e.decodes.0,
          in_parts w start (Going (stage s three_open [] claimed gs 0)) (Going (stage s three_open [] there gs 0)) (Going (stage s two_open [] last gs 1)) (Going (stage s one_open [] last gs 0)) (Ended (Done (done_with s cs last)))
              (claim_ops flag) (flat_map copy_ops cs) (release_ops flag) (wait_ops flag) tail (wat.end ∷ [])
              (claim_zero w s m gs flag lt word zero_found)
              (all_copies w s three_open claimed gs cs fits words.1)
              (release w s there gs flag lt r.aligned (rw size' r.within))
              (wait_last w s last gs flag)
              (drops_end w s last gs (length m) cs r.segments),
        ),
      );
      meanwhile = λ one_found. (
        stage s two_open [] m gs 0,
        refl,
        refl,
        (
          ops,
          e.decodes.0,
          in_parts w start (Going (stage s three_open [] m gs 1)) (Going (stage s three_open [] m gs 1)) (Going (stage s two_open [] m gs 0)) (Ended (Waits (stage s two_open [] m gs 0))) (Ended (Waits (stage s two_open [] m gs 0)))
              (claim_ops flag) (flat_map copy_ops cs) (release_ops flag) (wait_ops flag) tail (wat.end ∷ [])
              (claim_one w s m gs flag lt word one_found)
              (passes w s three_open m gs 0 cs)
              (release_last w s m gs flag)
              (waiting w s m gs flag lt r.shared word one_found)
              (waits_on w (stage s two_open [] m gs 0) (tail ++ wat.end ∷ [])),
        ),
      );
      later = λ no_zero no_one.
          let more = two_at_least (i32_at flag m) no_zero no_one in (
            ops,
            e.decodes.0,
            in_parts w start (Going (stage s two_open [] m gs 2)) (Going (stage s two_open [] m gs 2)) (Going (stage s two_open [] m gs 1)) (Going (stage s one_open [] m gs 0)) (Ended (Done (done_with s cs m)))
                (claim_ops flag) (flat_map copy_ops cs) (release_ops flag) (wait_ops flag) tail (wat.end ∷ [])
                (claim_more w s m gs flag more.0 lt word more.1)
                (passes w s two_open m gs 1 cs)
                (release_more w s m gs flag)
                (wait_last w s m gs flag)
                (drops_end w s m gs (length m) cs r.segments),
          );
    }
