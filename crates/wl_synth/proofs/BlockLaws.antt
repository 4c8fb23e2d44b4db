-- What a thread's block and its globals hold in the end.
use Rattle.std.proofs.Common.{◌≡◌, ◌≢◌, ℕ, ◌+◌, ◌<◌, ◌≤◌, ◌^◌, ℤ, pos, negsuc, List, [], ◌∷◌, length, Some, refl, sym, ap, subst, ◌∙◌, arith}
use Rattle.std.specs.Prelude.{◌+ℤ◌, replicate, slice_get, slice_set}
use Rattle.std.specs.List.{AllByRecursion}
use Rattle.std.proofs.lemmas.List.{length-replicate}
use Rattle.std.proofs.lemmas.Option.{slice_get_within}
use Rattle.wl_synth.specs.declared.parts.TlsPointerFixup.{TlsPointerFixup}
use Rattle.wl_synth.specs.declared.parts.TlsGotFixup.{TlsGotFixup}
use Rattle.wl_synth.specs.Bodies.{ThreadBlock, init_tls_ops}
use Rattle.wl_synth.specs.Encoding.{IsEncoded}
use Rattle.wl_ops.specs.Standing.{window}
use Rattle.wl_synth.specs.Machine.{Value, I32, wrapped, World, State, Done, overlay, i32_bytes, i32_of, i32_at, Runs}
use Rattle.wl_synth.specs.Memory.{overlaid, ShareNoByte}
use Rattle.wl_synth.specs.ThreadLocal.{moved_by, AreWordsApart, NameDistinct, CanInitTls, IsInitialized}
use Rattle.wl_synth.proofs.BoundLaws.{size_is_word}
use Rattle.wl_synth.proofs.MemoryLaws.{write_size, resized}
use Rattle.wl_synth.proofs.LaidLaws.{written_apart, written_there, laid_size}
use Rattle.wl_synth.proofs.TlsLaws.{pointed, slice_same, slice_other, with_got, GotFits, keep_all, block_of, tls_runs}

-- ---- pointers

wrapped_fits : (z : ℤ) → wrapped 4294967296 z < 2 ^ 32
wrapped_fits (pos n) = omega arith
wrapped_fits (negsuc n) = omega arith

number_back : (v : ℕ) → v < 2 ^ 32 → i32_of (i32_bytes v) ≡ v
number_back v lt = omega arith

pub pointed_size : (base : ℕ) (fs : List TlsPointerFixup) (block : List ℕ) → AllByRecursion (λ f. f.dest + 4 ≤ length block) fs → length (pointed base fs block) ≡ length block
pointed_size base [] block a = refl
pointed_size base (f ∷ fs) block a =
    let more = overlay f.dest (i32_bytes (moved_by base f.offset)) block in
    let same : length more ≡ length block = write_size f.dest (i32_bytes (moved_by base f.offset)) block a.0 in
    pointed_size base fs more (subst (λ (k : ℕ). AllByRecursion (λ (f : TlsPointerFixup). f.dest + 4 ≤ k) fs) (sym same) a.1) ∙ same

pub pointed_clear : (base : ℕ) (fs : List TlsPointerFixup) (block : List ℕ) (p n : ℕ) → AllByRecursion (λ f. f.dest + 4 ≤ length block) fs → AllByRecursion (λ f. ShareNoByte p n f.dest 4) fs
    → window p n (pointed base fs block) ≡ window p n block
pointed_clear base [] block p n a clear = refl
pointed_clear base (f ∷ fs) block p n a clear =
    let bytes = i32_bytes (moved_by base f.offset) in
    let more = overlay f.dest bytes block in
    let same : length more ≡ length block = write_size f.dest bytes block a.0 in
    pointed_clear base fs more p n (subst (λ (k : ℕ). AllByRecursion (λ (f : TlsPointerFixup). f.dest + 4 ≤ k) fs) (sym same) a.1) clear.1
    ∙ written_apart p n f.dest bytes block clear.0 a.0

pub pointed_stand : (base : ℕ) (fs : List TlsPointerFixup) (block : List ℕ) → AllByRecursion (λ f. f.dest + 4 ≤ length block) fs → AreWordsApart fs
    → AllByRecursion (λ f. i32_at f.dest (pointed base fs block) ≡ moved_by base f.offset) fs
pointed_stand base [] block a d = d
pointed_stand base (f ∷ fs) block a d =
    let v = moved_by base f.offset in
    let more = overlay f.dest (i32_bytes v) block in
    let same : length more ≡ length block = write_size f.dest (i32_bytes v) block a.0 in
    let rest = subst (λ (k : ℕ). AllByRecursion (λ (f : TlsPointerFixup). f.dest + 4 ≤ k) fs) (sym same) a.1 in
    let lt : v < 2 ^ 32 = wrapped_fits (pos base +ℤ f.offset) in
    (ap i32_of (pointed_clear base fs more f.dest 4 rest d.0 ∙ written_there f.dest 4 (i32_bytes v) block refl a.0) ∙ number_back v lt, pointed_stand base fs more rest d.1)

-- ---- globals

pub gots_other : (base : ℕ) (fs : List TlsGotFixup) (gl : List Value) (k : ℕ) → AllByRecursion (λ f. f.global ≢ k) fs → slice_get (with_got base fs gl) k ≡ slice_get gl k
gots_other base [] gl k a = refl
gots_other base (f ∷ fs) gl k a =
    gots_other base fs (slice_set gl f.global (I32 (moved_by base f.offset))) k a.1 ∙ slice_other gl f.global k (I32 (moved_by base f.offset)) a.0

not_base : (w : World) (gl : List Value) (g : ℕ) (fs : List TlsGotFixup) → GotFits w gl g fs → AllByRecursion (λ f. f.global ≢ g) fs
not_base w gl g [] a = a
not_base w gl g (f ∷ fs) a = (a.0.1, not_base w gl g fs a.1)

pub gots_stand : (w : World) (base g : ℕ) (fs : List TlsGotFixup) (gl : List Value) → GotFits w gl g fs → NameDistinct fs
    → AllByRecursion (λ f. slice_get (with_got base fs gl) f.global ≡ Some (I32 (moved_by base f.offset))) fs
gots_stand w base g [] gl a d = d
gots_stand w base g (f ∷ fs) gl a d =
    let v = moved_by base f.offset in
    let more = slice_set gl f.global (I32 v) in
    let here : slice_get more f.global ≡ Some (I32 v) = slice_same gl f.global (I32 v) (slice_get_within gl f.global (I32 a.0.0.0) a.0.0.1) in
    (gots_other base fs more f.global d.0 ∙ here, gots_stand w base g fs more (keep_all w gl f.global v g fs a.1) d.1)

-- ---- the whole body

pub inits_tls : (w : World) (s : State) (base : ℕ) (b : ThreadBlock) (body : List ℕ) → IsEncoded (init_tls_ops b) body → CanInitTls w s base b
    → (t : State) × Runs w 0 body s (Done t) × IsInitialized s base b t
inits_tls w s base b body e r =
    let g = b.base_global in
    let zeros : List ℕ = replicate b.size 0 in
    let many : length zeros ≡ b.size = length-replicate b.size 0 in
    let fits = resized s.segments b.templates b.size (length zeros) many r.templates in
    let under = overlaid s.segments b.templates zeros in
    let kept : length under ≡ b.size = laid_size s.segments b.templates zeros fits ∙ many in
    let words = subst (λ (k : ℕ). AllByRecursion (λ (f : TlsPointerFixup). f.dest + 4 ≤ k) b.pointers) (sym kept) r.pointers in
    let block = block_of s base b in
    let gl = slice_set s.globals g (I32 base) in
    let set = keep_all w s.globals g base g b.got r.got in
    let t : State = record s { stack = []; labels = []; skipped = 0; memory = overlay base block s.memory; globals = with_got base b.got gl } in (
      t,
      (init_tls_ops b, e.decodes.0, tls_runs w s base b r (size_is_word b e.in_range)),
      record {
        block = block;
        is_block = record {
          same_length = pointed_size base b.pointers under words ∙ kept;
          pointers = pointed_stand base b.pointers under words r.apart;
          others = λ p n clear. pointed_clear base b.pointers under p n words clear;
        };
        written = refl;
        base_is = gots_other base b.got gl g (not_base w gl g b.got set) ∙ slice_same s.globals g (I32 base) (slice_get_within s.globals g (I32 r.base_global.0) r.base_global.1);
        got_are = gots_stand w base g b.got gl set r.distinct;
        other_globals = λ k ne free. gots_other base b.got gl k free ∙ slice_other s.globals g k (I32 base) (λ e. ne (sym e));
        rest = refl;
      },
    )
