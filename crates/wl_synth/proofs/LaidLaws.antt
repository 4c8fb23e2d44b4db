-- What memory holds after writes.
use Rattle.std.proofs.Common.{◌≡◌, ℕ, ◌+◌, ◌-◌, ◌≤◌, List, [], ◌∷◌, ◌++◌, length, take, drop, Option, refl, sym, ap, subst, ◌∙◌, arith, append_assoc, length-append, inl, inr}
use Rattle.std.specs.List.{AllByRecursion}
use Rattle.std.proofs.lemmas.List.{length-drop, length-take-le, drop-append-le, take-append-le, take-append-drop}
use Rattle.std.proofs.Math.Seq.{take-append_seam, drop-append_seam, drop-append-add}
use Rattle.wl_synth.specs.declared.parts.PassiveSegmentCopy.{PassiveSegmentCopy}
use Rattle.wl_ops.specs.Standing.{window}
use Rattle.wl_synth.specs.Machine.{State, overlay, i32_bytes, i32_of}
use Rattle.wl_synth.specs.Memory.{segment_bytes, FitsSegment, overlaid, ShareNoByte, AreClear, AreDisjoint, AreLaid}
use Rattle.wl_synth.proofs.MemoryLaws.{write_size, copied_size, resized}

-- ---- one overlay

part_front : (p n : ℕ) (xs ys : List ℕ) → p + n ≤ length xs → window p n (xs ++ ys) ≡ window p n xs
part_front p n xs ys le =
    ap (λ (x : List ℕ). take n x) (drop-append-le p xs ys (omega arith)) ∙ take-append-le n (drop p xs) ys (omega (arith, length-drop p xs))

part_back : (p k n : ℕ) (xs ys : List ℕ) → p ≡ length xs + k → window p n (xs ++ ys) ≡ window k n ys
part_back p k n xs ys e = rw e (ap (λ (x : List ℕ). take n x) (drop-append-add xs ys k))

before : (p n a : ℕ) (bytes m : List ℕ) → p + n ≤ a → a + length bytes ≤ length m → window p n (overlay a bytes m) ≡ window p n m
before p n a bytes m le fits =
    let front : p + n ≤ length (take a m) = omega (arith, length-take-le a m (omega arith)) in
    part_front p n (take a m) (bytes ++ drop (a + length bytes) m) front
    ∙ sym (part_front p n (take a m) (drop a m) front)
    ∙ ap (λ (x : List ℕ). window p n x) (take-append-drop a m)

behind : (p n a : ℕ) (bytes m : List ℕ) → a + length bytes ≤ p → a + length bytes ≤ length m → window p n (overlay a bytes m) ≡ window p n m
behind p n a bytes m le fits =
    let q = a + length bytes in
    let rest = drop q m in
    let size : length (take a m) ≡ a = length-take-le a m (omega arith) in
    let new : length (take a m ++ bytes) ≡ q = length-append (take a m) bytes ∙ ap (λ (k : ℕ). k + length bytes) size in
    let old : length (take q m) ≡ q = length-take-le q m fits in
    ap (λ (x : List ℕ). window p n x) (sym (append_assoc (take a m) bytes rest))
    ∙ part_back p (p - q) n (take a m ++ bytes) rest (omega (arith, new))
    ∙ sym (part_back p (p - q) n (take q m) rest (omega (arith, old)))
    ∙ ap (λ (x : List ℕ). window p n x) (take-append-drop q m)

pub written_apart : (p n a : ℕ) (bytes m : List ℕ) → ShareNoByte p n a (length bytes) → a + length bytes ≤ length m → window p n (overlay a bytes m) ≡ window p n m
written_apart p n a bytes m (inl le) fits = before p n a bytes m le fits
written_apart p n a bytes m (inr le) fits = behind p n a bytes m le fits

pub written_there : (a n : ℕ) (bytes m : List ℕ) → length bytes ≡ n → a + length bytes ≤ length m → window a n (overlay a bytes m) ≡ bytes
written_there a n bytes m len fits =
    let size : length (take a m) ≡ a = length-take-le a m (omega arith) in
    let rest = drop (a + length bytes) m in
    let dropped : drop a (take a m ++ (bytes ++ rest)) ≡ bytes ++ rest = subst (λ (k : ℕ). drop k (take a m ++ (bytes ++ rest)) ≡ bytes ++ rest) size (drop-append_seam (take a m) (bytes ++ rest)) in
    ap (λ (x : List ℕ). take n x) dropped ∙ subst (λ (k : ℕ). take k (bytes ++ rest) ≡ bytes) len (take-append_seam bytes rest)

-- ---- copies

pub laid_size : (gs : List (Option (List ℕ))) (cs : List PassiveSegmentCopy) (m : List ℕ) → AllByRecursion (FitsSegment gs (length m)) cs → length (overlaid gs cs m) ≡ length m
laid_size gs [] m a = refl
laid_size gs (c ∷ cs) m a =
    let more = overlay c.offset (segment_bytes gs c.segment_index) m in
    let same = copied_size gs c m a.0 in
    laid_size gs cs more (resized gs cs (length m) (length more) same a.1) ∙ same

copy_apart : (gs : List (Option (List ℕ))) (c : PassiveSegmentCopy) (m : List ℕ) (p n : ℕ) → FitsSegment gs (length m) c → ShareNoByte p n c.offset c.len
    → window p n (overlay c.offset (segment_bytes gs c.segment_index) m) ≡ window p n m
copy_apart gs c m p n a apart =
    written_apart p n c.offset (segment_bytes gs c.segment_index) m (rw a.as_long apart) (rw a.as_long a.within)

copy_there : (gs : List (Option (List ℕ))) (c : PassiveSegmentCopy) (m : List ℕ) → FitsSegment gs (length m) c
    → window c.offset c.len (overlay c.offset (segment_bytes gs c.segment_index) m) ≡ segment_bytes gs c.segment_index
copy_there gs c m a = written_there c.offset c.len (segment_bytes gs c.segment_index) m a.as_long (rw a.as_long a.within)

pub laid_clear : (gs : List (Option (List ℕ))) (cs : List PassiveSegmentCopy) (m : List ℕ) (p n : ℕ) → AllByRecursion (FitsSegment gs (length m)) cs → AreClear cs p n → window p n (overlaid gs cs m) ≡ window p n m
laid_clear gs [] m p n a clear = refl
laid_clear gs (c ∷ cs) m p n a clear =
    let more = overlay c.offset (segment_bytes gs c.segment_index) m in
    laid_clear gs cs more p n (resized gs cs (length m) (length more) (copied_size gs c m a.0) a.1) clear.1 ∙ copy_apart gs c m p n a.0 clear.0

abbrev pub Stand : List (Option (List ℕ)) → List PassiveSegmentCopy → List ℕ → Type 0
Stand gs cs m = AllByRecursion (λ c. window c.offset c.len m ≡ segment_bytes gs c.segment_index) cs

pub laid_stand : (gs : List (Option (List ℕ))) (cs : List PassiveSegmentCopy) (m : List ℕ) → AllByRecursion (FitsSegment gs (length m)) cs → AreDisjoint cs → Stand gs cs (overlaid gs cs m)
laid_stand gs [] m a d = d
laid_stand gs (c ∷ cs) m a d =
    let more = overlay c.offset (segment_bytes gs c.segment_index) m in
    let rest = resized gs cs (length m) (length more) (copied_size gs c m a.0) a.1 in
    (laid_clear gs cs more c.offset c.len rest d.0 ∙ copy_there gs c m a.0, laid_stand gs cs more rest d.1)

-- a overlay that is clear of the copies leaves them
pub stand_on : (gs : List (Option (List ℕ))) (cs : List PassiveSegmentCopy) (a : ℕ) (bytes m : List ℕ) → a + length bytes ≤ length m → AreClear cs a (length bytes) → Stand gs cs m → Stand gs cs (overlay a bytes m)
stand_on gs [] a bytes m fits clear st = st
stand_on gs (c ∷ cs) a bytes m fits clear st =
    (written_apart c.offset c.len a bytes m (turned_round a (length bytes) c.offset c.len clear.0) fits ∙ st.0, stand_on gs cs a bytes m fits clear.1 st.1)
  where
    turned_round : (p n q k : ℕ) → ShareNoByte p n q k → ShareNoByte q k p n
    turned_round p n q k (inl le) = inr le
    turned_round p n q k (inr le) = inl le

-- ---- the whole body

pub all_laid : (s : State) (flag : ℕ) (cs : List PassiveSegmentCopy) → flag + 4 ≤ length s.memory → AllByRecursion (FitsSegment s.segments (length s.memory)) cs → AreClear cs flag 4 → AreDisjoint cs
    → AreLaid s flag cs (overlay flag (i32_bytes 2) (overlaid s.segments cs (overlay flag (i32_bytes 1) s.memory)))
all_laid s flag cs le a clear d =
    let m = s.memory in
    let claimed = overlay flag (i32_bytes 1) m in
    let size : length claimed ≡ length m = write_size flag (i32_bytes 1) m le in
    let a' = resized s.segments cs (length m) (length claimed) size a in
    let there = overlaid s.segments cs claimed in
    let size' : length there ≡ length m = laid_size s.segments cs claimed a' ∙ size in
    let le' : flag + 4 ≤ length there = rw size' le in
    record {
      stand = stand_on s.segments cs flag (i32_bytes 2) there le' clear (laid_stand s.segments cs claimed a' d);
      flag_set = ap i32_of (written_there flag 4 (i32_bytes 2) there refl le');
      others = λ p n apart free.
          written_apart p n flag (i32_bytes 2) there apart le' ∙ laid_clear s.segments cs claimed p n a' free ∙ written_apart p n flag (i32_bytes 1) m apart le;
      same_length = write_size flag (i32_bytes 2) there le' ∙ size';
    }
