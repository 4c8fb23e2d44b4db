-- Copies of segments that pass a test.
use Rattle.std.proofs.Common.{◌≡◌, ◌∙◌, ◌≤◌, inr, ℕ, zero, suc, ◌+◌, Bool, true, false, List, [], ◌∷◌, ◌++◌, length, refl, sym, ap, subst, arith, Option, Some, slice_get, if◌then◌else◌}
use Rattle.std.specs.List.{AllByRecursion, AllZip}
use Rattle.wl_data.specs.DataPlaces.{AreSeparate, EndBy}
use Rattle.wl_data.specs.Segments.{SegmentLayout}
use Rattle.wl_synth.specs.Memory.{FitsSegment, ShareNoByte, AreClear, AreDisjoint, segment_bytes, bytes_of_segment}
use Rattle.wl_synth.specs.declared.parts.PassiveSegmentCopy.{PassiveSegmentCopy}
use Rattle.wl_plan.specs.Running.{HoldsSegment}
use Rattle.wl_places.specs.Copies.{copies_from, copy_of}

-- ---- each copy is that of a segment

-- what holds of each copy of a segment that passes holds of all copies
pub copies_all : (P : PassiveSegmentCopy → Type 0) (test : SegmentLayout → Bool) (n : ℕ)
    (rows : List SegmentLayout)
    → ((k : ℕ) (l : SegmentLayout) → slice_get rows k ≡ Some l → test l ≡ true → P (copy_of (n + k) l))
    → AllByRecursion P (copies_from test n rows)
copies_all P test n [] f = tt
copies_all P test n (l ∷ rows) f =
    at (test l) refl (copies_all P test (n + 1) rows (λ k m e t.
    let same : n + suc k ≡ (n + 1) + k = omega arith in
    subst (λ (i : ℕ). P (copy_of i m)) same (f (suc k) m e t)))
  where
    at : (b : Bool) → test l ≡ b → AllByRecursion P (copies_from test (n + 1) rows)
        → AllByRecursion P ((if b then copy_of n l ∷ [] else []) ++ copies_from test (n + 1) rows)
    at true e r =
        let same : n + zero ≡ n = omega arith in
        (subst (λ (i : ℕ). P (copy_of i l)) same (f zero l refl e), r)
    at false e r = r

-- ---- they lie apart

-- what passes a narrower test lies apart too
pub separate_less : (wide narrow : SegmentLayout → Bool) (rows : List SegmentLayout)
    → ((k : ℕ) (l : SegmentLayout) → slice_get rows k ≡ Some l → narrow l ≡ true → wide l ≡ true)
    → AreSeparate wide rows → AreSeparate narrow rows
separate_less wide narrow rows f h i k l m ne a b s t = h i k l m ne a b (f i l a s) (f k m b t)

separate_rest : (test : SegmentLayout → Bool) (x : SegmentLayout) (rows : List SegmentLayout)
    → AreSeparate test (x ∷ rows) → AreSeparate test rows
separate_rest test x rows h i k l m ne a b s t = h (suc i) (suc k) l m (omega arith) a b s t

pub copies_disjoint : (test : SegmentLayout → Bool) (n : ℕ) (rows : List SegmentLayout)
    → AreSeparate test rows → AreDisjoint (copies_from test n rows)
copies_disjoint test n [] h = tt
copies_disjoint test n (l ∷ rows) h =
    at (test l) refl (copies_disjoint test (n + 1) rows (separate_rest test l rows h))
  where
    at : (b : Bool) → test l ≡ b → AreDisjoint (copies_from test (n + 1) rows)
        → AreDisjoint ((if b then copy_of n l ∷ [] else []) ++ copies_from test (n + 1) rows)
    at true e r = (
      copies_all
          (λ (c : PassiveSegmentCopy). ShareNoByte l.output_memory_offset (length l.payload) c.offset c.len)
          test (n + 1) rows (λ k m f t. h zero (suc k) l m (omega arith) refl f e t),
      r,
    )
    at false e r = r

-- where all of them end before so many bytes, these share none with them
pub copies_clear : (test : SegmentLayout → Bool) (place size n : ℕ) (rows : List SegmentLayout)
    → EndBy test place rows → AreClear (copies_from test n rows) place size
copies_clear test place size n rows h =
    copies_all (λ (c : PassiveSegmentCopy). ShareNoByte place size c.offset c.len) test n rows
    (λ k l e t. inr (h k l e t))

-- ---- the segments are there

zip_at : {A B : Type 0} (R : A → B → Type 0) (xs : List A) (ys : List B) (k : ℕ) (x : A)
    → AllZip R xs ys → slice_get xs k ≡ Some x → (y : B) × (slice_get ys k ≡ Some y) × R x y
zip_at R [] [] k x p e = absurd cc
zip_at R [] (y ∷ ys) k x p e = absurd p
zip_at R (z ∷ xs) [] k x p e = absurd p
zip_at R (z ∷ xs) (y ∷ ys) zero x p e =
    let same : z ≡ x = cc in (y, refl, subst (λ w. R w y) same p.0)
zip_at R (z ∷ xs) (y ∷ ys) (suc k) x p e = zip_at R xs ys k x p.1 e

fits_one : (segments : List (Option (List ℕ))) (size k : ℕ) (l : SegmentLayout)
    (held : Option (List ℕ)) → slice_get segments k ≡ Some held → HoldsSegment l held
    → l.passive ≡ true → l.output_memory_offset + length l.payload ≤ size
    → FitsSegment segments size (copy_of k l)
fits_one segments size k l held here holds passive le =
    let h = holds passive in
    let there : slice_get segments k ≡ Some (Some h.0) = here ∙ ap (λ (x : Option (List ℕ)). Some x) h.1 in
    let bytes : segment_bytes segments k ≡ h.0 = ap bytes_of_segment there in
    record {
      there = there ∙ ap (λ (x : List ℕ). Some (Some x)) (sym bytes);
      as_long = ap length bytes ∙ h.2;
      within = le;
    }

-- passive segments that end within the size
pub copies_fit : (test : SegmentLayout → Bool) (size : ℕ) (rows : List SegmentLayout)
    (segments : List (Option (List ℕ))) → AllZip HoldsSegment rows segments
    → ((k : ℕ) (l : SegmentLayout) → slice_get rows k ≡ Some l → test l ≡ true → l.passive ≡ true)
    → EndBy test size rows
    → AllByRecursion (FitsSegment segments size) (copies_from test 0 rows)
copies_fit test size rows segments holds passive ends =
    copies_all (FitsSegment segments size) test 0 rows (λ k l e t.
    let held = zip_at HoldsSegment rows segments k l holds e in
    let same : k ≡ 0 + k = omega arith in
    subst (λ (i : ℕ). FitsSegment segments size (copy_of i l)) same
    (fits_one segments size k l held.0 held.1 held.2 (passive k l e t) (ends k l e t)))

-- what ends by a place ends by each later one too
pub ends_less : (wide narrow : SegmentLayout → Bool) (near far : ℕ) (rows : List SegmentLayout)
    → ((k : ℕ) (l : SegmentLayout) → slice_get rows k ≡ Some l → narrow l ≡ true → wide l ≡ true)
    → near ≤ far → EndBy wide near rows → EndBy narrow far rows
ends_less wide narrow near far rows f le h k l e t = omega (arith, h k l e (f k l e t))
