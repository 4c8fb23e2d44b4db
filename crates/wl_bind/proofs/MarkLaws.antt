-- Marks of segments, one for each number.
use Rattle.std.proofs.Common.{◌≡◌, ◌∙◌, ◌==◌, ◌&&◌, ◌||◌, ℕ, zero, suc, ◌+◌, ◌<◌, ◌≤◌, Bool, true, false, if◌then◌else◌, List, [], ◌∷◌, length, map, get_or, set, take, replicate, refl, sym, ap, inl, inr, arith, Some, slice_get}
use Rattle.std.proofs.Math.Bool.{or-false, or-true}
use Rattle.std.specs.List.{list_any, range_with_len}
use Rattle.std.proofs.lemmas.Bool.{cases_eq, eq-eqb, ne_eqb}
use Rattle.std.proofs.lemmas.List.{get_or-set_same, get_or-set_other, length-set, take_all}
use Rattle.std.proofs.lemmas.List.Folds.{list_any_more}
use Rattle.std.proofs.lemmas.List.FromFn.{length-map-range_with_len, get_or-map-range_with_len, fill_by_all}
use Rattle.wl_custom.specs.Infos.{SegmentInfo, is_tls}
use Rattle.wl_custom.specs.Symbols.{Symbol, is_thread_data}
use Rattle.wl_bind.specs.ThreadData.{is_thread_symbol_on, is_thread_segment_by}
use Rattle.wl_bind.specs.steps.ThreadSegments.{marked}

-- ---- a mark for each number

-- none is set
pub none_marked : (a n : ℕ) → replicate n false ≡ map (λ (k : ℕ). false) (range_with_len a n)
none_marked a zero = refl
none_marked a (suc n) = ap (λ (bs : List Bool). false ∷ bs) (none_marked (a + 1) n)

-- the marks are the same
same_marks : (f g : ℕ → Bool) → ((k : ℕ) → f k ≡ g k) → (ks : List ℕ) → map f ks ≡ map g ks
same_marks f g same [] = refl
same_marks f g same (k ∷ ks) = rw (same k, same_marks f g same ks) refl

-- one is set, and the others stay
one_set : (f g : ℕ → Bool) (n i : ℕ) (mark : Bool) → g i ≡ mark
    → ((k : ℕ) → (k ≡ i → ⊥) → g k ≡ f k)
    → set (map f (range_with_len 0 n)) i mark ≡ map g (range_with_len 0 n)
one_set f g n i mark here others =
    let marks : List Bool = map f (range_with_len 0 n) in
    let long : length marks ≡ n = length-map-range_with_len f 0 n in
    fill_by_all g (set marks i mark) n false (length-set marks i mark ∙ long) (λ k lt.
    elim (cases_eq k i) [
      | inl e ↦ (let within : i < length marks = omega (arith, long, e, lt) in
          rw e (get_or-set_same marks i mark false within ∙ sym here))
      | inr ne ↦ (let same : 0 + k ≡ k = omega arith in
          get_or-set_other marks i k mark false ne
          ∙ (get_or-map-range_with_len f 0 n k k false lt same ∙ sym (others k ne)))
    ])

-- one is set beside those that are, or none
pub one_more : (f g : ℕ → Bool) (n i : ℕ) (marks : Bool)
    → ((k : ℕ) → g k ≡ (f k || (marks && (i == k))))
    → (if marks then set (map f (range_with_len 0 n)) i true else map f (range_with_len 0 n))
    ≡ map g (range_with_len 0 n)
one_more f g n i true more =
    one_set f g n i true (more i ∙ rw (eq-eqb i i refl) (or-true (f i)))
    (λ k ne. more k ∙ rw (ne_eqb i k (λ e. ne (sym e))) (or-false (f k)))
one_more f g n i false more =
    same_marks f g (λ k. sym (more k ∙ or-false (f k))) (range_with_len 0 n)

-- ---- by symbols

-- one symbol more
pub symbol_more : (n : ℕ) (symbols : List Symbol) (i : ℕ) (s : Symbol) (old new : List Bool)
    → i < length symbols → s ≡ get_or symbols i s → new ≡ marked old s
    → old ≡ map (λ k. list_any (is_thread_symbol_on k) (take i symbols)) (range_with_len 0 n)
    → new ≡ map (λ k. list_any (is_thread_symbol_on k) (take (i + 1) symbols)) (range_with_len 0 n)
symbol_more n symbols i s old new lt at is so_far =
    let f = λ (k : ℕ). list_any (is_thread_symbol_on k) (take i symbols) in
    let g = λ (k : ℕ). list_any (is_thread_symbol_on k) (take (i + 1) symbols) in
    let more : (k : ℕ) → g k ≡ (f k || (is_thread_data s && (s.index == k))) = λ k.
    list_any_more (is_thread_symbol_on k) symbols i s lt
    ∙ ap (λ (z : Symbol). f k || is_thread_symbol_on k z) (sym at) in
    is ∙ (ap (λ (bs : List Bool). marked bs s) so_far
    ∙ one_more f g n s.index (is_thread_data s) more)

-- the last symbol
pub symbols_end : (n : ℕ) (symbols : List Symbol) (i : ℕ) (marks : List Bool) → length symbols ≤ i
    → marks ≡ map (λ k. list_any (is_thread_symbol_on k) (take i symbols)) (range_with_len 0 n)
    → marks ≡ map (λ k. list_any (is_thread_symbol_on k) symbols) (range_with_len 0 n)
symbols_end n symbols i marks le so_far = rw (take_all i symbols le) at so_far

-- ---- by infos

taken_here : {X : Type 0} (xs : List X) (i : ℕ) (x : X) → i < length xs → x ≡ get_or xs i x
    → slice_get (take (suc i) xs) i ≡ Some x
taken_here [] i x lt at = absurd (omega (arith, lt))
taken_here (y ∷ xs) zero x lt at = ap (λ z. Some z) (sym at)
taken_here (y ∷ xs) (suc i) x lt at = taken_here xs i x (omega (arith, lt)) at

taken_other : {X : Type 0} (xs : List X) (i k : ℕ) → (k ≡ i → ⊥)
    → slice_get (take (suc i) xs) k ≡ slice_get (take i xs) k
taken_other [] zero k ne = refl
taken_other [] (suc i) k ne = refl
taken_other (y ∷ xs) zero zero ne = absurd (ne refl)
taken_other (y ∷ xs) zero (suc k) ne = refl
taken_other (y ∷ xs) (suc i) zero ne = refl
taken_other (y ∷ xs) (suc i) (suc k) ne = taken_other xs i k (λ e. ne (ap suc e))

-- one info more
pub info_more : (n : ℕ) (symbols : List Symbol) (infos : List SegmentInfo) (i : ℕ)
    (info : SegmentInfo) (old new : List Bool)
    → i < length infos → info ≡ get_or infos i info → new ≡ set old i (is_tls info)
    → old ≡ map (λ k. is_thread_segment_by symbols k (slice_get (take i infos) k)) (range_with_len 0 n)
    → new ≡ map (λ k. is_thread_segment_by symbols k (slice_get (take (i + 1) infos) k))
    (range_with_len 0 n)
info_more n symbols infos i info old new lt at is so_far =
    let next : i + 1 ≡ suc i = omega arith in
    let f = λ (k : ℕ). is_thread_segment_by symbols k (slice_get (take i infos) k) in
    let g = λ (k : ℕ). is_thread_segment_by symbols k (slice_get (take (suc i) infos) k) in
    rw next (is ∙ (ap (λ (bs : List Bool). set bs i (is_tls info)) so_far
    ∙ one_set f g n i (is_tls info)
    (ap (is_thread_segment_by symbols i) (taken_here infos i info lt at))
    (λ k ne. ap (is_thread_segment_by symbols k) (taken_other infos i k ne))))

-- the last info
pub infos_end : (n : ℕ) (symbols : List Symbol) (infos : List SegmentInfo) (i : ℕ)
    (marks : List Bool) → length infos ≤ i
    → marks ≡ map (λ k. is_thread_segment_by symbols k (slice_get (take i infos) k))
    (range_with_len 0 n)
    → marks ≡ map (λ k. is_thread_segment_by symbols k (slice_get infos k)) (range_with_len 0 n)
infos_end n symbols infos i marks le so_far = rw (take_all i infos le) at so_far
