-- Rows: what a list has for each thing of another.
use Rattle.std.proofs.Common.{◌≡◌, ◌∙◌, ℕ, zero, suc, ◌+◌, ◌<◌, List, [], ◌∷◌, ◌++◌, length, take, get_or, refl, sym, ap, subst, arith, inl, inr, Some, slice_get, length-take-le}
use Rattle.std.proofs.lemmas.List.{append-nil, append_assoc, take_more}
use Rattle.std.proofs.lemmas.Option.{get_or_from_slice_get, same_Some, slice_get-get_or, slice_get_within}
use Rattle.wl_lists.specs.Rows.{AreRows, by_number}
use Rattle.wl_lists.proofs.In.{IsIn, in_back, in_front, in_split}
use Rattle.wl_lists.proofs.Places.{there_is}

-- ---- the row of a thing

pub record RowOf {O X : Type 0} (P : ℕ → O → X → Type 0) (rows : List X) (k n : ℕ) (o : O) : Type 0 where
  pub row : X
  pub here : slice_get rows k ≡ Some row
  pub is : P n o row

pub row_of_object : {O X : Type 0} (P : ℕ → O → X → Type 0) (n : ℕ) (os : List O) (rows : List X)
    (k m : ℕ) (o : O) → AreRows P n os rows → slice_get os k ≡ Some o → m ≡ n + k
    → RowOf P rows k m o
row_of_object P n [] rows k m o are at is = absurd cc
row_of_object P n (p ∷ os) [] k m o are at is = absurd are
row_of_object {O} {X} P n (p ∷ os) (row ∷ rows) zero m o are at is =
    let same : p ≡ o = same_Some p o at in
    let here : n ≡ m = omega (arith, is) in
    record {
      row = row;
      here = refl;
      is = subst (λ (q : O). P m q row) same (subst (λ (i : ℕ). P i p row) here are.0);
    }
row_of_object P n (p ∷ os) (row ∷ rows) (suc k) m o are at is =
    let rest = row_of_object P (n + 1) os rows k m o are.1 at (omega (arith, is)) in
    record { row = rest.row; here = rest.here; is = rest.is }

-- a thing has a row, and only one
pub row_within : {O X : Type 0} (P : ℕ → O → X → Type 0) (os : List O) (rows : List X) (k : ℕ) (o : O)
    → AreRows P 0 os rows → slice_get os k ≡ Some o → k < length rows
row_within P os rows k o are at =
    let r = row_of_object P 0 os rows k k o are at (omega arith) in
    slice_get_within rows k r.row r.here

pub row_found : {O X : Type 0} (P : ℕ → O → X → Type 0) (os : List O) (rows : List X) (k : ℕ) (o : O)
    (row : X) → AreRows P 0 os rows → slice_get os k ≡ Some o → slice_get rows k ≡ Some row
    → P k o row
row_found {O} {X} P os rows k o row are at found =
    let r = row_of_object P 0 os rows k k o are at (omega arith) in
    let same : r.row ≡ row = same_Some r.row row (sym r.here ∙ found) in
    subst (λ (x : X). P k o x) same r.is

-- the thing of a row
pub row_of : {O X : Type 0} (IsRow : ℕ → O → X → Type 0) (n : ℕ) (os : List O) (rows : List X) (i : ℕ)
    (row : X) → AreRows IsRow n os rows → slice_get rows i ≡ Some row
    → (o : O) × (slice_get os i ≡ Some o) × IsRow (n + i) o row
row_of IsRow n [] [] i row h here = absurd cc
row_of IsRow n [] (r ∷ rows) i row h here = absurd h
row_of IsRow n (o ∷ os) [] i row h here = absurd h
row_of IsRow n (o ∷ os) (r ∷ rows) zero row h here =
    let same : r ≡ row = same_Some r row here in
    let e : n ≡ n + 0 = omega arith in
    (o, refl, subst (λ m. IsRow m o row) e (subst (λ x. IsRow n o x) same h.0))
row_of IsRow n (o ∷ os) (r ∷ rows) (suc i) row h here =
    let rest = row_of IsRow (n + 1) os rows i row h.1 here in
    let e : (n + 1) + i ≡ n + suc i = omega arith in
    (rest.0, rest.1, subst (λ m. IsRow m rest.0 row) e rest.2)

-- there are as many as things
pub rows_length : {O X : Type 0} (P : ℕ → O → X → Type 0) (n : ℕ) (os : List O) (rows : List X)
    → AreRows P n os rows → length rows ≡ length os
rows_length P n [] [] are = refl
rows_length P n [] (row ∷ rows) are = absurd are
rows_length P n (o ∷ os) [] are = absurd are
rows_length P n (o ∷ os) (row ∷ rows) are =
    let rest = rows_length P (n + 1) os rows are.1 in omega (arith, rest)

-- ---- one row more

rows_pushed : {O X : Type 0} (P : ℕ → O → X → Type 0) (n m : ℕ) (os : List O) (rows : List X) (o : O)
    (row : X) → n + length os ≡ m → AreRows P n os rows → P m o row
    → AreRows P n (os ++ o ∷ []) (rows ++ row ∷ [])
rows_pushed P n m [] [] o row is are so =
    let e : m ≡ n = omega (arith, is) in (subst (λ (i : ℕ). P i o row) e so, tt)
rows_pushed P n m [] (r ∷ rows) o row is are so = absurd are
rows_pushed P n m (p ∷ os) [] o row is are so = absurd are
rows_pushed P n m (p ∷ os) (r ∷ rows) o row is are so =
    (are.0, rows_pushed P (n + 1) m os rows o row (omega (arith, is)) are.1 so)

pub row_more : {O X : Type 0} (P : ℕ → O → X → Type 0) (os : List O) (rows new : List X) (k : ℕ)
    (row : X) → k < length os → ((o : O) → slice_get os k ≡ Some o → P k o row)
    → new ≡ rows ++ row ∷ [] → AreRows P 0 (take k os) rows → AreRows P 0 (take (k + 1) os) new
row_more {O} P os rows new k row lt here pushed so_far =
    let s = there_is os k lt in
    let more : take (k + 1) os ≡ take k os ++ s.0 ∷ [] =
    take_more os k s.0 lt
    ∙ ap (λ (o : O). take k os ++ o ∷ []) (get_or_from_slice_get os k s.0 s.0 s.1) in
    let long : length (take k os) ≡ k = length-take-le k os (omega (arith, lt)) in
    rw (more, pushed)
    (rows_pushed P 0 k (take k os) rows s.0 row (omega (arith, long)) so_far (here s.0 s.1))

-- ---- things one by one

-- what one more gives
pub by_object_more : {O Y : Type 0} (f : ℕ → O → List Y) (n : ℕ) (os : List O) (i j : ℕ) (o : O)
    → n + i ≡ j → slice_get os i ≡ Some o
    → by_number f n (take (i + 1) os) ≡ by_number f n (take i os) ++ f j o
by_object_more f n [] i j o e here = absurd cc
by_object_more f n (x ∷ os) zero j o e here =
    let same : x ≡ o = same_Some x o here in
    let at : n ≡ j = omega (arith, e) in
    rw (same, at) (append-nil (f j o))
by_object_more {O} {Y} f n (x ∷ os) (suc i) j o e here =
    let on : suc i + 1 ≡ suc (i + 1) = omega arith in
    rw on (ap (λ (l : List Y). f n x ++ l)
    (by_object_more f (n + 1) os i j o (omega (arith, e)) here)
    ∙ sym (append_assoc (f n x) (by_number f (n + 1) (take i os)) (f j o)))

-- the thing that is read in a turn of a loop
pub object_here : {O : Type 0} (os list : List O) (i : ℕ) (o : O) → list ≡ os → i < length list
    → o ≡ get_or list i o → slice_get os i ≡ Some o
object_here {O} os list i o same lt is =
    subst (λ (xs : List O). slice_get xs i ≡ Some o) same
    (slice_get-get_or list i o lt ∙ ap (λ (x : O). Some x) (sym is))

-- what one gives is among what all give
pub object_in : {O X : Type 0} (f : ℕ → O → List X) (n i m : ℕ) (os : List O) (o : O) (z : X)
    → n + i ≡ m → slice_get os i ≡ Some o → IsIn (f m o) z → IsIn (by_number f n os) z
object_in f n i m [] o z same at h = absurd cc
object_in {O} {X} f n zero m (p ∷ os) o z same at h =
    let is : p ≡ o = same_Some p o at in
    let number : m ≡ n = omega (arith, same) in
    let P : O → Type 0 = λ q. IsIn (f m q) z in
    let Q : ℕ → Type 0 = λ k. IsIn (f k p) z in
    in_front (f n p) (by_number f (n + 1) os) z (subst Q number (subst P (sym is) h))
object_in f n (suc i) m (p ∷ os) o z same at h =
    in_back (f n p) (by_number f (n + 1) os) z
    (object_in f (n + 1) i m os o z (omega (arith, same)) at h)

-- what is among all comes from one of them
pub record Given {O X : Type 0} (f : ℕ → O → List X) (i : ℕ) (os : List O) (z : X) : Type 0 where
  pub place : ℕ
  pub object : O
  pub at : slice_get os place ≡ Some object
  pub there : IsIn (f (i + place) object) z

pub given_by : {O X : Type 0} (f : ℕ → O → List X) (i : ℕ) (os : List O) (z : X)
    → IsIn (by_number f i os) z → Given f i os z
given_by f i [] z h = absurd h
given_by {O} {X} f i (o ∷ os) z h = elim (in_split (f i o) (by_number f (i + 1) os) z h) [
  | inl l ↦ (let here : i ≡ i + 0 = omega arith in
      record { place = 0; object = o; at = refl; there = subst (λ (n : ℕ). IsIn (f n o) z) here l })
  | inr r ↦ (let g = given_by f (i + 1) os z r in
      let here : (i + 1) + g.place ≡ i + suc g.place = omega arith in
      record {
        place = suc g.place;
        object = g.object;
        at = g.at;
        there = subst (λ (n : ℕ). IsIn (f n g.object) z) here g.there;
      })
]
