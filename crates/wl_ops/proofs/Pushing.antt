-- Reading values after those that are there.
use Rattle.std.proofs.Common.{◌≡◌, ℕ, ℤ, pos, suc, ◌+◌, ◌-◌, ◌<◌, ◌≤◌, List, [], ◌∷◌, ◌++◌, drop, Result, Ok, Err, refl, sym, ap, subst, ◌∙◌, arith, append_assoc}
use Rattle.std.specs.List.{flat_map}
use Rattle.std.proofs.lemmas.List.{append-nil}
use Rattle.wl_bytes.specs.Cursor.{Cursor}
use Rattle.wl_bytes.specs.Parse.{◌>>=◌}
use Rattle.wl_bytes.specs.Grammar.{then_at, times_at, map_at}
use Rattle.wl_bytes.proofs.Steps.{ok_is}
use Rattle.wl_bytes.specs.declared.read_error.ReadError.{ReadError}
use Rattle.wl_bytes.specs.declared.read_error.ReadError.TheVariants.{OutOfMemory, Malformed, Unsupported}
use Rattle.wl_bytes.specs.Outcome.{Fails}
use Rattle.wl_bytes.specs.Lists.{number_at}
use Rattle.wl_ops.specs.declared.table.Single.{Single}
use Rattle.wl_ops.specs.declared.table.Single.TheVariants.{Number}
use Rattle.wl_ops.specs.declared.table.Immediate.{Immediate}
use Rattle.wl_ops.specs.declared.table.Immediate.TheVariants.{One, ListOf, Catches}
use Rattle.wl_ops.specs.Front.{with_front}
use Rattle.wl_ops.specs.Immediates.{single_at, catch_numbers, catch_kind_at, catch_at, counted, counted_lists, flat_at, immediate_at, joined, immediates_at}

abbrev Reading : Type 0
Reading = Result (List ℤ × Cursor) ReadError

-- what was read after the values that were there
pub front_ok : (front new : List ℤ) (to : Cursor) (read : Reading) → with_front front read ≡ Ok (new, to) → (xs : List ℤ) × (read ≡ Ok (xs, to)) × (front ++ xs ≡ new)
front_ok front new to (Ok p) e =
    let same = ok_is {E = ReadError} (front ++ p.0, p.1) (new, to) e in
    (p.0, ap (λ (c : Cursor). Ok (p.0, c)) (ap (λ (q : List ℤ × Cursor). q.1) same), ap (λ (q : List ℤ × Cursor). q.0) same)
front_ok front new to (Err d) e = absurd cc

pub fails_front : (e : ReadError) (front : List ℤ) (read : Reading) → Fails e read → Fails e (with_front front read)
fails_front OutOfMemory front read h = tt
fails_front (Malformed why) front read h = rw h refl
fails_front (Unsupported form) front read h = rw h refl

err_front : (front : List ℤ) (read : Reading) (e : ReadError) → with_front front read ≡ Err e → read ≡ Err e
err_front front (Ok p) e h = absurd cc
err_front front (Err d) e h = h

pub front_fails : (e : ReadError) (front : List ℤ) (read : Reading) → Fails e (with_front front read) → Fails e read
front_fails OutOfMemory front read h = tt
front_fails (Malformed why) front read h = err_front front read (Malformed why) h
front_fails (Unsupported form) front read h = err_front front read (Unsupported form) h

-- the first step fails, and so does the rest
pub fails_bind : {A B : Type 0} (e : ReadError) (read : Result A ReadError) (f : A → Result B ReadError) → Fails e read → Fails e (read >>= f)
fails_bind OutOfMemory read f h = tt
fails_bind (Malformed why) read f h = rw h refl
fails_bind (Unsupported form) read f h = rw h refl

-- what is read goes after one value, and after what was there
regroup : (front : List ℤ) (z : ℤ) (read : Reading) → with_front front (read >>= λ q. Ok (z ∷ q.0, q.1)) ≡ with_front (front ++ z ∷ []) read
regroup front z (Ok q) = ap (λ (zs : List ℤ). Ok (zs, q.1)) (simp append_assoc)
regroup front z (Err e) = refl

joins : (front xs : List ℤ) (read : Reading) → with_front front (read >>= λ q. Ok (xs ++ q.0, q.1)) ≡ with_front (front ++ xs) read
joins front xs (Ok q) = ap (λ (zs : List ℤ). Ok (zs, q.1)) (simp append_assoc)
joins front xs (Err e) = refl

-- ---- so many values

-- one more is read
pub goes_on : (item : Cursor → Result (ℤ × Cursor) ReadError) (front : List ℤ) (count i : ℕ) (c : Cursor) (x : ℤ) (behind : Cursor) (total : Reading) → i < count → item c ≡ Ok (x, behind)
    → with_front front (times_at item (count - i) c) ≡ total → with_front (front ++ x ∷ []) (times_at item (count - (i + 1)) behind) ≡ total
unfolding times_at
goes_on item front count i c x behind total lt h so_far =
    let k : count - i ≡ suc (count - (i + 1)) = omega arith in
    let one : with_front front (times_at item (count - i) c) ≡ with_front (front ++ x ∷ []) (times_at item (count - (i + 1)) behind) = rw (k, h) (regroup front x (times_at item (count - (i + 1)) behind)) in
    sym one ∙ so_far

-- the next one is at fault
pub ends : (item : Cursor → Result (ℤ × Cursor) ReadError) (e : ReadError) (front : List ℤ) (count i : ℕ) (c : Cursor) (total : Reading) → i < count → Fails e (item c) → with_front front (times_at item (count - i) c) ≡ total → Fails e total
unfolding times_at
ends item e front count i c total lt h so_far =
    let k : count - i ≡ suc (count - (i + 1)) = omega arith in
    let rest = λ (p : ℤ × Cursor). times_at item (count - (i + 1)) p.1 >>= λ q. Ok (p.0 ∷ q.0, q.1) in
    subst (Fails e) so_far (rw k (fails_front e front (item c >>= rest) (fails_bind e (item c) rest h)))

-- all are read
pub is_done : (item : Cursor → Result (ℤ × Cursor) ReadError) (front : List ℤ) (count i : ℕ) (c : Cursor) (total : Reading) → count ≤ i → with_front front (times_at item (count - i) c) ≡ total → total ≡ Ok (front, c)
unfolding times_at
is_done item front count i c total le so_far =
    let k : count - i ≡ 0 = omega arith in
    let one : with_front front (times_at item (count - i) c) ≡ Ok (front, c) = rw k (ap (λ (zs : List ℤ). Ok (zs, c)) (append-nil front)) in
    sym so_far ∙ one

-- ---- so many lists

abbrev Lists : Type 0
Lists = Result (List (List ℤ) × Cursor) ReadError

abbrev flat : Lists → Reading
flat read = read >>= λ p. Ok (flat_map (λ zs. zs) p.0, p.1)

abbrev one_more : List ℤ → Lists → Lists
one_more xs read = read >>= λ q. Ok (xs ∷ q.0, q.1)

abbrev behind : List ℤ → Reading → Reading
behind xs read = read >>= λ q. Ok (xs ++ q.0, q.1)

flat_cons : (xs : List ℤ) (read : Lists) → flat (one_more xs read) ≡ behind xs (flat read)
flat_cons xs (Ok q) = refl
flat_cons xs (Err e) = refl

pub flat_goes_on : (item : Cursor → Reading) (front xs : List ℤ) (count i : ℕ) (c after : Cursor) (total : Reading) → i < count → item c ≡ Ok (xs, after)
    → with_front front (flat_at item (count - i) c) ≡ total → with_front (front ++ xs) (flat_at item (count - (i + 1)) after) ≡ total
unfolding times_at
flat_goes_on item front xs count i c after total lt h so_far =
    let k : count - i ≡ suc (count - (i + 1)) = omega arith in
    let one : with_front front (flat_at item (count - i) c) ≡ with_front (front ++ xs) (flat_at item (count - (i + 1)) after) =
    rw (k, h, flat_cons xs (times_at item (count - (i + 1)) after)) (joins front xs (flat_at item (count - (i + 1)) after)) in
    sym one ∙ so_far

flat_stops : (item : Cursor → Reading) (e : ReadError) (front : List ℤ) (count i : ℕ) (c : Cursor) (total : Reading) → i < count → item c ≡ Err e
    → with_front front (flat_at item (count - i) c) ≡ total → total ≡ Err e
unfolding times_at
flat_stops item e front count i c total lt h so_far =
    let k : count - i ≡ suc (count - (i + 1)) = omega arith in
    let one : with_front front (flat_at item (count - i) c) ≡ Err e = rw (k, h) refl in
    sym so_far ∙ one

pub flat_ends : (item : Cursor → Reading) (e : ReadError) (front : List ℤ) (count i : ℕ) (c : Cursor) (total : Reading) → i < count → Fails e (item c)
    → with_front front (flat_at item (count - i) c) ≡ total → Fails e total
flat_ends item OutOfMemory front count i c total lt h so_far = tt
flat_ends item (Malformed why) front count i c total lt h so_far = flat_stops item (Malformed why) front count i c total lt h so_far
flat_ends item (Unsupported form) front count i c total lt h so_far = flat_stops item (Unsupported form) front count i c total lt h so_far

pub flat_done : (item : Cursor → Reading) (front : List ℤ) (count i : ℕ) (c : Cursor) (total : Reading) → count ≤ i → with_front front (flat_at item (count - i) c) ≡ total → total ≡ Ok (front, c)
unfolding times_at
flat_done item front count i c total le so_far =
    let k : count - i ≡ 0 = omega arith in
    let one : with_front front (flat_at item (count - i) c) ≡ Ok (front, c) = rw k (ap (λ (zs : List ℤ). Ok (zs, c)) (append-nil front)) in
    sym so_far ∙ one

-- ---- immediates one after the other

abbrev both : {A B : Type 0} → A → Result (B × Cursor) ReadError → Result ((A × B) × Cursor) ReadError
both x read = read >>= λ q. Ok ((x, q.0), q.1)

abbrev seen : {A B : Type 0} → (A → B) → Result (A × Cursor) ReadError → Result (B × Cursor) ReadError
seen f read = read >>= λ p. Ok (f p.0, p.1)

join_cons : (xs : List ℤ) (read : Reading) → seen joined (both xs read) ≡ behind xs read
join_cons xs (Ok q) = refl
join_cons xs (Err e) = refl

pub all_go_on : (is : List Immediate) (k : ℕ) (i : Immediate) (front xs : List ℤ) (c after : Cursor) (total : Reading) → drop k is ≡ i ∷ drop (k + 1) is → immediate_at i c ≡ Ok (xs, after)
    → with_front front (immediates_at (drop k is) c) ≡ total → with_front (front ++ xs) (immediates_at (drop (k + 1) is) after) ≡ total
unfolding immediates_at
all_go_on is k i front xs c after total d h so_far =
    let one : with_front front (immediates_at (drop k is) c) ≡ with_front (front ++ xs) (immediates_at (drop (k + 1) is) after) =
    rw (d, h, join_cons xs (immediates_at (drop (k + 1) is) after)) (joins front xs (immediates_at (drop (k + 1) is) after)) in
    sym one ∙ so_far

all_stop : (is : List Immediate) (k : ℕ) (i : Immediate) (e : ReadError) (front : List ℤ) (c : Cursor) (total : Reading) → drop k is ≡ i ∷ drop (k + 1) is → immediate_at i c ≡ Err e
    → with_front front (immediates_at (drop k is) c) ≡ total → total ≡ Err e
unfolding immediates_at
all_stop is k i e front c total d h so_far =
    let one : with_front front (immediates_at (drop k is) c) ≡ Err e = rw (d, h) refl in
    sym so_far ∙ one

pub all_end : (is : List Immediate) (k : ℕ) (i : Immediate) (e : ReadError) (front : List ℤ) (c : Cursor) (total : Reading) → drop k is ≡ i ∷ drop (k + 1) is → Fails e (immediate_at i c)
    → with_front front (immediates_at (drop k is) c) ≡ total → Fails e total
all_end is k i OutOfMemory front c total d h so_far = tt
all_end is k i (Malformed why) front c total d h so_far = all_stop is k i (Malformed why) front c total d h so_far
all_end is k i (Unsupported form) front c total d h so_far = all_stop is k i (Unsupported form) front c total d h so_far

pub all_done : (is : List Immediate) (k : ℕ) (front : List ℤ) (c : Cursor) (total : Reading) → drop k is ≡ [] → with_front front (immediates_at (drop k is) c) ≡ total → total ≡ Ok (front, c)
unfolding immediates_at
all_done is k front c total d so_far =
    let one : with_front front (immediates_at (drop k is) c) ≡ Ok (front, c) = rw d (ap (λ (zs : List ℤ). Ok (zs, c)) (append-nil front)) in
    sym so_far ∙ one

-- ---- one immediate

pub one_is : (s : Single) (front : List ℤ) (c to : Cursor) (z : ℤ) → single_at s c ≡ Ok (z, to) → with_front front (immediate_at (One s) c) ≡ Ok (front ++ z ∷ [], to)
unfolding immediate_at
one_is s front c to z e = rw e refl

pub one_fails : (s : Single) (e : ReadError) (front : List ℤ) (c : Cursor) → Fails e (single_at s c) → Fails e (with_front front (immediate_at (One s) c))
unfolding immediate_at
one_fails s e front c h = fails_front e front (map_at (λ z. z ∷ []) (single_at s) c) (fails_bind e (single_at s c) (λ (p : ℤ × Cursor). Ok (p.0 ∷ [], p.1)) h)

abbrev led : ℤ → Reading → Reading
led z read = read >>= λ q. Ok (z ∷ q.0, q.1)

counted_is : (n : ℕ) (read : Reading) → seen counted (both n read) ≡ led (pos n) read
counted_is n (Ok q) = refl
counted_is n (Err e) = refl

-- the count is read, and the values after it are read so
pub list_is : (s : Single) (front : List ℤ) (c mid : Cursor) (n : ℕ) → number_at c ≡ Ok (n, mid) → with_front (front ++ pos n ∷ []) (times_at (single_at s) n mid) ≡ with_front front (immediate_at (ListOf s) c)
unfolding immediate_at
list_is s front c mid n e = rw (e, counted_is n (times_at (single_at s) n mid)) (sym (regroup front (pos n) (times_at (single_at s) n mid)))

pub list_fails : (s : Single) (e : ReadError) (front : List ℤ) (c : Cursor) → Fails e (number_at c) → Fails e (with_front front (immediate_at (ListOf s) c))
unfolding immediate_at
list_fails s e front c h =
    fails_front e front (map_at counted (then_at number_at (times_at (single_at s))) c)
    (fails_bind e (then_at number_at (times_at (single_at s)) c) (λ (p : (ℕ × List ℤ) × Cursor). Ok (counted p.0, p.1)) (fails_bind e (number_at c) (λ (p : ℕ × Cursor). times_at (single_at s) p.0 p.1 >>= λ q. Ok ((p.0, q.0), q.1)) h))

pub catch_is : (front : List ℤ) (c mid : Cursor) (k : ℕ) → catch_kind_at c ≡ Ok (k, mid) → with_front (front ++ pos k ∷ []) (times_at (single_at Number) (catch_numbers k) mid) ≡ with_front front (catch_at c)
unfolding catch_at
catch_is front c mid k e = rw (e, counted_is k (times_at (single_at Number) (catch_numbers k) mid)) (sym (regroup front (pos k) (times_at (single_at Number) (catch_numbers k) mid)))

pub catch_fails : (e : ReadError) (front : List ℤ) (c : Cursor) → Fails e (catch_kind_at c) → Fails e (with_front front (catch_at c))
unfolding catch_at
catch_fails e front c h =
    fails_front e front (map_at counted (then_at catch_kind_at (λ k. times_at (single_at Number) (catch_numbers k))) c)
    (fails_bind e (then_at catch_kind_at (λ k. times_at (single_at Number) (catch_numbers k)) c) (λ (p : (ℕ × List ℤ) × Cursor). Ok (counted p.0, p.1)) (fails_bind e (catch_kind_at c) (λ (p : ℕ × Cursor). times_at (single_at Number) (catch_numbers p.0) p.1 >>= λ q. Ok ((p.0, q.0), q.1)) h))

counted_lists_is : (n : ℕ) (read : Lists) → seen counted_lists (both n read) ≡ led (pos n) (flat read)
counted_lists_is n (Ok q) = refl
counted_lists_is n (Err e) = refl

pub catches_is : (front : List ℤ) (c mid : Cursor) (n : ℕ) → number_at c ≡ Ok (n, mid) → with_front (front ++ pos n ∷ []) (flat_at catch_at n mid) ≡ with_front front (immediate_at Catches c)
unfolding immediate_at
catches_is front c mid n e = rw (e, counted_lists_is n (times_at catch_at n mid)) (sym (regroup front (pos n) (flat_at catch_at n mid)))

pub catches_fail : (e : ReadError) (front : List ℤ) (c : Cursor) → Fails e (number_at c) → Fails e (with_front front (immediate_at Catches c))
unfolding immediate_at
catches_fail e front c h =
    fails_front e front (map_at counted_lists (then_at number_at (times_at catch_at)) c)
    (fails_bind e (then_at number_at (times_at catch_at) c) (λ (p : (ℕ × List (List ℤ)) × Cursor). Ok (counted_lists p.0, p.1)) (fails_bind e (number_at c) (λ (p : ℕ × Cursor). times_at catch_at p.0 p.1 >>= λ q. Ok ((p.0, q.0), q.1)) h))
