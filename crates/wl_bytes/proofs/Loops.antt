-- Reading items one after the other, as a loop does.
use Rattle.std.proofs.Common.{◌≡◌, ℕ, zero, suc, ◌-◌, ◌+◌, ◌≤◌, ◌<◌, List, [], ◌∷◌, ◌++◌, Result, Ok, Err, refl, sym, ap, subst, ◌∙◌, append_assoc, arith}
use Rattle.std.proofs.lemmas.List.{append-nil}
use Rattle.wl_bytes.specs.Cursor.{Cursor}
use Rattle.wl_bytes.specs.Parse.{◌>>=◌}
use Rattle.wl_bytes.specs.Grammar.{times_at}
use Rattle.wl_bytes.specs.declared.read_error.ReadError.{ReadError}
use Rattle.wl_bytes.specs.declared.read_error.ReadError.TheVariants.{OutOfMemory, Malformed, Unsupported}
use Rattle.wl_bytes.specs.Outcome.{Fails}
use Rattle.wl_bytes.specs.Chains.{times_after_at, list_after_at}
use Rattle.wl_bytes.specs.Lists.{number_at, list_at}

-- what was read before, and what is still read
abbrev pub with_front : {X : Type 0} → List X → Result (List X × Cursor) ReadError → Result (List X × Cursor) ReadError
with_front front read = read >>= λ x. Ok (front ++ x.0, x.1)

regroup : {X : Type 0} (front : List X) (n : X) (read : Result (List X × Cursor) ReadError) → with_front front (read >>= λ x. Ok (n ∷ x.0, x.1)) ≡ with_front (front ++ n ∷ []) read
regroup {X} front n (Ok x) = ap (λ (ns : List X). Ok (ns, x.1)) (simp append_assoc)
regroup front n (Err f) = refl

-- nothing was read before
pub begins : {X : Type 0} (read : Result (List X × Cursor) ReadError) → with_front [] read ≡ read
begins (Ok x) = refl
begins (Err e) = refl

-- what comes after a failed step isn't reached
pub fails_bind : {A B : Type 0} (e : ReadError) (r : Result A ReadError) (f : A → Result B ReadError) → Fails e r → Fails e (r >>= f)
fails_bind OutOfMemory r f h = tt
fails_bind (Malformed why) r f h = rw h refl
fails_bind (Unsupported form) r f h = rw h refl

-- one more item is read
pub goes_on_after : {S X : Type 0} (item : S → Cursor → Result (X × Cursor) ReadError) (next : S → X → S) (s : S) (front : List X) (count i : ℕ) (c : Cursor) (x : X) (behind : Cursor) (total : Result (List X × Cursor) ReadError) → i < count → item s c ≡ Ok (x, behind)
    → with_front front (times_after_at item next (count - i) s c) ≡ total → with_front (front ++ x ∷ []) (times_after_at item next (count - (i + 1)) (next s x) behind) ≡ total
unfolding times_after_at
goes_on_after item next s front count i c x behind total lt h so_far =
    let k : count - i ≡ suc (count - (i + 1)) = omega arith in
    let one : with_front front (times_after_at item next (count - i) s c) ≡ with_front (front ++ x ∷ []) (times_after_at item next (count - (i + 1)) (next s x) behind) = rw (k, h) (regroup front x (times_after_at item next (count - (i + 1)) (next s x) behind)) in
    sym one ∙ so_far

-- the next item is at fault
pub ends_after : {S X : Type 0} (item : S → Cursor → Result (X × Cursor) ReadError) (next : S → X → S) (s : S) (e : ReadError) (front : List X) (count i : ℕ) (c : Cursor) (total : Result (List X × Cursor) ReadError) → i < count → Fails e (item s c)
    → with_front front (times_after_at item next (count - i) s c) ≡ total → Fails e total
unfolding times_after_at
ends_after {S} {X} item next s e front count i c total lt h so_far =
    let k : count - i ≡ suc (count - (i + 1)) = omega arith in
    let rest = λ (p : X × Cursor). times_after_at item next (count - (i + 1)) (next s p.0) p.1 >>= λ q. Ok (p.0 ∷ q.0, q.1) in
    subst (Fails e) so_far (rw k (fails_bind e (item s c >>= rest) (λ (q : List X × Cursor). Ok (front ++ q.0, q.1)) (fails_bind e (item s c) rest h)))

-- all items are read
pub is_done_after : {S X : Type 0} (item : S → Cursor → Result (X × Cursor) ReadError) (next : S → X → S) (s : S) (front : List X) (count i : ℕ) (c : Cursor) (total : Result (List X × Cursor) ReadError) → count ≤ i → with_front front (times_after_at item next (count - i) s c) ≡ total → total ≡ Ok (front, c)
unfolding times_after_at
is_done_after {S} {X} item next s front count i c total le so_far =
    let k : count - i ≡ 0 = omega arith in
    let one : with_front front (times_after_at item next (count - i) s c) ≡ Ok (front, c) = rw k (ap (λ (ns : List X). Ok (ns, c)) (append-nil front)) in
    sym so_far ∙ one

-- ---- items under what is the same for all

bind_same : {A B E : Type 0} (r : Result A E) (f g : A → Result B E) → ((x : A) → f x ≡ g x) → (r >>= f) ≡ (r >>= g)
bind_same (Ok x) f g h = h x
bind_same (Err e) f g h = refl

times_kept : {S X : Type 0} (item : S → Cursor → Result (X × Cursor) ReadError) (s : S) (n : ℕ) (c : Cursor) → times_after_at item (λ s _. s) n s c ≡ times_at (item s) n c
unfolding times_after_at times_at
times_kept item s zero c = refl
times_kept item s (suc n) c = bind_same (item s c) _ _ (λ p. rw (times_kept item s n p.1) refl)

-- they are read one like the other
pub list_kept : {S X : Type 0} (item : S → Cursor → Result (X × Cursor) ReadError) (s : S) (c : Cursor) → list_after_at item (λ s _. s) s c ≡ list_at (item s) c
list_kept {S} {X} item s c = ap (λ (r : Result ((ℕ × List X) × Cursor) ReadError). r >>= λ p. Ok (p.0.1, p.1)) (bind_same (number_at c) _ _ (λ p. rw (times_kept item s p.0 p.1) refl))
