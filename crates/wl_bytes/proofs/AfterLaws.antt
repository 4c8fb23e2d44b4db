-- So many items, each under what came before it, are read as the items are.
use Rattle.std.proofs.Common.{◌≡◌, ◌⊎◌, ℕ, zero, suc, ◌<◌, List, [], ◌∷◌, length, Result, Ok, Err, refl, sym, ap, subst, arith, inl, inr}
use Rattle.wl_bytes.specs.Cursor.{Cursor}
use Rattle.wl_bytes.specs.Parse.{Takes}
use Rattle.wl_bytes.specs.Leb.{IsU32}
use Rattle.wl_bytes.proofs.Readings.{IsReading}
use Rattle.wl_bytes.proofs.GrammarLaws.{map_reading}
use Rattle.wl_bytes.specs.declared.read_error.ReadError.{ReadError}
use Rattle.wl_bytes.specs.Chains.{Turns, Chain, after, times_after_at, ListedAfter, ListedAfterFault, list_after_at, Once, may_come, once_in_turn, ListedOnce, ListedOnceFault, once_at, list_once_at}
use Rattle.wl_bytes.specs.Checks.{WhereFault, unless}
use Rattle.wl_bytes.proofs.ReadingLaws.{respelled, either, reading_by, both}
use Rattle.wl_bytes.proofs.ListLaws.{number_reading}
use Rattle.wl_bytes.proofs.CheckLaws.{where_reading}
use Rattle.wl_bytes.proofs.ChainLaws.{first_of, cons_chain, no_items, chain_begins}

-- each item under its state is read
abbrev pub EachRead : {S X E : Type 0} → (S → ℕ → X → List ℕ → Type 0) → (S → E → Cursor → Type 0) → (S → Cursor → Result (X × Cursor) E) → Type 0
EachRead {S} item wrong read = (s : S) → IsReading (item s) (wrong s) (read s)

-- so many of them
abbrev TimesAfter : {S X : Type 0} → Turns S X → S → ℕ → ℕ → List X → List ℕ → Type 0
TimesAfter turns s n place xs text = (length xs ≡ n) × Chain turns s place xs text

-- fewer stand there, and then comes one at fault
abbrev TimesAfterFault : {S X E : Type 0} → Turns S X → (S → E → Cursor → Type 0) → S → ℕ → E → Cursor → Type 0
TimesAfterFault {S} {X} turns wrong s n e from =
    (xs : List X) × (mid : Cursor) × (length xs < n) × Takes (Chain turns s) xs from mid × wrong (after turns.next s xs) e mid

times_again : {S X E : Type 0} (turns : Turns S X) (wrong : S → E → Cursor → Type 0) (read : S → Cursor → Result (X × Cursor) E) → EachRead turns.item wrong read
    → (xs : List X) (s : S) (c to : Cursor) → Takes (Chain turns s) xs c to → times_after_at read turns.next (length xs) s c ≡ Ok (xs, to)
unfolding times_after_at
times_again turns wrong read law [] s c to t = ap (λ (d : Cursor). Ok ([], d)) (no_items turns s c to t)
times_again turns wrong read law (x ∷ xs) s c to t =
    let f = first_of turns s x xs c to t in
    rw ((law s).again c x f.0 f.1, times_again turns wrong read law xs (turns.next s x) f.0 to f.2) refl

times_fails : {S X E : Type 0} (turns : Turns S X) (wrong : S → E → Cursor → Type 0) (read : S → Cursor → Result (X × Cursor) E) → EachRead turns.item wrong read
    → (n : ℕ) (s : S) (xs : List X) (c mid : Cursor) (e : E) → length xs < n → Takes (Chain turns s) xs c mid → wrong (after turns.next s xs) e mid → times_after_at read turns.next n s c ≡ Err e
unfolding times_after_at
times_fails turns wrong read law zero s xs c mid e lt t w = absurd (omega arith)
times_fails turns wrong read law (suc n) s [] c mid e lt t w =
    let w' = subst (wrong s e) (sym (no_items turns s c mid t)) w in
    rw ((law s).fails c e w') refl
times_fails turns wrong read law (suc n) s (x ∷ xs) c mid e lt t w =
    let f = first_of turns s x xs c mid t in
    rw ((law s).again c x f.0 f.1, times_fails turns wrong read law n (turns.next s x) xs f.0 mid e (omega arith) f.2 w) refl

times_stand : {S X E : Type 0} (turns : Turns S X) (wrong : S → E → Cursor → Type 0) (read : S → Cursor → Result (X × Cursor) E) → EachRead turns.item wrong read
    → (n : ℕ) (s : S) (c : Cursor) → ((xs : List X) × (to : Cursor) × (length xs ≡ n) × Takes (Chain turns s) xs c to) ⊎ ((e : E) × TimesAfterFault turns wrong s n e c)
times_stand turns wrong read law zero s c = inl ([], c, refl, chain_begins turns s c)
times_stand turns wrong read law (suc n) s c = elim (either (law s) c) [
  | inr f ↦ inr (f.0, ([], c, omega arith, chain_begins turns s c, f.1))
  | inl t ↦ elim (times_stand turns wrong read law n (turns.next s t.0) t.1) [
    | inl r ↦ inl (t.0 ∷ r.0, r.1, ap suc r.2, cons_chain turns s t.0 r.0 c t.1 r.1 t.2 r.3)
    | inr f ↦ inr (f.0, (t.0 ∷ f.1.0, f.1.1, omega (arith, f.1.2), cons_chain turns s t.0 f.1.0 c t.1 f.1.1 t.2 f.1.3, f.1.4))
  ]
]

times_after_reading : {S X E : Type 0} (turns : Turns S X) (wrong : S → E → Cursor → Type 0) (read : S → Cursor → Result (X × Cursor) E) → EachRead turns.item wrong read
    → (s : S) (n : ℕ) → IsReading (TimesAfter turns s n) (TimesAfterFault turns wrong s n) (times_after_at read turns.next n s)
times_after_reading turns wrong read law s n = reading_by (TimesAfter turns s n) (TimesAfterFault turns wrong s n) (times_after_at read turns.next n s)
    (λ c xs to t. rw (← t.spelled.0) (times_again turns wrong read law xs s c to (respelled t t.spelled.1)))
    (λ c e f. times_fails turns wrong read law n s f.0 c f.1 e f.2 f.3 f.4)
    (λ c. elim (times_stand turns wrong read law n s c) [ inl t ↦ inl (t.0, t.1, respelled t.3 (t.2, t.3.spelled)) | inr f ↦ inr f ])

pub list_after_reading : {S X : Type 0} (turns : Turns S X) (wrong : S → ReadError → Cursor → Type 0) (read : S → Cursor → Result (X × Cursor) ReadError) → EachRead turns.item wrong read
    → (s : S) → IsReading (ListedAfter turns s) (ListedAfterFault turns wrong s) (list_after_at read turns.next s)
list_after_reading turns wrong read law s = map_reading _ (ListedAfter turns s) (ListedAfterFault turns wrong s) _ (λ p. p.1) (λ xs. (length xs, xs))
    (λ place p text t. (t.0, t.1, t.2, subst (λ (n : ℕ). IsU32 place n t.0) (sym t.4.0) t.3, t.4.1))
    (λ place xs text t. ((t.0, t.1, t.2, t.3, (refl, t.4)), refl))
    (both number_reading (times_after_reading turns wrong read law s))

pub list_once_reading : {X : Type 0} {item : ℕ → X → List ℕ → Type 0} {wrong : ReadError → Cursor → Type 0} {read : Cursor → Result (X × Cursor) ReadError} (once : Once X) → IsReading item wrong read
    → IsReading (ListedOnce item once) (ListedOnceFault item wrong once) (list_once_at read once)
list_once_reading {X} {item} {wrong} {read} once law = list_after_reading (once_in_turn item once) (λ seen. WhereFault item wrong (unless (may_come once.sort seen) once.many)) (once_at read once.sort once.many)
    (λ seen. where_reading item wrong read (may_come once.sort seen) once.many law) once.seen
