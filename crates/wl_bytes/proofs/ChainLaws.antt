-- Items to the end of the bytes: they and what ends them are determined by the bytes.
use Rattle.std.proofs.Common.{◌≡◌, ◌≢◌, ℕ, zero, suc, ◌+◌, ◌<◌, ◌≤◌, List, [], ◌∷◌, ◌++◌, length, Option, Some, None, Result, refl, sym, ap, subst, ◌∙◌, arith, inl, inr, length-append}
use Rattle.std.proofs.lemmas.List.{nil_from_length}
use Rattle.wl_bytes.specs.Cursor.{Cursor}
use Rattle.wl_bytes.specs.Parse.{Takes}
use Rattle.wl_bytes.specs.Grammar.{Items}
use Rattle.wl_bytes.proofs.Steps.{ok_is, err_is}
use Rattle.wl_bytes.proofs.Readings.{IsReading}
use Rattle.wl_bytes.proofs.GrammarLaws.{cursor_is}
use Rattle.wl_bytes.specs.Chains.{Turns, after, Chain}
use Rattle.wl_bytes.proofs.ReadingLaws.{respelled, parted, joined, either}

nil_front : (xs ys : List ℕ) → xs ++ ys ≡ [] → xs ≡ []
nil_front [] ys e = refl
nil_front (x ∷ xs) ys e = absurd cc

-- each item under its state is read, and is no empty text
pub record AreReadings {S X E : Type 0} (item : S → ℕ → X → List ℕ → Type 0) (wrong : S → E → Cursor → Type 0) (read : S → Cursor → Result (X × Cursor) E) : Type 0 where
  pub each : (s : S) → IsReading (item s) (wrong s) (read s)
  pub some : (s : S) (place : ℕ) (x : X) (text : List ℕ) → item s place x text → text ≢ []

pub some_text : (xs : List ℕ) → xs ≢ [] → 0 < length xs
some_text [] h = absurd (h refl)
some_text (x ∷ xs) h = omega arith

-- fewer bytes are left after an item
pub item_shortens : {S X E : Type 0} (item : S → ℕ → X → List ℕ → Type 0) (wrong : S → E → Cursor → Type 0) (read : S → Cursor → Result (X × Cursor) E) → AreReadings item wrong read
    → (s : S) (x : X) (a b : Cursor) → Takes (item s) x a b → length b.rest < length a.rest
item_shortens item wrong read law s x a b t =
    let some : 0 < length t.text = some_text t.text (law.some s a.position x t.text t.spelled) in
    omega (arith, ap length t.parts, length-append t.text b.rest)

-- items under nothing in turn
abbrev pub kept : {X : Type 0} → (ℕ → X → List ℕ → Type 0) → Turns (Unit {0}) X
kept item = record { item = λ _. item; next = λ u _. u }

-- items under nothing are a chain
pub as_chain : {X : Type 0} (item : ℕ → X → List ℕ → Type 0) (place : ℕ) (xs : List X) (text : List ℕ) → Items item place xs text → Chain (kept item) tt place xs text
as_chain item place [] text s = s
as_chain item place (x ∷ xs) text s = (s.0, s.1, s.2, s.3, as_chain item (place + length s.0) xs s.1 s.4)

pub first_of : {S X : Type 0} (turns : Turns S X) (s : S) (x : X) (xs : List X) (a c : Cursor) → Takes (Chain turns s) (x ∷ xs) a c → (b : Cursor) × Takes (turns.item s) x a b × Takes (Chain turns (turns.next s x)) xs b c
first_of turns s x xs a c t = parted (turns.item s) (Chain turns (turns.next s x)) x xs (x ∷ xs) a c t t.spelled

pub cons_chain : {S X : Type 0} (turns : Turns S X) (s : S) (x : X) (xs : List X) (a b c : Cursor) → Takes (turns.item s) x a b → Takes (Chain turns (turns.next s x)) xs b c → Takes (Chain turns s) (x ∷ xs) a c
cons_chain turns s x xs a b c t u = let v = joined (turns.item s) (Chain turns (turns.next s x)) x xs a b c t u in respelled v v.spelled

pub no_items : {S X : Type 0} (turns : Turns S X) (s : S) (a c : Cursor) → Takes (Chain turns s) [] a c → a ≡ c
no_items turns s a c t = cursor_is a c (omega (arith, t.moved, ap length t.spelled)) (t.parts ∙ ap (λ (r : List ℕ). r ++ c.rest) t.spelled)

pub chain_begins : {S X : Type 0} (turns : Turns S X) (s : S) (a : Cursor) → Takes (Chain turns s) [] a a
chain_begins turns s a = record { text = []; spelled = refl; parts = refl; moved = omega arith }

-- one more at the end
pub chain_goes_on : {S X : Type 0} (turns : Turns S X) (s : S) (xs : List X) (x : X) (a b c : Cursor) → Takes (Chain turns s) xs a b → Takes (turns.item (after turns.next s xs)) x b c → Takes (Chain turns s) (xs ++ x ∷ []) a c
chain_goes_on turns s [] x a b c t u = cons_chain turns s x [] a c c (subst (λ (d : Cursor). Takes (turns.item s) x d c) (sym (no_items turns s a b t)) u) (chain_begins turns (turns.next s x) c)
chain_goes_on turns s (y ∷ ys) x a b c t u =
    let f = first_of turns s y ys a b t in
    cons_chain turns s y (ys ++ x ∷ []) a f.0 c f.1 (chain_goes_on turns (turns.next s y) ys x f.0 b c f.2 u)

pub after-push : {S X : Type 0} (next : S → X → S) (s : S) (xs : List X) (x : X) → after next s (xs ++ x ∷ []) ≡ next (after next s xs) x
after-push next s [] x = refl
after-push next s (y ∷ ys) x = after-push next (next s y) ys x

-- what ends them: nothing is left, or a fault
abbrev pub Stops : {S E : Type 0} → (S → E → Cursor → Type 0) → S → Cursor → Option E → Type 0
Stops wrong s c None = c.rest ≡ []
Stops wrong s c (Some e) = (c.rest ≢ []) × wrong s e c

-- an item that stands there is neither the end nor a fault
item_or_stop : {S X E : Type 0} (item : S → ℕ → X → List ℕ → Type 0) (wrong : S → E → Cursor → Type 0) (read : S → Cursor → Result (X × Cursor) E) → AreReadings item wrong read
    → (s : S) (x : X) (a b : Cursor) (o : Option E) {P : Type 0} → Takes (item s) x a b → Stops wrong s a o → P
item_or_stop item wrong read law s x a b None t stop = absurd (law.some s a.position x t.text t.spelled (nil_front t.text b.rest (sym t.parts ∙ stop)))
item_or_stop item wrong read law s x a b (Some e) t stop = absurd (let i = (law.each s).again a x b t in let f = (law.each s).fails a e stop.1 in cc)

stops_agree : {S X E : Type 0} (item : S → ℕ → X → List ℕ → Type 0) (wrong : S → E → Cursor → Type 0) (read : S → Cursor → Result (X × Cursor) E) → AreReadings item wrong read
    → (s : S) (a : Cursor) (o o' : Option E) → Stops wrong s a o → Stops wrong s a o' → o ≡ o'
stops_agree item wrong read law s a None None p q = refl
stops_agree item wrong read law s a None (Some e) p q = absurd (q.0 p)
stops_agree item wrong read law s a (Some e) None p q = absurd (p.0 q)
stops_agree {S} {X} {E} item wrong read law s a (Some e) (Some d) p q =
    ap (λ (e : E). Some e) (err_is {A = X × Cursor} e d (sym ((law.each s).fails a e p.1) ∙ (law.each s).fails a d q.1))

pub chains_agree : {S X E : Type 0} (turns : Turns S X) (wrong : S → E → Cursor → Type 0) (read : S → Cursor → Result (X × Cursor) E) → AreReadings turns.item wrong read
    → (s : S) (xs ys : List X) (a b c : Cursor) (o o' : Option E) → Takes (Chain turns s) xs a b → Stops wrong (after turns.next s xs) b o → Takes (Chain turns s) ys a c → Stops wrong (after turns.next s ys) c o' → (xs ≡ ys) × (o ≡ o')
chains_agree turns wrong read law s [] [] a b c o o' t p u q =
    (refl, stops_agree turns.item wrong read law s a o o' (subst (λ (d : Cursor). Stops wrong s d o) (sym (no_items turns s a b t)) p) (subst (λ (d : Cursor). Stops wrong s d o') (sym (no_items turns s a c u)) q))
chains_agree turns wrong read law s [] (y ∷ ys) a b c o o' t p u q =
    let f = first_of turns s y ys a c u in
    item_or_stop turns.item wrong read law s y a f.0 o f.1 (subst (λ (d : Cursor). Stops wrong s d o) (sym (no_items turns s a b t)) p)
chains_agree turns wrong read law s (x ∷ xs) [] a b c o o' t p u q =
    let f = first_of turns s x xs a b t in
    item_or_stop turns.item wrong read law s x a f.0 o' f.1 (subst (λ (d : Cursor). Stops wrong s d o') (sym (no_items turns s a c u)) q)
chains_agree {S} {X} {E} turns wrong read law s (x ∷ xs) (y ∷ ys) a b c o o' t p u q =
    let f = first_of turns s x xs a b t in
    let g = first_of turns s y ys a c u in
    let same = ok_is {E = E} (y, g.0) (x, f.0) (sym ((law.each s).again a y g.0 g.1) ∙ (law.each s).again a x f.0 f.1) in
    let rest = subst (λ (r : X × Cursor). Takes (Chain turns (turns.next s r.0)) ys r.1 c) same g.2 in
    let stop = subst (λ (r : X × Cursor). Stops wrong (after turns.next (turns.next s r.0) ys) c o') same q in
    let both = chains_agree turns wrong read law (turns.next s x) xs ys f.0 b c o o' f.2 p rest stop in
    (ap (λ (z : X). z ∷ xs) (ap (λ (r : X × Cursor). r.0) (sym same)) ∙ ap (λ (zs : List X). y ∷ zs) both.0, both.1)

-- items stand there until nothing is left or one is at fault; n bounds how many bytes are left
pub chain_stops : {S X E : Type 0} (turns : Turns S X) (wrong : S → E → Cursor → Type 0) (read : S → Cursor → Result (X × Cursor) E) → AreReadings turns.item wrong read
    → (n : ℕ) (s : S) (a : Cursor) → length a.rest ≤ n → (xs : List X) × (b : Cursor) × (o : Option E) × Takes (Chain turns s) xs a b × Stops wrong (after turns.next s xs) b o
chain_stops turns wrong read law zero s a le = ([], a, None, chain_begins turns s a, nil_from_length a.rest (omega (arith, le)))
chain_stops {S} {X} {E} turns wrong read law (suc n) s a le = by_rest (λ s a le. chain_stops turns wrong read law n s a le) a.rest refl
  where
    by_rest : ((s : S) (a : Cursor) → length a.rest ≤ n → (xs : List X) × (b : Cursor) × (o : Option E) × Takes (Chain turns s) xs a b × Stops wrong (after turns.next s xs) b o)
        → (rest : List ℕ) → a.rest ≡ rest → (xs : List X) × (b : Cursor) × (o : Option E) × Takes (Chain turns s) xs a b × Stops wrong (after turns.next s xs) b o
    by_rest further [] none = ([], a, None, chain_begins turns s a, none)
    by_rest further (y ∷ ys) some = elim (either (law.each s) a) [
      | inr f ↦ ([], a, Some f.0, chain_begins turns s a, (λ none. absurd (let both = sym some ∙ none in cc), f.1))
      | inl t ↦
          let more = further (turns.next s t.0) t.1 (omega (arith, le, item_shortens turns.item wrong read law s t.0 a t.1 t.2)) in
          (t.0 ∷ more.0, more.1, more.2, cons_chain turns s t.0 more.0 a t.1 more.1 t.2 more.3, more.4)
    ]
