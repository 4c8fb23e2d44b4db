-- Items to the end of the bytes are read as the items are.
use Rattle.std.proofs.Common.{◌≡◌, ◌≢◌, ℕ, zero, suc, ◌+◌, ◌<◌, true, false, eqb, List, [], ◌∷◌, ◌++◌, length, Result, Ok, Err, refl, sym, ap, subst, arith, inl, inr, length-append}
use Rattle.std.proofs.lemmas.Bool.{eqb-true, ne_eqb}
use Rattle.std.proofs.lemmas.List.{append-nil, nil_from_length}
use Rattle.wl_bytes.specs.Cursor.{Cursor}
use Rattle.wl_bytes.specs.Parse.{Takes, ◌>>=◌}
use Rattle.wl_bytes.specs.Grammar.{Items}
use Rattle.wl_bytes.proofs.Steps.{bind_ok, bind_err, chosen, ok_is}
use Rattle.wl_bytes.proofs.Readings.{IsReading}
use Rattle.wl_bytes.proofs.GrammarLaws.{cons_text, first_of_items, nothing_taken, take_nothing}
use Rattle.wl_bytes.proofs.ChainLaws.{some_text}
use Rattle.wl_ops.specs.Decoding.{rest_of}

-- items are read, and none is an empty text
pub record AreItems {X E : Type 0} (item : ℕ → X → List ℕ → Type 0) (wrong : E → Cursor → Type 0) (read : Cursor → Result (X × Cursor) E) : Type 0 where
  pub each : IsReading item wrong read
  pub some : (place : ℕ) (x : X) (text : List ℕ) → item place x text → text ≢ []

-- fewer bytes are left after an item
pub shortens : {X E : Type 0} (item : ℕ → X → List ℕ → Type 0) (wrong : E → Cursor → Type 0) (read : Cursor → Result (X × Cursor) E) → AreItems item wrong read
    → (x : X) (a b : Cursor) → Takes item x a b → length b.rest < length a.rest
shortens item wrong read law x a b t =
    let some : 0 < length t.text = some_text t.text (law.some a.position x t.text t.spelled) in
    omega (arith, ap length t.parts, length-append t.text b.rest)

-- one more item at the end
pub one_more : {X : Type 0} (item : ℕ → X → List ℕ → Type 0) (xs : List X) (x : X) (a b c : Cursor) → Takes (Items item) xs a b → Takes item x b c → Takes (Items item) (xs ++ x ∷ []) a c
one_more item [] x a b c t u = cons_text item x [] a c c (subst (λ (d : Cursor). Takes item x d c) (sym (nothing_taken item a b t)) u) (take_nothing item c)
one_more item (y ∷ ys) x a b c t u =
    let f = first_of_items item y ys a b t in
    cons_text item y (ys ++ x ∷ []) a f.0 c f.1 (one_more item ys x f.0 b c f.2 u)

abbrev pub taken_whole : {X : Type 0} (item : ℕ → X → List ℕ → Type 0) (xs : List X) (a : Cursor) → Items item a.position xs a.rest → Takes (Items item) xs a (record { position = a.position + length a.rest; rest = [] })
taken_whole item xs a s = record { text = a.rest; spelled = s; parts = sym (append-nil a.rest); moved = refl }

some_left : (rest : List ℕ) → rest ≢ [] → eqb (length rest) 0 ≡ false
some_left rest h = ne_eqb (length rest) 0 (λ e. h (nil_from_length rest e))

none_left : (rest : List ℕ) → rest ≡ [] → eqb (length rest) 0 ≡ true
none_left rest e = rw e refl

abbrev go : {X E : Type 0} (read : Cursor → Result (X × Cursor) E) (dry : E) (n : ℕ) → X × Cursor → Result (List X) E
go read dry n p = rest_of read dry n p.1 >>= λ xs. Ok (p.0 ∷ xs)

pub rest_found : {X E : Type 0} (item : ℕ → X → List ℕ → Type 0) (wrong : E → Cursor → Type 0) (read : Cursor → Result (X × Cursor) E) (dry : E) → AreItems item wrong read
    → (n : ℕ) (c : Cursor) (xs : List X) → rest_of read dry n c ≡ Ok xs → (to : Cursor) × Takes (Items item) xs c to × (to.rest ≡ [])
unfolding rest_of
rest_found item wrong read dry law zero c xs e = absurd cc
rest_found {X} {E} item wrong read dry law (suc n) c xs e =
    elim (chosen (eqb (length c.rest) 0) (Ok []) (read c >>= go read dry n) (Ok xs) e) [
      | inl h ↦ subst (λ (ys : List X). (to : Cursor) × Takes (Items item) ys c to × (to.rest ≡ [])) (ok_is {E = E} [] xs h.1) (c, take_nothing item c, nil_from_length c.rest (eqb-true (length c.rest) 0 h.0))
      | inr h ↦
          let a = bind_ok (read c) (go read dry n) xs h.1 in
          let b = bind_ok (rest_of read dry n a.0.1) (λ (ys : List X). Ok (a.0.0 ∷ ys)) xs a.2 in
          let more = rest_found item wrong read dry law n a.0.1 b.0 b.1 in
          let t = cons_text item a.0.0 b.0 c a.0.1 more.0 (law.each.found c a.0.0 a.0.1 a.1) more.1 in
          subst (λ (ys : List X). (to : Cursor) × Takes (Items item) ys c to × (to.rest ≡ [])) {x = a.0.0 ∷ b.0} (ok_is {E = E} (a.0.0 ∷ b.0) xs b.2) (more.0, t, more.2)
    ]

pub rest_again : {X E : Type 0} (item : ℕ → X → List ℕ → Type 0) (wrong : E → Cursor → Type 0) (read : Cursor → Result (X × Cursor) E) (dry : E) → AreItems item wrong read
    → (xs : List X) (n : ℕ) (a b : Cursor) → length a.rest < n → Takes (Items item) xs a b → b.rest ≡ [] → rest_of read dry n a ≡ Ok xs
unfolding rest_of
rest_again item wrong read dry law xs zero a b lt t none = absurd (omega arith)
rest_again item wrong read dry law [] (suc n) a b lt t none =
    let empty : a.rest ≡ [] = rw (nothing_taken item a b t) none in
    rw (none_left a.rest empty) refl
rest_again item wrong read dry law (x ∷ xs) (suc n) a b lt t none =
    let f = first_of_items item x xs a b t in
    let less = shortens item wrong read law x a f.0 f.1 in
    let some : eqb (length a.rest) 0 ≡ false = ne_eqb (length a.rest) 0 (λ e. absurd (omega (arith, e, less))) in
    rw (some, law.each.again a x f.0 f.1, rest_again item wrong read dry law xs n f.0 b (omega arith) f.2 none) refl

pub rest_fault : {X E : Type 0} (item : ℕ → X → List ℕ → Type 0) (wrong : E → Cursor → Type 0) (read : Cursor → Result (X × Cursor) E) (dry : E) → AreItems item wrong read
    → (n : ℕ) (c : Cursor) (e : E) → length c.rest < n → rest_of read dry n c ≡ Err e → (xs : List X) × (mid : Cursor) × Takes (Items item) xs c mid × (mid.rest ≢ []) × wrong e mid
unfolding rest_of
rest_fault item wrong read dry law zero c e lt is = absurd (omega arith)
rest_fault {X} {E} item wrong read dry law (suc n) c e lt is =
    elim (chosen (eqb (length c.rest) 0) (Ok []) (read c >>= go read dry n) (Err e) is) [
      | inl h ↦ absurd (let no = h.1 in cc)
      | inr h ↦
          let some : c.rest ≢ [] = λ none. absurd (let yes = none_left c.rest none in let no = h.0 in cc) in
          elim (bind_err (read c) (go read dry n) e h.1) [
            | inl f ↦ ([], c, take_nothing item c, some, law.each.fault c e f)
            | inr f ↦ elim (bind_err (rest_of read dry n f.0.1) (λ (ys : List X). Ok (f.0.0 ∷ ys)) e f.2) [
              | inl g ↦
                  let t = law.each.found c f.0.0 f.0.1 f.1 in
                  let less = shortens item wrong read law f.0.0 c f.0.1 t in
                  let r = rest_fault item wrong read dry law n f.0.1 e (omega arith) g in
                  (f.0.0 ∷ r.0, r.1, cons_text item f.0.0 r.0 c f.0.1 r.1 t r.2, r.3, r.4)
              | inr g ↦ absurd (let no = g.2 in cc)
            ]
          ]
    ]

pub rest_fails : {X E : Type 0} (item : ℕ → X → List ℕ → Type 0) (wrong : E → Cursor → Type 0) (read : Cursor → Result (X × Cursor) E) (dry : E) → AreItems item wrong read
    → (xs : List X) (n : ℕ) (a b : Cursor) (e : E) → length a.rest < n → Takes (Items item) xs a b → b.rest ≢ [] → wrong e b → rest_of read dry n a ≡ Err e
unfolding rest_of
rest_fails item wrong read dry law xs zero a b e lt t some w = absurd (omega arith)
rest_fails item wrong read dry law [] (suc n) a b e lt t some w =
    let same = nothing_taken item a b t in
    let left : a.rest ≢ [] = λ none. some (rw (← same) none) in
    let w' = subst (wrong e) (sym same) w in
    rw (some_left a.rest left, law.each.fails a e w') refl
rest_fails item wrong read dry law (x ∷ xs) (suc n) a b e lt t some w =
    let f = first_of_items item x xs a b t in
    let less = shortens item wrong read law x a f.0 f.1 in
    let left : eqb (length a.rest) 0 ≡ false = ne_eqb (length a.rest) 0 (λ e. absurd (omega (arith, e, less))) in
    rw (left, law.each.again a x f.0 f.1, rest_fails item wrong read dry law xs n f.0 b e (omega arith) f.2 some w) refl
