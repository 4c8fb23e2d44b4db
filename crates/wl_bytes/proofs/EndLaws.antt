-- Items up to what ends them are read as the steps are.
use Rattle.std.proofs.Common.{◌≡◌, ◌≢◌, ℕ, zero, suc, ◌<◌, List, [], ◌∷◌, length, Option, Some, None, Result, Ok, Err, refl, sym, ap, subst, arith, inl, inr, length-append}
use Rattle.wl_bytes.specs.Cursor.{Cursor}
use Rattle.wl_bytes.specs.Parse.{Takes}
use Rattle.wl_bytes.specs.Grammar.{Items}
use Rattle.wl_bytes.proofs.Readings.{IsReading}
use Rattle.wl_bytes.proofs.GrammarLaws.{cons_text, first_of_items, nothing_taken, take_nothing}
use Rattle.wl_bytes.specs.Ends.{ItemOf, Ended, EndedFault, steps_at, ended_at}
use Rattle.wl_bytes.proofs.ReadingLaws.{respelled, parted, joined, Stands, either, reading_by}
use Rattle.wl_bytes.proofs.ChainLaws.{some_text}

-- a step that ends them, after the items that stand there
abbrev pub end_of_items : {X : Type 0} (step : ℕ → Option X → List ℕ → Type 0) (xs : List X) (a b c : Cursor) → Takes (Items (ItemOf step)) xs a b → Takes step None b c → Takes (Ended step) xs a c
end_of_items step xs a b c t u = let v = joined (Items (ItemOf step)) step xs None a b c t u in respelled v v.spelled

abbrev pub parts_of_end : {X : Type 0} (step : ℕ → Option X → List ℕ → Type 0) (xs : List X) (a c : Cursor) → Takes (Ended step) xs a c → (b : Cursor) × Takes (Items (ItemOf step)) xs a b × Takes step None b c
parts_of_end step xs a c t = parted (Items (ItemOf step)) step xs None xs a c t t.spelled

-- steps are read, and an item is no empty text
pub record AreSteps {X E : Type 0} (step : ℕ → Option X → List ℕ → Type 0) (wrong : E → Cursor → Type 0) (read : Cursor → Result (Option X × Cursor) E) : Type 0 where
  pub each : IsReading step wrong read
  pub some : (place : ℕ) (x : X) (text : List ℕ) → step place (Some x) text → text ≢ []

-- fewer bytes are left after an item
pub step_shortens : {X E : Type 0} (step : ℕ → Option X → List ℕ → Type 0) (wrong : E → Cursor → Type 0) (read : Cursor → Result (Option X × Cursor) E) → AreSteps step wrong read
    → (x : X) (a b : Cursor) → Takes (ItemOf step) x a b → length b.rest < length a.rest
step_shortens step wrong read law x a b t =
    let some : 0 < length t.text = some_text t.text (law.some a.position x t.text t.spelled) in
    omega (arith, ap length t.parts, length-append t.text b.rest)

steps_again : {X E : Type 0} (step : ℕ → Option X → List ℕ → Type 0) (wrong : E → Cursor → Type 0) (read : Cursor → Result (Option X × Cursor) E) (dry : E) → AreSteps step wrong read
    → (xs : List X) (n : ℕ) (a b c : Cursor) → length a.rest < n → Takes (Items (ItemOf step)) xs a b → Takes step None b c → steps_at read dry n a ≡ Ok (xs, c)
unfolding steps_at
steps_again step wrong read dry law xs zero a b c lt t u = absurd (omega arith)
steps_again step wrong read dry law [] (suc n) a b c lt t u =
    let same = nothing_taken (ItemOf step) a b t in
    rw (same, law.each.again b None c u) refl
steps_again step wrong read dry law (x ∷ xs) (suc n) a b c lt t u =
    let f = first_of_items (ItemOf step) x xs a b t in
    let less = step_shortens step wrong read law x a f.0 f.1 in
    rw (law.each.again a (Some x) f.0 (respelled f.1 f.1.spelled), steps_again step wrong read dry law xs n f.0 b c (omega arith) f.2 u) refl

steps_fails : {X E : Type 0} (step : ℕ → Option X → List ℕ → Type 0) (wrong : E → Cursor → Type 0) (read : Cursor → Result (Option X × Cursor) E) (dry : E) → AreSteps step wrong read
    → (xs : List X) (n : ℕ) (a b : Cursor) (e : E) → length a.rest < n → Takes (Items (ItemOf step)) xs a b → wrong e b → steps_at read dry n a ≡ Err e
unfolding steps_at
steps_fails step wrong read dry law xs zero a b e lt t w = absurd (omega arith)
steps_fails step wrong read dry law [] (suc n) a b e lt t w =
    let w' = subst (wrong e) (sym (nothing_taken (ItemOf step) a b t)) w in
    rw (law.each.fails a e w') refl
steps_fails step wrong read dry law (x ∷ xs) (suc n) a b e lt t w =
    let f = first_of_items (ItemOf step) x xs a b t in
    let less = step_shortens step wrong read law x a f.0 f.1 in
    rw (law.each.again a (Some x) f.0 (respelled f.1 f.1.spelled), steps_fails step wrong read dry law xs n f.0 b e (omega arith) f.2 w) refl

steps_stand : {X E : Type 0} (step : ℕ → Option X → List ℕ → Type 0) (wrong : E → Cursor → Type 0) (read : Cursor → Result (Option X × Cursor) E) → AreSteps step wrong read
    → (n : ℕ) (c : Cursor) → length c.rest < n → Stands (Ended step) (EndedFault step wrong) c
steps_stand step wrong read law zero c lt = absurd (omega arith)
steps_stand {X} {E} step wrong read law (suc n) c lt = elim (either law.each c) [ inl t ↦ by_step (λ d less. steps_stand step wrong read law n d less) t.0 t.1 t.2 | inr f ↦ inr (f.0, ([], c, take_nothing (ItemOf step) c, f.1)) ]
  where
    by_step : ((d : Cursor) → length d.rest < n → Stands (Ended step) (EndedFault step wrong) d) → (o : Option X) (d : Cursor) → Takes step o c d → Stands (Ended step) (EndedFault step wrong) c
    by_step further None d t = inl ([], d, end_of_items step [] c c d (take_nothing (ItemOf step) c) t)
    by_step further (Some x) d t =
        let here : Takes (ItemOf step) x c d = respelled t t.spelled in
        let less = step_shortens step wrong read law x c d here in
        elim (further d (omega arith)) [
          | inl r ↦
              let more = parts_of_end step r.0 d r.1 r.2 in
              inl (x ∷ r.0, r.1, end_of_items step (x ∷ r.0) c more.0 r.1 (cons_text (ItemOf step) x r.0 c d more.0 here more.1) more.2)
          | inr f ↦ inr (f.0, (x ∷ f.1.0, f.1.1, cons_text (ItemOf step) x f.1.0 c d f.1.1 here f.1.2, f.1.3))
        ]

pub ended_reading : {X E : Type 0} (step : ℕ → Option X → List ℕ → Type 0) (wrong : E → Cursor → Type 0) (read : Cursor → Result (Option X × Cursor) E) (dry : E) → AreSteps step wrong read → IsReading (Ended step) (EndedFault step wrong) (ended_at read dry)
ended_reading step wrong read dry law = reading_by (Ended step) (EndedFault step wrong) (ended_at read dry)
    (λ c xs to t. let p = parts_of_end step xs c to t in steps_again step wrong read dry law xs (suc (length c.rest)) c p.0 to (omega arith) p.1 p.2)
    (λ c e f. steps_fails step wrong read dry law f.0 (suc (length c.rest)) c f.1 e (omega arith) f.2 f.3)
    (λ c. steps_stand step wrong read law (suc (length c.rest)) c (omega arith))
