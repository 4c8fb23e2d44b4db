-- Items under a condition are read as the items are.
use Rattle.std.proofs.Common.{◌≡◌, ℕ, ◌+◌, ◌-◌, Bool, true, false, List, [], ◌++◌, length, Option, Some, None, Result, Ok, refl, ap, ◌∙◌, arith, inl, inr, length-append}
use Rattle.wl_bytes.specs.Cursor.{Cursor}
use Rattle.wl_bytes.specs.Parse.{Takes}
use Rattle.wl_bytes.proofs.Readings.{IsReading}
use Rattle.wl_bytes.proofs.GrammarLaws.{cursor_is, seen_reading}
use Rattle.wl_bytes.specs.Items.{IsName}
use Rattle.wl_bytes.specs.Lists.{WordFault, word_at}
use Rattle.wl_bytes.specs.Words.{IsPlacedName, placed_name, placed_name_at}
use Rattle.wl_bytes.specs.Checks.{Where, WhereFault, unless, where_at, When, WhenFault, when_at, measured_at, Any, any_at, IsNothing, NoFault, nothing_at}
use Rattle.wl_bytes.proofs.ReadingLaws.{respelled, Stands, either, reading_by}
use Rattle.wl_bytes.proofs.ListLaws.{word_reading}

-- ---- an item that passes a test

pub where_reading : {X E : Type 0} (spells : ℕ → X → List ℕ → Type 0) (wrong : E → Cursor → Type 0) (read : Cursor → Result (X × Cursor) E) (test : X → Bool) (failed : E)
    → IsReading spells wrong read → IsReading (Where spells test) (WhereFault spells wrong (unless test failed)) (where_at read test failed)
where_reading {X} {E} spells wrong read test failed law = reading_by (Where spells test) (WhereFault spells wrong (unless test failed)) (where_at read test failed)
    (λ c x to t. rw (law.again c x to (respelled t t.spelled.0), t.spelled.1) refl)
    (λ c e f. elim f [
      | inl w ↦ rw (law.fails c e w) refl
      | inr w ↦ rw (law.again c w.0 w.1 w.2, w.3, w.4) refl
    ])
    (λ c. elim (either law c) [ inl t ↦ by c t.0 t.1 t.2 (test t.0) refl | inr f ↦ inr (f.0, inl f.1) ])
  where
    by : (c : Cursor) (x : X) (to : Cursor) → Takes spells x c to → (b : Bool) → test x ≡ b → Stands (Where spells test) (WhereFault spells wrong (unless test failed)) c
    by c x to t true is = inl (x, to, respelled t (t.spelled, is))
    by c x to t false is = inr (failed, inr (x, to, t, is, refl))

-- ---- an item that stands only where it is said to

-- no bytes were taken
no_text : {X : Type 0} (spells : ℕ → X → List ℕ → Type 0) (x : X) (c to : Cursor) (t : Takes spells x c to) → t.text ≡ [] → c ≡ to
no_text spells x c to t none = cursor_is c to (omega (arith, t.moved, ap length none)) (t.parts ∙ ap (λ (r : List ℕ). r ++ to.rest) none)

some_again : {X E : Type 0} (spells : ℕ → X → List ℕ → Type 0) (wrong : E → Cursor → Type 0) (read : Cursor → Result (X × Cursor) E) → IsReading spells wrong read
    → (c : Cursor) (x : Option X) (to : Cursor) → Takes (When spells true) x c to → when_at read true c ≡ Ok (x, to)
some_again spells wrong read law c None to t = absurd t.spelled
some_again spells wrong read law c (Some x) to t = rw (law.again c x to (respelled t t.spelled)) refl

pub when_reading : {X E : Type 0} (spells : ℕ → X → List ℕ → Type 0) (wrong : E → Cursor → Type 0) (read : Cursor → Result (X × Cursor) E) → IsReading spells wrong read
    → (flag : Bool) → IsReading (When spells flag) (WhenFault wrong flag) (when_at read flag)
when_reading spells wrong read law false = reading_by (When spells false) (WhenFault wrong false) (when_at read false)
    (λ c x to t. rw (t.spelled.0, no_text (When spells false) x c to t t.spelled.1) refl)
    (λ c e f. absurd f)
    (λ c. inl (None, c, record { text = []; spelled = (refl, refl); parts = refl; moved = omega arith }))
when_reading spells wrong read law true = reading_by (When spells true) (WhenFault wrong true) (when_at read true)
    (λ c x to t. some_again spells wrong read law c x to t)
    (λ c e w. rw (law.fails c e w) refl)
    (λ c. elim (either law c) [ inl t ↦ inl (Some t.0, t.1, respelled t.2 t.2.spelled) | inr f ↦ inr f ])

-- ---- an item that says where it stands, and how many bytes it has

pub measured_reading : {X Y E : Type 0} (spells : ℕ → X → List ℕ → Type 0) (spells' : ℕ → Y → List ℕ → Type 0) (wrong : E → Cursor → Type 0) (read : Cursor → Result (X × Cursor) E) (f : ℕ → ℕ → X → Y)
    → ((place : ℕ) (x : X) (text : List ℕ) → spells place x text → spells' place (f place (length text) x) text)
    → ((place : ℕ) (y : Y) (text : List ℕ) → spells' place y text → (x : X) × spells place x text × (f place (length text) x ≡ y))
    → IsReading spells wrong read → IsReading spells' wrong (measured_at f read)
measured_reading spells spells' wrong read f there back law = reading_by spells' wrong (measured_at f read)
    (λ c y to t.
    let b = back c.position y t.text t.spelled in
    let len : to.position - c.position ≡ length t.text = omega (arith, t.moved) in
    rw (law.again c b.0 to (respelled t b.1), len, b.2) refl)
    (λ c e w. rw (law.fails c e w) refl)
    (λ c. elim (either law c) [
      | inl t ↦ inl (f c.position (length t.2.text) t.0, t.1, respelled t.2 (there c.position t.0 t.2.text t.2.spelled))
      | inr w ↦ inr w
    ])

-- ---- an item of which nothing is given, and nothing

pub any_reading : {X E : Type 0} (spells : ℕ → X → List ℕ → Type 0) (wrong : E → Cursor → Type 0) (read : Cursor → Result (X × Cursor) E) → IsReading spells wrong read → IsReading (Any spells) wrong (any_at read)
any_reading spells wrong read law = seen_reading spells (Any spells) wrong read (λ _. tt) (λ place x text s. (x, s)) (λ place u text s. (s.0, s.1, refl)) law

pub nothing_reading : {E : Type 0} → IsReading {E = E} IsNothing NoFault nothing_at
nothing_reading {E} = reading_by {E = E} IsNothing NoFault nothing_at
    (λ c u to t. ap (λ (d : Cursor). Ok (tt, d)) (no_text IsNothing u c to t t.spelled))
    (λ c e f. absurd f)
    (λ c. inl (tt, c, record { text = []; spelled = refl; parts = refl; moved = omega arith }))

-- ---- names

pub placed_name_reading : IsReading IsPlacedName WordFault placed_name_at
unfolding placed_name_at
placed_name_reading = measured_reading IsName IsPlacedName WordFault word_at placed_name
    (λ place name text s. (s, omega (arith, ap length s.1, length-append s.0 name)))
    (λ place w text s. (w.0, s.0, same place w text s))
    word_reading
  where
    same : (place : ℕ) (w : List ℕ × ℕ) (text : List ℕ) → IsPlacedName place w text → placed_name place (length text) w.0 ≡ w
    same place w text s = let at : place + length text - length w.0 ≡ w.1 = omega (arith, s.1) in rw at refl

-- a name that was read gives its place
pub name_placed : (c to : Cursor) (name : List ℕ) → word_at c ≡ Ok (name, to) → placed_name_at c ≡ Ok ((name, to.position - length name), to)
unfolding placed_name_at
name_placed c to name e =
    let t = word_reading.found c name to e in
    let at : c.position + (to.position - c.position) - length name ≡ to.position - length name = omega (arith, t.moved) in
    rw (e, at) refl
