-- What a reading says, and readings put together.
use Rattle.std.proofs.Common.{◌≡◌, ◌⊎◌, ℕ, ◌+◌, List, ◌++◌, length, Result, Ok, Err, refl, sym, ap, subst, ◌∙◌, arith, inl, inr, append_assoc, length-append}
use Rattle.wl_bytes.specs.Cursor.{Cursor}
use Rattle.wl_bytes.specs.Parse.{Takes}
use Rattle.wl_bytes.specs.Grammar.{Then, ThenFault, then_at, map_at}
use Rattle.wl_bytes.proofs.Steps.{ok_is, err_is}
use Rattle.wl_bytes.proofs.Readings.{IsReading}
use Rattle.wl_bytes.proofs.GrammarLaws.{then_reading, seen_reading}
use Rattle.wl_bytes.specs.Checks.{Seen}

-- the same bytes spell something else
abbrev pub respelled : {X Y : Type 0} {spells : ℕ → X → List ℕ → Type 0} {spells' : ℕ → Y → List ℕ → Type 0} {x : X} {y : Y} {a b : Cursor}
    → (t : Takes spells x a b) → spells' a.position y t.text → Takes spells' y a b
respelled t s = record { text = t.text; spelled = s; parts = t.parts; moved = t.moved }

-- a text of two parts is taken one after the other
abbrev pub parted : {X Y Z : Type 0} {spells : ℕ → Z → List ℕ → Type 0} (first : ℕ → X → List ℕ → Type 0) (second : ℕ → Y → List ℕ → Type 0) (x : X) (y : Y) (z : Z) (a c : Cursor)
    → (t : Takes spells z a c) → (s : Then first (λ _. second) a.position (x, y) t.text) → (b : Cursor) × Takes first x a b × Takes second y b c
parted first second x y z a c t s = (
  record { position = a.position + length s.0; rest = s.1 ++ c.rest },
  record { text = s.0; spelled = s.3; parts = t.parts ∙ ap (λ (r : List ℕ). r ++ c.rest) s.2 ∙ append_assoc s.0 s.1 c.rest; moved = refl },
  record { text = s.1; spelled = s.4; parts = refl; moved = omega (arith, t.moved, ap length s.2, length-append s.0 s.1) },
)

-- and two texts make one
abbrev pub joined : {X Y : Type 0} (first : ℕ → X → List ℕ → Type 0) (second : ℕ → Y → List ℕ → Type 0) (x : X) (y : Y) (a b c : Cursor) → Takes first x a b → Takes second y b c → Takes (Then first (λ _. second)) (x, y) a c
joined first second x y a b c t u = record {
  text = t.text ++ u.text;
  spelled = (t.text, u.text, refl, t.spelled, subst (λ (place : ℕ). second place y u.text) t.moved u.spelled);
  parts = t.parts ∙ ap (λ (r : List ℕ). t.text ++ r) u.parts ∙ sym (append_assoc t.text u.text c.rest);
  moved = omega (arith, t.moved, u.moved, length-append t.text u.text);
}

-- an item stands there, or a fault
abbrev pub Stands : {X E : Type 0} → (ℕ → X → List ℕ → Type 0) → (E → Cursor → Type 0) → Cursor → Type 0
Stands {X} {E} spells wrong c = ((x : X) × (to : Cursor) × Takes spells x c to) ⊎ ((e : E) × wrong e c)

-- reading says which of the two
pub either : {X E : Type 0} {spells : ℕ → X → List ℕ → Type 0} {wrong : E → Cursor → Type 0} {read : Cursor → Result (X × Cursor) E}
    → IsReading spells wrong read → (c : Cursor) → Stands spells wrong c
either {X} {E} {spells} {wrong} {read} law c = by (read c) refl
  where
    by : (r : Result (X × Cursor) E) → read c ≡ r → Stands spells wrong c
    by (Ok p) is = inl (p.0, p.1, law.found c p.0 p.1 is)
    by (Err e) is = inr (e, law.fault c e is)

-- what stands there is read, and one of the two always does
pub reading_by : {X E : Type 0} (spells : ℕ → X → List ℕ → Type 0) (wrong : E → Cursor → Type 0) (read : Cursor → Result (X × Cursor) E)
    → ((c : Cursor) (x : X) (to : Cursor) → Takes spells x c to → read c ≡ Ok (x, to)) → ((c : Cursor) (e : E) → wrong e c → read c ≡ Err e)
    → ((c : Cursor) → Stands spells wrong c) → IsReading spells wrong read
reading_by {X} {E} spells wrong read again fails some = record {
  found = λ c x to e. elim (some c) [
    | inl t ↦ subst (λ (p : X × Cursor). Takes spells p.0 c p.1) (ok_is {E = E} (t.0, t.1) (x, to) (sym (again c t.0 t.1 t.2) ∙ e)) t.2
    | inr f ↦ absurd (let h = fails c f.0 f.1 in cc)
  ];
  again = again;
  fault = λ c e is. elim (some c) [
    | inl t ↦ absurd (let h = again c t.0 t.1 t.2 in cc)
    | inr f ↦ subst (λ (d : E). wrong d c) (err_is {A = X × Cursor} f.0 e (sym (fails c f.0 f.1) ∙ is)) f.1
  ];
  fails = fails;
}

-- one after the other
pub both : {X Y E : Type 0} {first : ℕ → X → List ℕ → Type 0} {second : X → ℕ → Y → List ℕ → Type 0} {wrong : E → Cursor → Type 0} {wrong' : X → E → Cursor → Type 0}
    {read : Cursor → Result (X × Cursor) E} {read' : X → Cursor → Result (Y × Cursor) E}
    → IsReading first wrong read → ((x : X) → IsReading (second x) (wrong' x) (read' x)) → IsReading (Then first second) (ThenFault first wrong wrong') (then_at read read')
both {X} {Y} {E} {first} {second} {wrong} {wrong'} {read} {read'} one two = then_reading first second wrong wrong' read read' one two

-- seen by f
pub seen : {X Y E : Type 0} {spells : ℕ → X → List ℕ → Type 0} {wrong : E → Cursor → Type 0} {read : Cursor → Result (X × Cursor) E}
    (f : X → Y) → IsReading spells wrong read → IsReading (Seen spells f) wrong (map_at f read)
seen {X} {Y} {E} {spells} {wrong} {read} f law = seen_reading spells (Seen spells f) wrong read f (λ place x text s. (x, s, refl)) (λ place y text s. s) law
