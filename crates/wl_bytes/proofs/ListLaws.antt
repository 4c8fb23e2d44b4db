-- The laws of lists, coded bytes and whole payloads.
use Rattle.std.proofs.Common.{◌≡◌, ◌≢◌, ◌⊎◌, ℕ, false, eqb, List, [], ◌∷◌, ◌++◌, length, Option, Some, None, Result, Ok, Err, refl, sym, ap, subst, ◌∙◌, arith, inl, inr}
use Rattle.std.proofs.lemmas.Bool.{eqb-true}
use Rattle.std.proofs.lemmas.List.{append-nil}
use Rattle.std.specs.Prelude.{IfOk, IfErr}
use Rattle.wl_bytes.specs.Cursor.{Cursor}
use Rattle.wl_bytes.specs.Parse.{Takes}
use Rattle.wl_bytes.specs.Leb.{IsU32, U32Fault}
use Rattle.wl_bytes.specs.Items.{IsByte, EndsBefore, IsName, NameFault}
use Rattle.wl_bytes.specs.Reading.{u32_at, byte_at, name_at}
use Rattle.wl_bytes.proofs.Steps.{bind_ok, bind_err, chosen, ok_is, err_is, false_from_not}
use Rattle.wl_bytes.proofs.Readings.{IsReading}
use Rattle.wl_bytes.proofs.LebLaws.{u32_reading}
use Rattle.wl_bytes.proofs.ItemLaws.{byte_reading, name_reading}
use Rattle.wl_bytes.proofs.GrammarLaws.{times_reading, map_reading, error_reading}
use Rattle.wl_bytes.specs.declared.read_error.Why.TheVariants.{Trailing}
use Rattle.wl_bytes.specs.declared.read_error.ReadError.{ReadError}
use Rattle.wl_bytes.specs.declared.read_error.ReadError.TheVariants.{OutOfMemory, Malformed, Unsupported}
use Rattle.wl_bytes.specs.Error.{read_error}
use Rattle.wl_bytes.specs.Outcome.{Gives, HasCause, ReadsWhole, AreAlternatives}
use Rattle.wl_bytes.specs.Chains.{list_after_at}
use Rattle.wl_bytes.specs.Lists.{NumberFault, number_at, ByteFault, one_byte_at, WordFault, word_at, IsCoded, CodedFault, with_code, coded_at, Listed, ListedFault, list_at, ToEnd, ToEndFault, to_end_at, start, Whole, WholeFault, whole_of, SeenAs, seen_of}
use Rattle.wl_bytes.proofs.ReadingLaws.{respelled, Stands, either, reading_by, both}
use Rattle.wl_bytes.proofs.Loops.{list_kept}

pub number_reading : IsReading IsU32 NumberFault number_at
number_reading = error_reading IsU32 U32Fault u32_at read_error u32_reading

pub one_byte_reading : IsReading IsByte ByteFault one_byte_at
one_byte_reading = error_reading IsByte (EndsBefore 1) byte_at read_error byte_reading

pub word_reading : IsReading IsName WordFault word_at
word_reading = error_reading IsName NameFault name_at read_error name_reading

-- ---- a byte that stands for something

-- each thing is among all of them, and no other has its byte
abbrev pub AreAll : {X : Type 0} → (X → ℕ) → List X → Type 0
AreAll {X} code all = (x : X) → with_code code all (code x) ≡ Some x

abbrev the : {X : Type 0} → X → Option X
the x = Some x

-- what is found has that byte
pub found_code : {X : Type 0} (code : X → ℕ) (all : List X) (b : ℕ) (x : X) → with_code code all b ≡ Some x → code x ≡ b
found_code code [] b x e = absurd cc
found_code {X} code (y ∷ all) b x e =
    elim (chosen (eqb (code y) b) (Some y) (with_code code all b) (Some x) e) [
      | inl h ↦ subst (λ (z : X). code z ≡ b) (let same = h.1 in let is : the y ≡ the x = same in cc) (eqb-true (code y) b h.0)
      | inr h ↦ found_code code all b x h.1
    ]

none_found : {X : Type 0} (code : X → ℕ) (all : List X) (b : ℕ) → ((x : X) → code x ≢ b) → (o : Option X) → with_code code all b ≡ o → o ≡ None
none_found code all b not None e = refl
none_found code all b not (Some x) e = absurd (not x (found_code code all b x e))

pub coded_reading : {X : Type 0} (code : X → ℕ) (all : List X) (other : ℕ → ReadError) → AreAll code all → IsReading (IsCoded code) (CodedFault code other) (coded_at code all other)
coded_reading {X} code all other are = reading_by (IsCoded code) (CodedFault code other) (coded_at code all other)
    (λ c x to t. rw (one_byte_reading.again c (code x) to (respelled t t.spelled), are x) refl)
    (λ c e f. elim f [
      | inl w ↦ rw (one_byte_reading.fails c e w) refl
      | inr w ↦ rw (one_byte_reading.again c w.0 w.1 w.2, none_found code all w.0 w.4 (with_code code all w.0) refl, w.3) refl
    ])
    (λ c. elim (either one_byte_reading c) [
      | inl t ↦ by c t.0 t.1 t.2 (with_code code all t.0) refl
      | inr f ↦ inr (f.0, inl f.1)
    ])
  where
    by : (c : Cursor) (b : ℕ) (to : Cursor) → Takes IsByte b c to → (o : Option X) → with_code code all b ≡ o → Stands (IsCoded code) (CodedFault code other) c
    by c b to t (Some x) is = inl (x, to, respelled t (t.spelled ∙ ap (λ (b : ℕ). b ∷ []) (sym (found_code code all b x is))))
    by c b to t None is = inr (other b, inr (b, to, t, refl, λ x e. let some = sym (are x) ∙ ap (with_code code all) e in let none = is in cc))

-- ---- a list

pub list_reading : {X : Type 0} (item : ℕ → X → List ℕ → Type 0) (wrong : ReadError → Cursor → Type 0) (read : Cursor → Result (X × Cursor) ReadError) → IsReading item wrong read → IsReading (Listed item) (ListedFault item wrong) (list_at read)
list_reading {X} item wrong read law = map_reading _ (Listed item) (ListedFault item wrong) _ (λ p. p.1) (λ xs. (length xs, xs))
    (λ place p text s. (s.0, s.1, s.2, subst (λ (n : ℕ). IsU32 place n s.0) (sym s.4.0) s.3, s.4.1))
    (λ place xs text s. ((s.0, s.1, s.2, s.3, (refl, s.4)), refl))
    (both number_reading (times_reading item wrong read law))

-- ---- what stands from a place to the end, and in a whole payload

-- what is spelled is read, and what is read is spelled, and so it is with each fault
pub record IsReadingFrom {C X : Type 0} (spells : X → C → Type 0) (faults : ReadError → C → Type 0) (read : C → Result X ReadError) : Type 0 where
  pub found : (c : C) (x : X) → read c ≡ Ok x → spells x c
  pub again : (c : C) (x : X) → spells x c → read c ≡ Ok x
  pub fault : (c : C) (e : ReadError) → read c ≡ Err e → faults e c
  pub fails : (c : C) (e : ReadError) → faults e c → read c ≡ Err e

abbrev pub IsWholeReading : {X : Type 0} → (X → List ℕ → Type 0) → (ReadError → List ℕ → Type 0) → (List ℕ → Result X ReadError) → Type 0
IsWholeReading spells faults read = IsReadingFrom spells faults read

pub reading_from : {C X : Type 0} (spells : X → C → Type 0) (faults : ReadError → C → Type 0) (read : C → Result X ReadError)
    → ((c : C) (x : X) → spells x c → read c ≡ Ok x) → ((c : C) (e : ReadError) → faults e c → read c ≡ Err e)
    → ((c : C) → ((x : X) × spells x c) ⊎ ((e : ReadError) × faults e c)) → IsReadingFrom spells faults read
reading_from {C} {X} spells faults read again fails some = record {
  found = λ c x e. elim (some c) [
    | inl s ↦ subst (λ (y : X). spells y c) (ok_is {E = ReadError} s.0 x (sym (again c s.0 s.1) ∙ e)) s.1
    | inr f ↦ absurd (let h = fails c f.0 f.1 in cc)
  ];
  again = again;
  fault = λ c e is. elim (some c) [
    | inl s ↦ absurd (let h = again c s.0 s.1 in cc)
    | inr f ↦ subst (λ (d : ReadError). faults d c) (err_is {A = X} f.0 e (sym (fails c f.0 f.1) ∙ is)) f.1
  ];
  fails = fails;
}

some_left : (rest : List ℕ) → rest ≢ [] → eqb (length rest) 0 ≡ false
some_left [] h = absurd (h refl)
some_left (x ∷ xs) h = false_from_not (eqb (length (x ∷ xs)) 0) (λ e. absurd (omega (arith, eqb-true (length (x ∷ xs)) 0 e)))

pub to_end_reading : {X : Type 0} {spells : ℕ → X → List ℕ → Type 0} {wrong : ReadError → Cursor → Type 0} {read : Cursor → Result (X × Cursor) ReadError} → IsReading spells wrong read → IsReadingFrom (ToEnd spells) (ToEndFault spells wrong) (to_end_at read)
to_end_reading {X} {spells} {wrong} {read} law = reading_from (ToEnd spells) (ToEndFault spells wrong) (to_end_at read)
    (λ c x s. rw (law.again c x s.0 s.1, s.2) refl)
    (λ c e f. elim f [
      | inl w ↦ rw (law.fails c e w) refl
      | inr w ↦ rw (law.again c w.0 w.1 w.2, some_left w.1.rest w.3, w.4) refl
    ])
    (λ c. elim (either law c) [ inl t ↦ by c t.0 t.1 t.2 t.1.rest refl | inr f ↦ inr (f.0, inl f.1) ])
  where
    by : (c : Cursor) (x : X) (to : Cursor) → Takes spells x c to → (rest : List ℕ) → to.rest ≡ rest → ((x : X) × ToEnd spells x c) ⊎ ((e : ReadError) × ToEndFault spells wrong e c)
    by c x to t [] none = inl (x, (to, t, none))
    by c x to t (z ∷ zs) some = inr (Malformed Trailing, inr (x, to, t, (λ none. absurd (let h = sym some ∙ none in cc)), refl))

pub whole_reading : {X : Type 0} (spells : ℕ → X → List ℕ → Type 0) (wrong : ReadError → Cursor → Type 0) (read : Cursor → Result (X × Cursor) ReadError) → IsReading spells wrong read → IsWholeReading (Whole spells) (WholeFault spells wrong) (whole_of read)
whole_reading spells wrong read law =
    let ends = to_end_reading law in
    record {
      found = λ payload x e.
          let s = ends.found (start payload) x e in
          let whole : payload ≡ s.1.text = s.1.parts ∙ ap (λ (r : List ℕ). s.1.text ++ r) s.2 ∙ append-nil s.1.text in
          subst (λ (bytes : List ℕ). spells 0 x bytes) (sym whole) s.1.spelled;
      again = λ payload x s.
          ends.again (start payload) x (record { position = length payload; rest = [] }, record { text = payload; spelled = s; parts = sym (append-nil payload); moved = omega arith }, refl);
      fault = λ payload e is. ends.fault (start payload) e is;
      fails = λ payload e f. ends.fails (start payload) e f;
    }

-- the same, where f sees what is read
pub seen_reading : {X Y : Type 0} (f : X → Y) (spells : X → List ℕ → Type 0) (faults : ReadError → List ℕ → Type 0) (read : List ℕ → Result X ReadError) → IsWholeReading spells faults read → IsWholeReading (SeenAs f spells) faults (seen_of f read)
seen_reading {X} {Y} f spells faults read law = record {
  found = λ payload y e.
      let a = bind_ok (read payload) (λ (x : X). Ok (f x)) y e in
      (a.0, law.found payload a.0 a.1, ok_is {E = ReadError} (f a.0) y a.2);
  again = λ payload y s. rw (law.again payload s.0 s.1, s.2) refl;
  fault = λ payload e is.
      elim (bind_err (read payload) (λ (x : X). Ok (f x)) e is) [
        | inl h ↦ law.fault payload e h
        | inr h ↦ absurd (let i = h.2 in cc)
      ];
  fails = λ payload e w. rw (law.fails payload e w) refl;
}

pub reads_whole : {X Y : Type 0} (view : X → Y) (spells : Y → List ℕ → Type 0) (faults : ReadError → List ℕ → Type 0) (read : List ℕ → Result Y ReadError) → IsWholeReading spells faults read
    → (payload : List ℕ) (r : Result X ReadError) → Gives view r (read payload) → ReadsWhole view spells faults payload r
reads_whole {X} view spells faults read law payload r a = record {
  sound = sound_from r a;
  only = λ y s. subst (Gives view r) (law.again payload y s) a;
  fault = fault_from r a;
  why = λ e f. subst (Gives view r) (law.fails payload e f) a;
}
  where
    sound_from : (r : Result X ReadError) → Gives view r (read payload) → IfOk r (λ x. spells (view x) payload)
    sound_from (Ok x) a = law.found payload (view x) a
    sound_from (Err e) a = tt

    fault_from : (r : Result X ReadError) → Gives view r (read payload) → IfErr r (HasCause (λ e. faults e payload))
    fault_from (Ok x) a = tt
    fault_from (Err OutOfMemory) a = tt
    fault_from (Err (Malformed why)) a = law.fault payload (Malformed why) a
    fault_from (Err (Unsupported form)) a = law.fault payload (Unsupported form) a

-- reading says which of the two
pub outcome : {C X : Type 0} {spells : X → C → Type 0} {faults : ReadError → C → Type 0} {read : C → Result X ReadError} → IsReadingFrom spells faults read → (c : C) → ((x : X) × spells x c) ⊎ ((e : ReadError) × faults e c)
outcome {C} {X} {spells} {faults} {read} law c = by (read c) refl
  where
    by : (r : Result X ReadError) → read c ≡ r → ((x : X) × spells x c) ⊎ ((e : ReadError) × faults e c)
    by (Ok x) is = inl (x, law.found c x is)
    by (Err e) is = inr (e, law.fault c e is)

-- what a whole payload spells or what is wrong with it is what reading says
pub exact : {X : Type 0} {spells : X → List ℕ → Type 0} {faults : ReadError → List ℕ → Type 0} {read : List ℕ → Result X ReadError} → IsReadingFrom spells faults read → AreAlternatives spells faults
exact {X} law = record {
  some = λ payload. outcome law payload;
  one_value = λ payload x y s u. ok_is {E = ReadError} x y (sym (law.again payload x s) ∙ law.again payload y u);
  no_fault = λ payload x e s f. absurd (let a = law.again payload x s in let b = law.fails payload e f in cc);
  one_fault = λ payload e d f g. err_is {A = X} e d (sym (law.fails payload e f) ∙ law.fails payload d g);
}

pub whole_alternatives : {X : Type 0} (spells : X → List ℕ → Type 0) (faults : ReadError → List ℕ → Type 0) (read : List ℕ → Result X ReadError) → IsWholeReading spells faults read → AreAlternatives spells faults
whole_alternatives spells faults read law = exact law

-- a call that reads a list of items
pub reads_list : {S X Y : Type 0} (item : S → Cursor → Result (X × Cursor) ReadError) (s : S) {spells : ℕ → X → List ℕ → Type 0} {wrong : ReadError → Cursor → Type 0} → IsReading spells wrong (item s)
    → (view : Y → List X) (payload : List ℕ) (r : Result Y ReadError) → Gives view r (whole_of (list_after_at item (λ s _. s) s) payload)
    → ReadsWhole view (Whole (Listed spells)) (WholeFault (Listed spells) (ListedFault spells wrong)) payload r
reads_list {S} {X} {Y} item s {spells} {wrong} law view payload r a =
    reads_whole view (Whole (Listed spells)) (WholeFault (Listed spells) (ListedFault spells wrong)) (whole_of (list_at (item s)))
    (whole_reading (Listed spells) (ListedFault spells wrong) (list_at (item s)) (list_reading spells wrong (item s) law)) payload r (rw (← list_kept item s (start payload)) a)
