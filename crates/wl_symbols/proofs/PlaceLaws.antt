-- Entries are the symbols that other objects know, in the order of their places.
use Rattle.std.proofs.Common.{◌≡◌, ◌⊎◌, ◌<◌, ◌+◌, ℕ, zero, suc, false, List, [], ◌∷◌, ◌++◌, take, drop, refl, sym, ap, subst, ◌∙◌, inl, inr, Option, Some, None, slice_get, arith, append_assoc}
use Rattle.std.specs.List.{AllByRecursion}
use Rattle.std.specs.Option.{option_and_then}
use Rattle.std.proofs.lemmas.Bool.{cases_Bool}
use Rattle.std.proofs.lemmas.Option.{slice_get_within, get_or_from_slice_get}
use Rattle.wl_custom.specs.Symbols.{Symbol as LinkedSymbol}
use Rattle.wl_linking.specs.Object.{Object}
use Rattle.wl_symbols.specs.Entries.{Entry, is_private, strength_of, entry_for, entries_at, entries_from, entries_of}
use Rattle.wl_symbols.specs.Names.{HasSymbol, IsBefore}
use Rattle.wl_symbols.proofs.AdditionLaws.{symbols_split, objects_split}
use Rattle.wl_symbols.specs.declared.entry.Place.{Place}
use Rattle.wl_symbols.specs.declared.entry.Strength.{Strength}

-- ---- places

-- the first place comes before the second
abbrev pub Before : Place → Place → Type 0
Before p q = IsBefore p.object p.symbol q.object q.symbol

-- of two numbers one is less, or they are the same
numbers_in_order : (a b : ℕ) → (a < b) ⊎ ((a ≡ b) ⊎ (b < a))
numbers_in_order zero zero = inr (inl refl)
numbers_in_order zero (suc b) = inl (omega arith)
numbers_in_order (suc a) zero = inr (inr (omega arith))
numbers_in_order (suc a) (suc b) = elim (numbers_in_order a b) [
  | inl h ↦ inl (omega (arith, h))
  | inr h ↦ elim h [ inl e ↦ inr (inl (ap suc e)) | inr g ↦ inr (inr (omega (arith, g))) ]
]

-- of two places one comes before the other, or they are the same
pub places_in_order : (p q : Place) → Before p q ⊎ ((p ≡ q) ⊎ Before q p)
places_in_order p q = elim (numbers_in_order p.object q.object) [
  | inl lt ↦ inl (inl lt)
  | inr h ↦ elim h [
    | inl same ↦ elim (numbers_in_order p.symbol q.symbol) [
      | inl lt ↦ inl (inr (same, lt))
      | inr g ↦ elim g [ inl is ↦ inr (inl (λ i. record { object = same i; symbol = is i })) | inr gt ↦ inr (inr (inr (sym same, gt))) ]
    ]
    | inr gt ↦ inr (inr (inl gt))
  ]
]

-- no place comes before another and after it
pub not_both : (p q : Place) → Before p q → Before q p → ⊥
not_both p q a b = elim a [
  | inl lt ↦ elim b [ inl gt ↦ absurd (omega (arith, lt, gt)) | inr h ↦ absurd (omega (arith, lt, h.0)) ]
  | inr g ↦ elim b [ inl gt ↦ absurd (omega (arith, g.0, gt)) | inr h ↦ absurd (omega (arith, g.1, h.1)) ]
]

-- ---- what stands in a list

-- the entry stands in the list, between these
pub record Stands (entries : List Entry) (e : Entry) : Type 0 where
  pub front : List Entry
  pub back : List Entry
  pub split : front ++ e ∷ back ≡ entries

-- what stands in a front stands in the whole, after the same
abbrev pub in_whole : (xs ys entries : List Entry) (e : Entry) → xs ++ ys ≡ entries → Stands xs e → Stands entries e
in_whole xs ys entries e is s = record {
  front = s.front;
  back = s.back ++ ys;
  split = sym (append_assoc s.front (e ∷ s.back) ys) ∙ (ap (λ (zs : List Entry). zs ++ ys) s.split ∙ is);
}

-- what holds of all holds of each
all_at : (P : Entry → Type 0) (front : List Entry) (e : Entry) (back : List Entry) → AllByRecursion P (front ++ e ∷ back) → P e
all_at P [] e back h = h.0
all_at P (x ∷ front) e back h = all_at P front e back h.1

pub all_stand : (P : Entry → Type 0) (entries : List Entry) (e : Entry) → AllByRecursion P entries → Stands entries e → P e
all_stand P entries e h s = all_at P s.front e s.back (subst (AllByRecursion P) (sym s.split) h)

all_append : (P : Entry → Type 0) (xs ys : List Entry) → AllByRecursion P xs → AllByRecursion P ys → AllByRecursion P (xs ++ ys)
all_append P [] ys a b = b
all_append P (x ∷ xs) ys a b = (a.0, all_append P xs ys a.1 b)

all_map : (P Q : Entry → Type 0) (xs : List Entry) → ((x : Entry) → P x → Q x) → AllByRecursion P xs → AllByRecursion Q xs
all_map P Q [] f a = tt
all_map P Q (x ∷ xs) f a = (f x a.0, all_map P Q xs f a.1)

-- ---- an entry is a symbol's

-- of one of these, the first of which has number i
record EntryIn (object i : ℕ) (symbols : List LinkedSymbol) (e : Entry) : Type 0 where
  k : ℕ
  s : LinkedSymbol
  at : slice_get symbols k ≡ Some s
  shared : is_private s ≡ false
  is : entry_for object (i + k) s ≡ e

entry_next : (object i : ℕ) (s : LinkedSymbol) (symbols : List LinkedSymbol) (e : Entry) → EntryIn object (i + 1) symbols e → EntryIn object i (s ∷ symbols) e
entry_next object i s symbols e r =
    let more : i + 1 + r.k ≡ i + suc r.k = omega arith in
    record { k = suc r.k; s = r.s; at = r.at; shared = r.shared; is = rw (← more) r.is }

all_in : (object i : ℕ) (symbols : List LinkedSymbol) → AllByRecursion (EntryIn object i symbols) (entries_from object i symbols)
all_in object i [] = tt
all_in object i (s ∷ symbols) =
    let rest = all_map (EntryIn object (i + 1) symbols) (EntryIn object i (s ∷ symbols)) (entries_from object (i + 1) symbols) (entry_next object i s symbols) (all_in object (i + 1) symbols) in
    let zero-less : i + 0 ≡ i = omega arith in
    elim (cases_Bool (is_private s)) [
      | inl p ↦ rw p rest
      | inr p ↦ rw p (record { k = 0; s = s; at = refl; shared = p; is = rw zero-less refl }, rest)
    ]

-- of one of these objects', the first of which has number i
record EntryAmong (i : ℕ) (objects : List Object) (e : Entry) : Type 0 where
  j : ℕ
  k : ℕ
  o : Object
  s : LinkedSymbol
  object_at : slice_get objects j ≡ Some o
  at : slice_get o.symbols k ≡ Some s
  shared : is_private s ≡ false
  is : entry_for (i + j) k s ≡ e

entry_here : (i : ℕ) (o : Object) (objects : List Object) (e : Entry) → EntryIn i 0 o.symbols e → EntryAmong i (o ∷ objects) e
entry_here i o objects e r =
    let zero-less : i + 0 ≡ i = omega arith in
    let zero-more : 0 + r.k ≡ r.k = omega arith in
    record { j = 0; k = r.k; o = o; s = r.s; object_at = refl; at = r.at; shared = r.shared; is = rw zero-less (rw zero-more at r.is) }

entry_later : (i : ℕ) (o : Object) (objects : List Object) (e : Entry) → EntryAmong (i + 1) objects e → EntryAmong i (o ∷ objects) e
entry_later i o objects e r =
    let more : i + 1 + r.j ≡ i + suc r.j = omega arith in
    record { j = suc r.j; k = r.k; o = r.o; s = r.s; object_at = r.object_at; at = r.at; shared = r.shared; is = rw (← more) r.is }

all_among : (i : ℕ) (objects : List Object) → AllByRecursion (EntryAmong i objects) (entries_of i objects)
all_among i [] = tt
all_among i (o ∷ objects) =
    all_append (EntryAmong i (o ∷ objects)) (entries_from i 0 o.symbols) (entries_of (i + 1) objects)
    (all_map (EntryIn i 0 o.symbols) (EntryAmong i (o ∷ objects)) (entries_from i 0 o.symbols) (entry_here i o objects) (all_in i 0 o.symbols))
    (all_map (EntryAmong (i + 1) objects) (EntryAmong i (o ∷ objects)) (entries_of (i + 1) objects) (entry_later i o objects) (all_among (i + 1) objects))

-- an entry is that of the symbol of its place
pub entry_is : (objects : List Object) (e : Entry) → Stands (entries_of 0 objects) e → HasSymbol objects e.name e.strength e.place.object e.place.symbol
entry_is objects e s =
    let w = all_stand (EntryAmong 0 objects) (entries_of 0 objects) e (all_among 0 objects) s in
    let zero-more : 0 + w.j ≡ w.j = omega arith in
    let is : entry_for w.j w.k w.s ≡ e = rw zero-more at w.is in
    let here : HasSymbol objects w.s.name (strength_of w.s) w.j w.k = record { s = w.s; stands = rw w.object_at w.at; shared = w.shared; name_is = refl; strength_is = refl } in
    subst (λ (d : Entry). HasSymbol objects d.name d.strength d.place.object d.place.symbol) is here

object_of : (symbol : ℕ) (s : LinkedSymbol) (o : Option Object) → option_and_then (λ x. slice_get x.symbols symbol) o ≡ Some s → (x : Object) × (o ≡ Some x) × (slice_get x.symbols symbol ≡ Some s)
object_of symbol s None e = absurd cc
object_of symbol s (Some x) e = (x, refl, e)

-- a symbol has its entry
pub entry_stands : (objects : List Object) (name : List ℕ) (strength : Strength) (o k : ℕ) → HasSymbol objects name strength o k → Stands (entries_of 0 objects) (record { name = name; strength = strength; place = record { object = o; symbol = k } })
entry_stands objects name strength o k h =
    let x = object_of k h.s (slice_get objects o) h.stands in
    let e = entry_for o k h.s in
    let A = entries_of 0 (take o objects) in
    let B = entries_from o 0 (take k x.0.symbols) in
    let R = entries_from o (k + 1) (drop (k + 1) x.0.symbols) in
    let Q = entries_of (o + 1) (drop (o + 1) objects) in
    let here : entries_at o k h.s ≡ e ∷ [] = rw h.shared refl in
    let inner : B ++ (e ∷ R) ≡ entries_from o 0 x.0.symbols = ap (λ (zs : List Entry). B ++ (zs ++ R)) (sym here) ∙ symbols_split o k x.0.symbols h.s (slice_get_within x.0.symbols k h.s x.2) (sym (get_or_from_slice_get x.0.symbols k h.s h.s x.2)) in
    let outer : A ++ (entries_from o 0 x.0.symbols ++ Q) ≡ entries_of 0 objects = objects_split o objects x.0 (slice_get_within objects o x.0 x.1) (sym (get_or_from_slice_get objects o x.0 x.0 x.1)) in
    let stands : Stands (entries_of 0 objects) e = record {
      front = A ++ B;
      back = R ++ Q;
      split = append_assoc A B (e ∷ (R ++ Q)) ∙ (ap (λ (zs : List Entry). A ++ zs) (sym (append_assoc B (e ∷ R) Q)) ∙ (ap (λ (zs : List Entry). A ++ (zs ++ Q)) inner ∙ outer));
    } in
    subst (Stands (entries_of 0 objects)) (λ i. record { name = h.name_is i; strength = h.strength_is i; place = record { object = o; symbol = k } }) stands

-- ---- in order

-- each place comes before those after it
abbrev pub Ascend : List Entry → Type 0
Ascend [] = Unit {0}
Ascend (x ∷ xs) = AllByRecursion (λ y. Before x.place y.place) xs × Ascend xs

ascend_append : (xs ys : List Entry) → Ascend xs → Ascend ys → AllByRecursion (λ x. AllByRecursion (λ y. Before x.place y.place) ys) xs → Ascend (xs ++ ys)
ascend_append [] ys a b h = b
ascend_append (x ∷ xs) ys a b h = (all_append (λ y. Before x.place y.place) xs ys a.0 h.0, ascend_append xs ys a.1 b h.1)

-- those of an object's symbols
from_ascends : (object i : ℕ) (symbols : List LinkedSymbol) → Ascend (entries_from object i symbols)
from_ascends object i [] = tt
from_ascends object i (s ∷ symbols) = elim (cases_Bool (is_private s)) [
  | inl p ↦ rw p (from_ascends object (i + 1) symbols)
  | inr p ↦ rw p (all_map (EntryIn object (i + 1) symbols) (λ y. Before (record { object = object; symbol = i }) y.place) (entries_from object (i + 1) symbols) behind (all_in object (i + 1) symbols), from_ascends object (i + 1) symbols)
]
  where
    behind : (y : Entry) → EntryIn object (i + 1) symbols y → Before (record { object = object; symbol = i }) y.place
    behind y r = inr (ap (λ (d : Entry). d.place.object) r.is, omega (arith, ap (λ (d : Entry). d.place.symbol) r.is))

-- those of all objects' symbols
pub of_ascends : (i : ℕ) (objects : List Object) → Ascend (entries_of i objects)
of_ascends i [] = tt
of_ascends i (o ∷ objects) =
    ascend_append (entries_from i 0 o.symbols) (entries_of (i + 1) objects) (from_ascends i 0 o.symbols) (of_ascends (i + 1) objects)
    (all_map (EntryIn i 0 o.symbols) (λ x. AllByRecursion (λ y. Before x.place y.place) (entries_of (i + 1) objects)) (entries_from i 0 o.symbols) behind (all_in i 0 o.symbols))
  where
    behind : (x : Entry) → EntryIn i 0 o.symbols x → AllByRecursion (λ y. Before x.place y.place) (entries_of (i + 1) objects)
    behind x r = all_map (EntryAmong (i + 1) objects) (λ y. Before x.place y.place) (entries_of (i + 1) objects) (λ y t. inl (omega (arith, ap (λ (d : Entry). d.place.object) r.is, ap (λ (d : Entry). d.place.object) t.is))) (all_among (i + 1) objects)

-- what precedes an entry in the list comes before it
front_before : (front : List Entry) (e : Entry) (back : List Entry) → Ascend (front ++ e ∷ back) → AllByRecursion (λ d. Before d.place e.place) front
front_before [] e back a = tt
front_before (x ∷ front) e back a = (all_at (λ y. Before x.place y.place) front e back a.0, front_before front e back a.1)

pub comes_before : (entries : List Entry) (d e : Entry) → Ascend entries → (s : Stands entries e) → Stands s.front d → Before d.place e.place
comes_before entries d e a s t = all_stand (λ x. Before x.place e.place) s.front d (front_before s.front e s.back (subst Ascend (sym s.split) a)) t

-- and what comes before an entry precedes it in the list
front_split : (front : List Entry) (e : Entry) (back f : List Entry) (d : Entry) (b : List Entry) → front ++ e ∷ back ≡ f ++ d ∷ b → Ascend (f ++ d ∷ b) → Before d.place e.place → (rest : List Entry) × (f ++ d ∷ rest ≡ front)
front_split [] e back [] d b h a lt = let same : e ≡ d = cc in let itself : Before d.place d.place = rw same at lt in absurd (not_both d.place d.place itself itself)
front_split [] e back (z ∷ f) d b h a lt =
    let same : z ≡ e = cc in
    let behind : Before z.place d.place = all_at (λ y. Before z.place y.place) f d b a.0 in
    absurd (not_both d.place e.place lt (subst (λ (x : Entry). Before x.place d.place) same behind))
front_split (x ∷ front) e back [] d b h a lt = let same : d ≡ x = cc in (front, ap (λ (z : Entry). z ∷ front) same)
front_split (x ∷ front) e back (z ∷ f) d b h a lt =
    let same : z ≡ x = cc in
    let tail : front ++ e ∷ back ≡ f ++ d ∷ b = cc in
    let r = front_split front e back f d b tail a.1 lt in
    let whole : f ++ d ∷ r.0 ≡ front = r.1 in
    (r.0, ap (λ (xs : List Entry). z ∷ xs) whole ∙ ap (λ (y : Entry). y ∷ front) same)

pub in_front : (entries : List Entry) (d e : Entry) → Ascend entries → Stands entries d → (s : Stands entries e) → Before d.place e.place → Stands s.front d
in_front entries d e a t s lt =
    let r = front_split s.front e s.back t.front d t.back (s.split ∙ sym t.split) (subst Ascend (sym t.split) a) lt in
    record { front = t.front; back = r.0; split = r.1 }
