-- Lists of imports, and maps of their places; which field names are stubs'.
use Rattle.std.proofs.Common.{◌≡◌, ◌∙◌, ℕ, zero, suc, ◌<◌, ◌&&◌, ◌||◌, Bool, true, false, not, cond, List, [], ◌∷◌, ◌++◌, length, refl, sym, ap, arith, inl, inr, Option, Some, is_some, map, filter, slice_index_or, Contains, unwrap_or}
use Rattle.std.proofs.Math.Bool.{and-false, and-true}
use Rattle.std.specs.List.{list_any, list_all}
use Rattle.std.specs.Str.{bytes_eq}
use Rattle.std.proofs.lemmas.Bool.{cases_Bool, and_parts}
use Rattle.std.proofs.lemmas.Cmp.{nat_list_eq_equiv}
use Rattle.std.proofs.lemmas.List.{map-append}
use Rattle.std.proofs.lemmas.List.Elements.{Contains-append_right}
use Rattle.std.proofs.lemmas.List.Folds.{list_all-append}
use Rattle.std.proofs.lemmas.Slice.Eq.{bytes_eq-Decides}
use Rattle.indexmap.specs.IndexSet.{insert_key, insert_all}
use Rattle.wl_linking.specs.Object.{Object}
use Rattle.wl_symbols.specs.ImportSlots.{ImportSlot}
use Rattle.wl_symbols.specs.Left.{HostImport, first_slot, place_of_name, place_of_import, is_weak_slot, is_stub_name, is_stub}
use Rattle.wl_symbols.specs.LeftSteps.{has_same_name, has_same_names}
use Rattle.wl_symbols.proofs.ImportPlaceLaws.{any_placed, one_more}

-- ---- tests

same_back : (a b : List ℕ) → bytes_eq a b ≡ bytes_eq b a
same_back a b = nat_list_eq_equiv.symm a b

-- ---- one more import

-- an import of that field name is there
pub kept_name : (imports : List HostImport) (t : ImportSlot) (name : List ℕ) → name ≡ t.item.name
    → is_some (place_of_name name imports) ≡ true → imports ≡ insert_key has_same_name imports (first_slot t)
kept_name imports t name is there =
    let any : list_any (has_same_name (first_slot t)) imports ≡ true = any_placed (has_same_name (first_slot t)) imports ∙ rw (← is) there in
    rw any refl

-- none is there
pub added_name : (imports : List HostImport) (t : ImportSlot) (name : List ℕ) → name ≡ t.item.name
    → is_some (place_of_name name imports) ≡ false → imports ++ first_slot t ∷ [] ≡ insert_key has_same_name imports (first_slot t)
added_name imports t name is absent =
    let any : list_any (has_same_name (first_slot t)) imports ≡ false = any_placed (has_same_name (first_slot t)) imports ∙ rw (← is) absent in
    rw any refl

-- the map gives its place
pub told_name : (imports : List HostImport) (t : ImportSlot) (q name : List ℕ) (new old : Option ℕ) (place : ℕ) → name ≡ t.item.name
    → is_some (place_of_name name imports) ≡ false → place ≡ length imports → old ≡ place_of_name q imports
    → new ≡ cond (bytes_eq name q) (Some place) old → new ≡ place_of_name q (imports ++ first_slot t ∷ [])
told_name imports t q name new old place is absent at was e =
    one_more (λ (h : HostImport). bytes_eq q h.name) imports (first_slot t) (bytes_eq name q) new old place
    (same_back name q ∙ ap (bytes_eq q) is) at was
    (λ so. let here : name ≡ q = (bytes_eq-Decides name q).0 so in rw here at absent) e

-- an import of that module and field name is there
pub kept_names : (imports : List HostImport) (t : ImportSlot) (origin name : List ℕ) → origin ≡ t.item.origin → name ≡ t.item.name
    → is_some (place_of_import origin name imports) ≡ true → imports ≡ insert_key has_same_names imports (first_slot t)
kept_names imports t origin name from is there =
    let any : list_any (has_same_names (first_slot t)) imports ≡ true = any_placed (has_same_names (first_slot t)) imports ∙ rw (← from, ← is) there in
    rw any refl

-- none is there
pub added_names : (imports : List HostImport) (t : ImportSlot) (origin name : List ℕ) → origin ≡ t.item.origin → name ≡ t.item.name
    → is_some (place_of_import origin name imports) ≡ false → imports ++ first_slot t ∷ [] ≡ insert_key has_same_names imports (first_slot t)
added_names imports t origin name from is absent =
    let any : list_any (has_same_names (first_slot t)) imports ≡ false = any_placed (has_same_names (first_slot t)) imports ∙ rw (← from, ← is) absent in
    rw any refl

-- the map gives its place
pub told_names : (imports : List HostImport) (t : ImportSlot) (o q origin name : List ℕ) (new old : Option ℕ) (place : ℕ)
    → origin ≡ t.item.origin → name ≡ t.item.name
    → is_some (place_of_import origin name imports) ≡ false → place ≡ length imports → old ≡ place_of_import o q imports
    → new ≡ cond (bytes_eq origin o && bytes_eq name q) (Some place) old → new ≡ place_of_import o q (imports ++ first_slot t ∷ [])
told_names imports t o q origin name new old place from is absent at was e =
    let left : bytes_eq origin o ≡ bytes_eq o t.item.origin = same_back origin o ∙ ap (bytes_eq o) from in
    let right : bytes_eq name q ≡ bytes_eq q t.item.name = same_back name q ∙ ap (bytes_eq q) is in
    one_more (λ (h : HostImport). bytes_eq o h.module_ && bytes_eq q h.name) imports (first_slot t) (bytes_eq origin o && bytes_eq name q) new old place
    (rw (left, right) refl) at was
    (λ so.
    let eo : origin ≡ o = (bytes_eq-Decides origin o).0 (and_parts (bytes_eq origin o) (bytes_eq name q) so).0 in
    let eq : name ≡ q = (bytes_eq-Decides name q).0 (and_parts (bytes_eq origin o) (bytes_eq name q) so).1 in
    rw (eo, eq) at absent) e

-- ---- first occurrences, seen through a function

any_map : {X Y : Type 0} (f : X → Y) (test : Y → Bool) (xs : List X) → list_any test (map f xs) ≡ list_any (λ x. test (f x)) xs
any_map f test [] = refl
any_map f test (x ∷ xs) = ap (λ b. test (f x) || b) (any_map f test xs)

map_key : {X Y : Type 0} (f : X → Y) (E : Y → Y → Bool) (seen : List X) (x : X)
    → map f (insert_key (λ a b. E (f a) (f b)) seen x) ≡ insert_key E (map f seen) (f x)
map_key f E seen x = elim (cases_Bool (list_any (λ y. E (f x) (f y)) seen)) [
  | inl so ↦ (let there : list_any (E (f x)) (map f seen) ≡ true = any_map f (E (f x)) seen ∙ so in rw (so, there) refl)
  | inr not_so ↦ (let absent : list_any (E (f x)) (map f seen) ≡ false = any_map f (E (f x)) seen ∙ not_so in rw (not_so, absent) (map-append f seen (x ∷ [])))
]

pub map_all : {X Y : Type 0} (f : X → Y) (E : Y → Y → Bool) (seen xs : List X)
    → insert_all E (map f seen) (map f xs) ≡ map f (insert_all (λ a b. E (f a) (f b)) seen xs)
map_all f E seen [] = refl
map_all f E seen (x ∷ xs) =
    ap (λ ks. insert_all E ks (map f xs)) (sym (map_key f E seen x)) ∙ map_all f E (insert_key (λ a b. E (f a) (f b)) seen x) xs

-- ---- names of stubs

more_slots : (objects : List Object) (slots : List ImportSlot) (t : ImportSlot) (q : List ℕ)
    → is_stub_name objects (slots ++ t ∷ []) q ≡ (is_stub_name objects slots q && (not (bytes_eq q t.item.name) || is_weak_slot objects t))
more_slots objects slots t q =
    let test : ImportSlot → Bool = λ (s : ImportSlot). not (bytes_eq q s.item.name) || is_weak_slot objects s in
    list_all-append test slots (t ∷ []) ∙ ap (λ b. list_all test slots && b) (and-true (test t))

-- what a map says of a name after one more slot
pub names_more : (objects : List Object) (look : List ℕ → Option Bool) (new : Option Bool) (q name : List ℕ) (slots : List ImportSlot)
    (t : ImportSlot) (had both : Bool) → new ≡ cond (bytes_eq name q) (Some both) (look q)
    → had ≡ unwrap_or (look name) true → name ≡ t.item.name → both ≡ (had && is_weak_slot objects t)
    → ((ds : List ℕ) → unwrap_or (look ds) true ≡ is_stub_name objects slots ds)
    → unwrap_or new true ≡ is_stub_name objects (slots ++ t ∷ []) q
names_more objects look new q name slots t had both e h is b all = elim (cases_Bool (bytes_eq name q)) [
  | inl so ↦
      (let here : name ≡ q = (bytes_eq-Decides name q).0 so in
      let same : bytes_eq q t.item.name ≡ true = sym (same_back name q ∙ ap (bytes_eq q) is) ∙ so in
      let told : new ≡ Some both = e ∙ ap (λ c. cond c (Some both) (look q)) so in
      let was : had ≡ is_stub_name objects slots q = h ∙ all name ∙ ap (is_stub_name objects slots) here in
      ap (λ o. unwrap_or o true) told ∙ b ∙ ap (λ c. c && is_weak_slot objects t) was
      ∙ sym (more_slots objects slots t q ∙ rw same refl))
  | inr not_so ↦
      (let other : bytes_eq q t.item.name ≡ false = sym (same_back name q ∙ ap (bytes_eq q) is) ∙ not_so in
      let told : new ≡ look q = e ∙ ap (λ c. cond c (Some both) (look q)) not_so in
      ap (λ o. unwrap_or o true) told ∙ all q
      ∙ sym (more_slots objects slots t q ∙ rw other (and-true (is_stub_name objects slots q))))
]

pass_at : {X : Type 0} (p : X → Bool) (xs : List X) (k : ℕ) (x : X) → k < length xs → slice_index_or xs k x ≡ x → list_all p xs ≡ true → p x ≡ true
pass_at p [] k x lt is e = absurd (omega (arith, lt))
pass_at p (y ∷ xs) zero x lt is e = rw (← is) (and_parts (p y) (list_all p xs) e).0
pass_at p (y ∷ xs) (suc k) x lt is e = pass_at p xs k x (omega (arith, lt)) is (and_parts (p y) (list_all p xs) e).1

pub pass_in : {X : Type 0} (p : X → Bool) (xs : List X) (x : X) → Contains xs x → list_all p xs ≡ true → p x ≡ true
pass_in p xs x listed e = pass_at p xs listed.0 x listed.1 listed.2 e

-- a slot of the list is a stub's where its name is
pub stub_by_name : (objects : List Object) (slots : List ImportSlot) (t : ImportSlot) → Contains slots t
    → is_stub_name objects slots t.item.name ≡ is_stub objects slots t
stub_by_name objects slots t listed = elim (cases_Bool (is_stub_name objects slots t.item.name)) [
  | inr not_so ↦ not_so ∙ sym (rw not_so (and-false (is_weak_slot objects t)))
  | inl so ↦
      (let self : bytes_eq t.item.name t.item.name ≡ true = (bytes_eq-Decides t.item.name t.item.name).1 refl in
      let passes : (not (bytes_eq t.item.name t.item.name) || is_weak_slot objects t) ≡ true =
      pass_in (λ (s : ImportSlot). not (bytes_eq t.item.name s.item.name) || is_weak_slot objects s) slots t listed so in
      let weak : is_weak_slot objects t ≡ true = rw self at passes in
      so ∙ sym (rw (weak, so) refl))
]

-- those that pass one of two tests that agree on the list
pub filter_in : {X : Type 0} (p q : X → Bool) (xs : List X) → ((x : X) → Contains xs x → p x ≡ q x) → filter p xs ≡ filter q xs
filter_in p q [] agree = refl
filter_in p q (x ∷ xs) agree =
    let here : p x ≡ q x = agree x (zero, omega arith, refl) in
    rw (here, filter_in p q xs (λ y listed. agree y (Contains-append_right (x ∷ []) xs y listed))) refl

-- the slots of stubs by a map that gives their names
pub told_stubs : (objects : List Object) (slots : List ImportSlot) (told : List ℕ → Bool) → ((q : List ℕ) → told q ≡ is_stub_name objects slots q)
    → filter (λ (t : ImportSlot). told t.item.name) slots ≡ filter (is_stub objects slots) slots
told_stubs objects slots told says = filter_in (λ (t : ImportSlot). told t.item.name) (is_stub objects slots) slots (λ t listed. says t.item.name ∙ stub_by_name objects slots t listed)

-- and the others
pub told_hosts : (objects : List Object) (slots : List ImportSlot) (told : List ℕ → Bool) → ((q : List ℕ) → told q ≡ is_stub_name objects slots q)
    → filter (λ (t : ImportSlot). not (told t.item.name)) slots ≡ filter (λ (t : ImportSlot). not (is_stub objects slots t)) slots
told_hosts objects slots told says = filter_in (λ (t : ImportSlot). not (told t.item.name)) (λ (t : ImportSlot). not (is_stub objects slots t)) slots (λ t listed. ap not (says t.item.name ∙ stub_by_name objects slots t listed))
