-- What is known follows the objects.
use Rattle.std.proofs.Common.{◌≡◌, ◌∙◌, ◌<◌, ℕ, zero, suc, true, false, List, [], ◌∷◌, ◌++◌, length, get_or, set, refl, sym, ap, subst, Result, Ok, Err, OnOk, OnErr, is_ok, is_err}
use Rattle.std.specs.List.{AllZip}
use Rattle.wl_lists.proofs.Beside.{zip_joined}
use Rattle.wl_linking.specs.Object.{Object}
use Rattle.wl_symbols.specs.Entries.{Entry}
use Rattle.wl_symbols.specs.Index.{index_of}
use Rattle.wl_live.specs.Facts.{Facts, AreFacts}
use Rattle.wl_session.specs.Known.{IsKnown}

pub each_replaced : {X Y : Type 0} (R : X → Y → Type 0) (xs : List X) (ys : List Y) (k : ℕ) (x : X) (y : Y) → AllZip R xs ys → R x y → AllZip R (set xs k x) (set ys k y)
each_replaced R [] [] k x y h r = tt
each_replaced R [] (b ∷ ys) k x y h r = absurd h
each_replaced R (a ∷ xs) [] k x y h r = absurd h
each_replaced R (a ∷ xs) (b ∷ ys) zero x y h r = (r, h.1)
each_replaced R (a ∷ xs) (b ∷ ys) (suc k) x y h r = (h.0, each_replaced R xs ys k x y h.1 r)

-- ---- what is known of objects follows them, where the names do

pub known_pushed : {T E : Type 0} (r : Result T E) (names new_names : List (List Entry)) (facts new_facts : List Facts) (object : ℕ) (o : Object) (f : Facts) → AreFacts o f → new_facts ≡ facts ++ f ∷ [] → OnOk r ((objects : List Object) → names ≡ index_of objects → object ≡ length objects → new_names ≡ index_of (objects ++ o ∷ [])) → OnOk r ((objects : List Object) → IsKnown objects names facts → object ≡ length objects → IsKnown (objects ++ o ∷ []) new_names new_facts)
known_pushed (Ok v) names new_names facts new_facts object o f is more follow = λ objects known last. record {
  names_are = follow objects known.names_are last;
  facts_are = rw more (zip_joined AreFacts objects (o ∷ []) facts (f ∷ []) known.facts_are (is, tt));
}
known_pushed (Err e) names new_names facts new_facts object o f is more follow = follow

pub known_replaced : (names new_names : List (List Entry)) (facts new_facts : List Facts) (object : ℕ) (o : Object) (f : Facts) → AreFacts o f → new_facts ≡ set facts object f → ((objects : List Object) → names ≡ index_of objects → object < length objects → new_names ≡ index_of (set objects object o)) → (objects : List Object) → IsKnown objects names facts → object < length objects → IsKnown (set objects object o) new_names new_facts
known_replaced names new_names facts new_facts object o f is more follow = λ objects known within. record {
  names_are = follow objects known.names_are within;
  facts_are = rw more (each_replaced AreFacts objects facts object o f known.facts_are is);
}

-- ---- one after the other

pub where_ok : {T E : Type 0} (r : Result T E) (P : Type 0) → true ≡ is_ok r → OnOk r P → P
where_ok (Ok v) P is p = p
where_ok (Err e) P is p = absurd cc

pub where_not_err : {T E : Type 0} (r : Result T E) (P : Type 0) → false ≡ is_err r → OnOk r P → P
where_not_err (Ok v) P is p = p
where_not_err (Err e) P is p = absurd cc

pub on_err : {T E : Type 0} (r : Result T E) (P : Type 0) → P → OnErr r P
on_err (Ok v) P p = tt
on_err (Err e) P p = p

last_is : {X : Type 0} (xs : List X) (x d : X) → get_or (xs ++ x ∷ []) (length xs) d ≡ x
last_is [] x d = refl
last_is (y ∷ xs) x d = last_is xs x d

-- the last of the objects is the one that was pushed
pub last_object : (files new slice : List Object) (o file : Object) (object : ℕ) → object ≡ length files → new ≡ files ++ file ∷ [] → slice ≡ new → o ≡ get_or slice object o → o ≡ file
last_object files new slice o file object last pushed same is =
    is ∙ rw (same, pushed, last) (last_is files file o)

pub known_of : (files new : List Object) (o file : Object) (names : List (List Entry)) (facts : List Facts) → o ≡ file → new ≡ files ++ file ∷ [] → IsKnown (files ++ o ∷ []) names facts → IsKnown new names facts
known_of files new o file names facts same pushed known =
    subst (λ (fs : List Object). IsKnown fs names facts) (sym pushed)
    (subst (λ (x : Object). IsKnown (files ++ x ∷ []) names facts) same known)

-- ---- the last that was pushed is taken away

never_empty : {X : Type 0} (ys : List X) (y : X) → [] ≡ ys ++ y ∷ [] → ⊥
never_empty [] y e = cc
never_empty (b ∷ ys) y e = cc

pub same_front : {X : Type 0} (xs ys : List X) (x y : X) → xs ++ x ∷ [] ≡ ys ++ y ∷ [] → ys ≡ xs
same_front [] [] x y e = refl
same_front [] (b ∷ ys) x y e = let rest : [] ≡ ys ++ y ∷ [] = cc in absurd (never_empty ys y rest)
same_front (a ∷ xs) [] x y e = let rest : xs ++ x ∷ [] ≡ [] = cc in absurd (never_empty xs x (sym rest))
same_front {X} (a ∷ xs) (b ∷ ys) x y e =
    let rest : xs ++ x ∷ [] ≡ ys ++ y ∷ [] = cc in
    let head : b ≡ a = cc in
    ap (λ (z : X). z ∷ ys) head ∙ ap (λ (zs : List X). a ∷ zs) (same_front xs ys x y rest)
