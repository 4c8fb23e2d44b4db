-- Keys with names: places in lists, and maps of places.
use Rattle.std.proofs.Common.{◌≡◌, ◌==◌, ◌||◌, ◌⊎◌, ◌+◌, ◌<◌, ℕ, suc, Bool, true, false, not, cond, List, [], ◌∷◌, ◌++◌, map, length, take, position, slice_get, Option, Some, None, is_some, refl, sym, ap, ◌∙◌, arith, inl, inr, if◌then◌else◌, nat_lt, true≢false, subst}
use Rattle.std.specs.HashMap.{HashMap, get_by, UpdatesBy}
use Rattle.std.specs.List.{list_any, position_or_len}
use Rattle.std.specs.Option.{option_or, option_map}
use Rattle.std.specs.Str.{bytes_eq}
use Rattle.std.proofs.lemmas.Bool.{cases_Bool}
use Rattle.std.proofs.lemmas.Grind.{common_steps}
use Rattle.std.proofs.lemmas.Slice.Eq.{bytes_eq-Decides}
use Rattle.std.specs.Map.{lookup}
use Rattle.indexmap.specs.IndexMap.{insert_entry}
use Rattle.std.proofs.lemmas.List.{length-take-le, map-append, take_more}
use Rattle.std.proofs.lemmas.Option.{get_or_from_slice_get}
use Rattle.std.proofs.lemmas.Map.Text.{hash_map_updates_str}
use denote.Ref.{Bor}
use Rattle.wl_bind.specs.GotSteps.{named, is_name, ArePlaces, add_entry, insert_all_as}
use Rattle.wl_bind.specs.Scan.{Named}
use Rattle.indexmap.specs.IndexSet.{insert_key, insert_all}

-- ---- places in lists

module _ {X : Type 0} (p : X → Bool) where
  next : (b : Bool) (n l : ℕ) → cond (nat_lt (cond (not b) (1 + n) 0) (suc l)) (Some (cond (not b) (1 + n) 0)) None ≡ cond b (Some 0) (option_map suc (cond (nat_lt n l) (Some n) None))
  next true n l = grind (arith, common_steps)
  next false n l = grind (arith, common_steps)

  position_cons : (x : X) (xs : List X) → position p (x ∷ xs) ≡ cond (p x) (Some 0) (option_map suc (position p xs))
  position_cons x xs = next (p x) (position_or_len p xs) (length xs)

  -- the place in a list with one more
  pub position_push : (xs : List X) (y : X) → position p (xs ++ y ∷ []) ≡ option_or (position p xs) (cond (p y) (Some (length xs)) None)
  position_push [] y = position_cons y [] ∙ only (p y)
    where
      only : (b : Bool) → cond b (Some 0) (option_map suc None) ≡ option_or None (cond b (Some 0) None)
      only true = refl
      only false = refl
  position_push (x ∷ xs) y =
      position_cons x (xs ++ y ∷ []) ∙ ap (λ r. cond (p x) (Some 0) (option_map suc r)) (position_push xs y)
      ∙ later (p x) (p y) (position p xs) (length xs) ∙ ap (λ r. option_or r (cond (p y) (Some (suc (length xs))) None)) (sym (position_cons x xs))
    where
      later : (b c : Bool) (r : Option ℕ) (l : ℕ) → cond b (Some 0) (option_map suc (option_or r (cond c (Some l) None))) ≡ option_or (cond b (Some 0) (option_map suc r)) (cond c (Some (suc l)) None)
      later true c r l = refl
      later false true None l = refl
      later false false None l = refl
      later false c (Some i) l = refl

-- ---- entries of keys with names

module _ {K V : Type 0} (eq : K → K → Bool) (k : K) (v : V) where
  any_lookup : (es : List (K × V)) → is_some (lookup (eq k) es) ≡ list_any (λ e. eq k e.0) es
  any_lookup [] = refl
  any_lookup (e ∷ es) = by (eq k e.0) (any_lookup es)
    where
      by : (b : Bool) → is_some (lookup (eq k) es) ≡ list_any (λ x. eq k x.0) es → is_some (cond b (Some e.1) (lookup (eq k) es)) ≡ (b || list_any (λ x. eq k x.0) es)
      by true h = refl
      by false h = h

  appended : (es : List (K × V)) → list_any (λ e. eq k e.0) es ≡ false → insert_entry eq es k v ≡ es ++ (k, v) ∷ []
  appended [] none = refl
  appended (e ∷ es) none = by (eq k e.0) none (appended es)
    where
      by : (b : Bool) → (b || list_any (λ x. eq k x.0) es) ≡ false → (list_any (λ x. eq k x.0) es ≡ false → insert_entry eq es k v ≡ es ++ (k, v) ∷ [])
          → (if b then (e.0, v) ∷ es else e ∷ insert_entry eq es k v) ≡ e ∷ es ++ (k, v) ∷ []
      by true none h = absurd (true≢false none)
      by false none h = ap (λ l. e ∷ l) (h none)

module _ {K : Type 0} (eq : K → K → Bool) (k : K) (name : Bor (List ℕ)) (es : List (K × Bor (List ℕ))) where
  any_named : (xs : List (K × Bor (List ℕ))) → list_any (λ (o : Named K). eq k o.key) (map named xs) ≡ list_any (λ e. eq k e.0) xs
  any_named [] = refl
  any_named (x ∷ xs) = ap (λ b. eq k x.0 || b) (any_named xs)

  -- a key that is there adds nothing
  pub named_there : is_some (lookup (eq k) es) ≡ true → map named es ≡ add_entry eq (map named es) (Some (named (k, name)))
  named_there there = let any = any_named es ∙ sym (any_lookup eq k name es) ∙ there in rw any refl

  -- a new key goes last
  pub named_new : (new : List (K × Bor (List ℕ))) → new ≡ insert_entry eq es k name → is_some (lookup (eq k) es) ≡ false
      → map named new ≡ add_entry eq (map named es) (Some (named (k, name)))
  named_new new is absent =
      let none = sym (any_lookup eq k name es) ∙ absent in
      let any = any_named es ∙ none in
      ap (map named) (is ∙ appended eq k name es none) ∙ (map-append named es ((k, name) ∷ []) ∙ rw any refl)

-- ---- places of names

or_none : {X : Type 0} (r : Option X) → option_or r None ≡ r
or_none None = refl
or_none (Some x) = refl

not_some : {X : Type 0} (r : Option X) → is_some r ≡ false → r ≡ None
not_some None e = refl
not_some (Some x) e = absurd (true≢false e)

module _ {S : Type 0} (m n : HashMap (Bor (List ℕ)) ℕ S) (name : List ℕ) (place : ℕ) where
  -- a name that had no place has the new one
  pub noted : (length name == 0) ≡ false → is_some (get_by (λ k. bytes_eq name k.now) m) ≡ false
      → UpdatesBy (λ x y. bytes_eq x.now y.now) (λ k. bytes_eq name k.now) m n (Some place)
      → (wanted : List ℕ) → get_by (λ k. bytes_eq wanted k.now) n ≡ option_or (get_by (λ k. bytes_eq wanted k.now) m) (cond (is_name wanted name) (Some place) None)
  noted named absent updates wanted = hash_map_updates_str name m n (Some place) updates wanted ∙ by (cases_Bool (bytes_eq name wanted))
    where
      by : (bytes_eq name wanted ≡ true) ⊎ (bytes_eq name wanted ≡ false) → cond (bytes_eq name wanted) (Some place) (get_by (λ k. bytes_eq wanted k.now) m) ≡ option_or (get_by (λ k. bytes_eq wanted k.now) m) (cond (is_name wanted name) (Some place) None)
      by (inl same) =
          let e : name ≡ wanted = (bytes_eq-Decides name wanted).0 same in
          let none : get_by (λ k. bytes_eq wanted k.now) m ≡ None = not_some (get_by (λ k. bytes_eq wanted k.now) m) (subst (λ (w : List ℕ). is_some (get_by (λ k. bytes_eq w k.now) m) ≡ false) e absent) in
          let long : (length wanted == 0) ≡ false = subst (λ (w : List ℕ). (length w == 0) ≡ false) e named in
          rw (same, none, long) refl
      by (inr other) = elim (cases_Bool (length wanted == 0)) [
        | inl empty ↦ rw (other, empty) (sym (or_none (get_by (λ k. bytes_eq wanted k.now) m)))
        | inr long ↦ rw (other, long) (sym (or_none (get_by (λ k. bytes_eq wanted k.now) m)))
      ]

-- the places after one more key
pub places_more : {K S : Type 0} (m n : HashMap (Bor (List ℕ)) ℕ S) (es : List (K × Bor (List ℕ))) (i : ℕ) (e : K × Bor (List ℕ)) → i < length es
    → slice_get es i ≡ Some e → ArePlaces m (take i es)
    → ((wanted : List ℕ) → get_by (λ q. bytes_eq wanted q.now) n ≡ option_or (get_by (λ q. bytes_eq wanted q.now) m) (cond (is_name wanted e.1.now) (Some i) None))
    → ArePlaces n (take (i + 1) es)
places_more {K} m n es i e lt here before after wanted =
    let test = λ (x : K × Bor (List ℕ)). is_name wanted x.1.now in
    let long : length (take i es) ≡ i = length-take-le i es (omega (arith, lt)) in
    let more : take (i + 1) es ≡ take i es ++ e ∷ [] = take_more es i e lt ∙ ap (λ x. take i es ++ x ∷ []) (get_or_from_slice_get es i e e here) in
    after wanted ∙ ap (λ r. option_or r (cond (test e) (Some i) None)) (before wanted)
    ∙ ap (λ (l : ℕ). option_or (position test (take i es)) (cond (test e) (Some l) None)) (sym long)
    ∙ sym (ap (position test) more ∙ position_push test (take i es) e)

-- ---- entries of keys

module _ {K : Type 0} (eq : K → K → Bool) (entry : K → Named K) (back : (k : K) → (entry k).key ≡ k) where
  any_entry : (k : K) (ks : List K) → list_any (λ (e : Named K). eq k e.key) (map entry ks) ≡ list_any (eq k) ks
  any_entry k [] = refl
  any_entry k (x ∷ ks) = rw (back x, any_entry k ks) refl

  one_as : (k : K) (ks : List K) → add_entry eq (map entry ks) (Some (entry k)) ≡ map entry (insert_key eq ks k)
  one_as k ks =
      let any = ap (λ x. list_any (λ (e : Named K). eq x e.key) (map entry ks)) (back k) ∙ any_entry k ks in
      rw any (by (list_any (eq k) ks))
    where
      by : (b : Bool) → (if b then map entry ks else map entry ks ++ entry k ∷ []) ≡ map entry (if b then ks else ks ++ k ∷ [])
      by true = refl
      by false = sym (map-append entry ks (k ∷ []))

  -- the entries of keys are added as the keys are
  pub all_as : (ks xs : List K) → insert_all_as eq entry (map entry ks) xs ≡ map entry (insert_all eq ks xs)
  all_as ks [] = refl
  all_as ks (x ∷ xs) = ap (λ es. insert_all_as eq entry es xs) (one_as x ks) ∙ all_as (insert_key eq ks x) xs
