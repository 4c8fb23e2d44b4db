-- Whether a name is among those of a list.
use Rattle.std.proofs.Common.{◌≡◌, ◌+◌, ◌<◌, ℕ, true, false, List, [], ◌∷◌, ◌++◌, cond, append-nil, ◌||◌, filter, length, get_or, take, Contains, Some, slice_get, bytes_eq, refl, sym, ap, ◌∙◌, subst, eq-eqb}
use Rattle.std.proofs.Math.Bool.{or-false}
use Rattle.std.specs.Cmp.Lexicographic.{nat_list_eq_equiv, same_text}
use Rattle.std.specs.List.{list_any}
use Rattle.std.specs.Option.{option_map}
use Rattle.std.proofs.lemmas.Bool.{or_from, ne_eqb}
use Rattle.std.proofs.lemmas.List.{map_more, map-append}
use Rattle.std.proofs.lemmas.List.Elements.{filter_more}
use Rattle.std.proofs.lemmas.List.Folds.{list_any-append}
use Rattle.std.proofs.lemmas.Map.Views.{Contains-from_any, list_any-from_Contains}
use Rattle.std.proofs.lemmas.Option.{slice_get-map, slice_get-get_or}
use Rattle.wl_custom.specs.Features.{Feature}
use Rattle.wl_custom.specs.declared.features.TheConstants.{TARGET_FEATURE_PREFIX_DISALLOWED}
use Rattle.wl_features.specs.Taken.{names_of}
use Rattle.wl_features.specs.Faults.{is_disallowed}
use Rattle.wl_features.proofs.AscendingLaws.{contains_at}
use Rattle.wl_features.proofs.TakenLaws.{Name, bytes_of}

-- ---- by tests

pub has_name : (names : List (List ℕ)) (name : List ℕ) → list_any (bytes_eq name) names ≡ true
    → Contains names name
has_name names name on = Contains-from_any (λ x y e. same_text x y (sym e)) name names on

pub name_found : (names : List (List ℕ)) (name : List ℕ) → Contains names name
    → list_any (bytes_eq name) names ≡ true
name_found names name at = list_any-from_Contains nat_list_eq_equiv name names at

pub lacks_name : (names : List (List ℕ)) (name : List ℕ) → list_any (bytes_eq name) names ≡ false
    → Contains names name → ⊥
lacks_name names name off at = let on = name_found names name at in cc

-- one more name, which isn't this one
none_more : (names : List (List ℕ)) (name own : List ℕ) → list_any (bytes_eq name) names ≡ false
    → bytes_eq own name ≡ false
    → list_any (bytes_eq name) (names ++ own ∷ []) ≡ false
none_more names name own before other =
    let back : bytes_eq name own ≡ false = nat_list_eq_equiv.symm name own ∙ other in
    let test = bytes_eq name in
    let one : list_any test (own ∷ []) ≡ false = rw back refl in
    list_any-append test names (own ∷ [])
    ∙ or_from (list_any test names) (list_any test (own ∷ [])) before one

-- ---- in a list of names

-- the bytes of the name at a place
pub name_at : (names : List Name) (k : ℕ) (d : Name) → k < length names
    → slice_get (bytes_of names) k ≡ Some (get_or names k d).now
name_at names k d lt =
    slice_get-map (λ (m : Name). m.now) names k
    ∙ ap (option_map (λ (m : Name). m.now)) (slice_get-get_or names k d lt)

pub found_at : (names : List Name) (name : List ℕ) (k : ℕ) (d : Name) → k < length names
    → true ≡ bytes_eq (get_or names k d).now name
    → true ≡ list_any (bytes_eq name) (bytes_of names)
found_at names name k d lt same =
    let own = contains_at (bytes_of names) k (get_or names k d).now (name_at names k d lt) in
    sym (name_found (bytes_of names) name (rw (same_text (get_or names k d).now name same) at own))

pub none_next : (names : List Name) (name : List ℕ) (k : ℕ) (d : Name) → k < length names
    → false ≡ bytes_eq (get_or names k d).now name
    → list_any (bytes_eq name) (bytes_of (take k names)) ≡ false
    → list_any (bytes_eq name) (bytes_of (take (k + 1) names)) ≡ false
none_next names name k d lt other before =
    rw (map_more (λ (m : Name). m.now) names k d lt)
    (none_more (bytes_of (take k names)) name (get_or names k d).now before (sym other))

-- ---- among features

-- an object's feature as its fields
abbrev pub feature_of : ℕ → List ℕ → Feature
feature_of prefix name = record { prefix = prefix; name = name }

module _ (features : List Feature) (k : ℕ) (f : Feature) (lt : k < length features)
    (is : f ≡ get_or features k f)
    (prefix : ℕ) (own : List ℕ) (seen : feature_of prefix own ≡ f) (name : List ℕ) where
  more : filter is_disallowed (take (k + 1) features)
      ≡ filter is_disallowed (take k features)
      ++ cond (is_disallowed (feature_of prefix own)) (feature_of prefix own ∷ []) []
  more = subst (λ (g : Feature). filter is_disallowed (take (k + 1) features)
      ≡ filter is_disallowed (take k features) ++ cond (is_disallowed g) (g ∷ []) [])
      (sym (seen ∙ is)) (filter_more is_disallowed features k f lt)

  pub disallowed_more : prefix ≡ TARGET_FEATURE_PREFIX_DISALLOWED
      → list_any (bytes_eq name) (names_of is_disallowed (take (k + 1) features))
      ≡ (list_any (bytes_eq name) (names_of is_disallowed (take k features)) || bytes_eq own name)
  disallowed_more off =
      let test = bytes_eq name in
      let before = names_of is_disallowed (take k features) in
      let one : list_any test (own ∷ []) ≡ bytes_eq own name = or-false (bytes_eq name own)
      ∙ nat_list_eq_equiv.symm name own in
      rw (more, eq-eqb prefix TARGET_FEATURE_PREFIX_DISALLOWED off, map-append)
      (list_any-append test before (own ∷ []) ∙ ap (λ b. list_any test before || b) one)

  pub other_more : (prefix ≡ TARGET_FEATURE_PREFIX_DISALLOWED → ⊥)
      → list_any (bytes_eq name) (names_of is_disallowed (take (k + 1) features))
      ≡ list_any (bytes_eq name) (names_of is_disallowed (take k features))
  other_more off = rw (more, ne_eqb prefix TARGET_FEATURE_PREFIX_DISALLOWED off, append-nil) refl
