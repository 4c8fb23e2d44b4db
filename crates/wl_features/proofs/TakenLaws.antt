-- The names of the features that the output has.
use Rattle.std.proofs.Common.{◌≡◌, ◌≤◌, ◌++◌, ℕ, Bool, true, List, length, get_or, take, flat_map, map, Contains, Bor, bytes_eq, ap, ◌∙◌, IsPermutation, IsSorted}
use Rattle.std.specs.Cmp.Lexicographic.{nat_list_cmp_total, nat_list_eq_equiv, on_texts, texts_ties}
use Rattle.std.specs.Ordering.{on}
use Rattle.std.specs.List.{dedup}
use Rattle.std.specs.List.Sorted.{IsStrictlySortedBy}
use Rattle.std.proofs.lemmas.List.{take_all}
use Rattle.std.proofs.lemmas.List.Elements.{All-contains, Contains-get_or}
use Rattle.std.proofs.lemmas.List.Kept.{Contains-dedup, Contains-from_dedup, IsStrictlySortedBy-dedup}
use Rattle.std.proofs.lemmas.List.Sorted.{Contains-permutation, IsPermutation-map, IsPermutation-sym}
use Rattle.std.proofs.lemmas.Slice.Eq.{bytes_eq-Decides}
use Rattle.wl_linking.specs.Object.{Object}
use Rattle.wl_symbols.specs.Link.{Link}
use Rattle.wl_features.specs.Taken.{AreTaken, is_used, names_of, taken_names, by_bytes}
use Rattle.wl_features.proofs.AscendingLaws.{one_ascending, ascending_seen, dedup_seen}

-- a name in the output's list, and its bytes
abbrev pub Name : Type 0
Name = Bor (List ℕ)

abbrev pub bytes_of : List Name → List (List ℕ)
bytes_of names = map (λ (n : Name). n.now) names

abbrev pub is_same : Name → Name → Bool
is_same a b = bytes_eq a.now b.now

-- ---- all names

-- what all objects use, and what the words add after it
pub names_all : (link : Link) (count : ℕ) (used all : List Name) → length link.objects ≤ count
    → bytes_of used
    ≡ flat_map (λ (o : Object). names_of is_used o.features) (take count link.objects)
    → bytes_of all ≡ bytes_of used ++ link.args.extra_features → bytes_of all ≡ taken_names link
names_all link count used all le is more =
    let whole = rw (take_all count link.objects le) at is in
    more ∙ ap (λ (names : List (List ℕ)). names ++ link.args.extra_features) whole

-- ---- sorted, and once each

same_bytes : (x y : List ℕ) → bytes_eq x y ≡ true → x ≡ y
same_bytes x y = (bytes_eq-Decides x y).0

-- names that were sorted, and of which each is kept once
module _ (link : Link) (all sorted : List Name) (is : bytes_of all ≡ taken_names link)
    (moves : IsPermutation all sorted) where
  moved : IsPermutation (taken_names link) (bytes_of sorted)
  moved = rw is at (IsPermutation-map (λ (n : Name). n.now) all sorted moves)

  stays : (name : List ℕ) → Contains (taken_names link) name
      → Contains (dedup bytes_eq (bytes_of sorted)) name
  stays name at =
      Contains-dedup nat_list_eq_equiv same_bytes (bytes_of sorted) name
      (Contains-permutation (taken_names link) (bytes_of sorted) name moved at)

  stood : (name : List ℕ) → Contains (dedup bytes_eq (bytes_of sorted)) name
      → Contains (taken_names link) name
  stood name at =
      let back = IsPermutation-sym (taken_names link) (bytes_of sorted) moved in
      let seen = Contains-from_dedup bytes_eq (bytes_of sorted) name at in
      Contains-permutation (bytes_of sorted) (taken_names link) name back seen

  in_order : IsSorted (on (λ (n : Name). n.now) by_bytes) sorted
      → IsStrictlySortedBy by_bytes (bytes_of (dedup is_same sorted))
  in_order up =
      ascending_seen (λ (n : Name). n.now) by_bytes (dedup is_same sorted)
      (IsStrictlySortedBy-dedup (on_texts (λ (n : Name). n.now)) (λ x y. texts_ties x.now y.now)
      sorted up)

  pub taken_from : IsSorted (on (λ (n : Name). n.now) by_bytes) sorted
      → AreTaken link (bytes_of (dedup is_same sorted))
  taken_from up =
      let once = dedup_seen (λ (n : Name). n.now) bytes_eq sorted in
      record {
        all = λ k d lt.
            let names = taken_names link in
            rw once (stays (get_or names k d) (Contains-get_or names k d lt));
        no_other = rw once (λ k d lt. let kept = dedup bytes_eq (bytes_of sorted) in
            stood (get_or kept k d) (Contains-get_or kept k d lt));
        ascending = in_order up;
      }

-- ---- one list

pub has_taken : (link : Link) (a : List (List ℕ)) → AreTaken link a → (name : List ℕ)
    → Contains (taken_names link) name → Contains a name
has_taken link a taken name at = All-contains (Contains a) (taken_names link) name taken.all at

pub is_taken : (link : Link) (a : List (List ℕ)) → AreTaken link a → (name : List ℕ)
    → Contains a name → Contains (taken_names link) name
is_taken link a taken name at = All-contains (Contains (taken_names link)) a name taken.no_other at

pub one_taken : (link : Link) (a b : List (List ℕ)) → AreTaken link a → AreTaken link b → a ≡ b
one_taken link a b x y = one_ascending nat_list_cmp_total a b x.ascending y.ascending
    (λ name at. has_taken link b y name (is_taken link a x name at))
    (λ name at. has_taken link a x name (is_taken link b y name at))
