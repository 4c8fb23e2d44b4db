-- Two listings that are compared line by line.
use Rattle.std.proofs.Common.{◌≡◌, ◌≢◌, ◌∙◌, ℕ, zero, suc, ◌+◌, ◌<◌, ◌≤◌, Bool, true, false, cond, eqb, List, [], ◌∷◌, ◌++◌, length, take, drop, get_or, Option, Some, None, slice_get, refl, sym, ap, subst, arith, inl, inr, append_assoc, append-nil, length-append}
use Rattle.std.specs.Prelude.{◌⊎◌}
use Rattle.std.specs.List.{AllByRecursion, flat_map}
use Rattle.std.proofs.lemmas.Bool.{cases_lt}
use Rattle.memchr.specs.Find.{IsFirstByte, Nowhere, Passes, is_byte}
use Rattle.wl_check.specs.declared.difference.Difference.{Difference}
use Rattle.wl_check.specs.declared.line.Line.{Line}
use Rattle.wl_check.specs.Difference.{DiffersAt, IsDifference}
use Rattle.wl_check.specs.DifferenceSteps.{AreAlike, StandApart}
use Rattle.wl_check.specs.LineReading.{line_at}
use Rattle.wl_check.specs.Ranges.{InRange}
use Rattle.wl_check.specs.Reading.{strip}
use Rattle.wl_check.specs.Spelled.{IsListing, Spelled, first_stretch}
use Rattle.wl_check.specs.Texts.{line_text, newline}
use Rattle.wl_check.proofs.Codes.{some_is}
use Rattle.wl_check.proofs.LineLaws.{line_code}
use Rattle.wl_check.proofs.ListingLaws.{front_stretch, line_some, line_stretch, prefix_free, same_lines}
use Rattle.wl_check.proofs.WordLaws.{strip_again, strip_found}

-- ---- the first stretch

none_is : {A : Type 0} (x : A) → None ≡ Some x → ⊥
none_is x e = cc

not_true : (b : Bool) → (b ≡ true → ⊥) → b ≡ false
not_true true never = absurd (never refl)
not_true false never = refl

-- all of a text without a line end
pub none_stretch : (text : List ℕ) → Nowhere (Passes (is_byte newline) text) 0 (length text) → first_stretch text ≡ text
none_stretch [] h = refl
none_stretch (b ∷ rest) h =
    let other : eqb b newline ≡ false = not_true (eqb b newline) (λ e. h 0 (omega arith) (omega arith) e) in
    let more = none_stretch rest (λ k low high p. h (suc k) (omega arith) (omega arith) p) in
    rw (other, more) refl

-- else all up to the first of these
pub some_stretch : (text : List ℕ) (k : ℕ) → k < length text → Nowhere (Passes (is_byte newline) text) 0 k → eqb (get_or text k 0) newline ≡ true → first_stretch text ≡ take (suc k) text
some_stretch [] k lt none is = absurd (omega arith)
some_stretch (b ∷ rest) zero lt none is = rw is refl
some_stretch (b ∷ rest) (suc k) lt none is =
    let other : eqb b newline ≡ false = not_true (eqb b newline) (λ e. none 0 (omega arith) (omega arith) e) in
    let more = some_stretch rest k (omega arith) (λ j low high p. none (suc j) (omega arith) (omega arith) p) is in
    rw (other, more) refl

-- it isn't longer than the text
pub stretch_within : (text : List ℕ) → length (first_stretch text) ≤ length text
stretch_within text =
    let f = front_stretch text in
    let whole = ap (λ (t : List ℕ). length t) f.1 in
    let parts = length-append (first_stretch text) f.0 in
    omega (arith, whole, parts)

-- and has a byte where the text has one
pub stretch_some : (text : List ℕ) → text ≢ [] → 0 < length (first_stretch text)
stretch_some [] some = absurd (some refl)
stretch_some (b ∷ rest) some = omega arith

-- that of a listing is its first line
pub stretch_is : (k : Line) (ks : List Line) (text : List ℕ) → IsListing (k ∷ ks) text → first_stretch text ≡ line_text k
stretch_is k ks text h =
    ap first_stretch h.joined ∙ line_stretch (line_text k) (flat_map line_text ks) k (record { in_range = h.in_range.0; text = refl })

empty_front : (xs ys : List ℕ) → xs ++ ys ≡ [] → xs ≡ []
empty_front [] ys e = refl
empty_front (x ∷ xs) ys e = absurd cc

-- a listing with a line has bytes
pub listing_some : (k : Line) (ks : List Line) (text : List ℕ) → IsListing (k ∷ ks) text → text ≢ []
listing_some k ks text h none = line_some k h.in_range.0 (empty_front (line_text k) (flat_map line_text ks) (sym h.joined ∙ none))

-- so one without bytes has no line
pub listing_none : (ks : List Line) (text : List ℕ) → IsListing ks text → text ≡ [] → ks ≡ []
listing_none [] text h none = refl
listing_none (k ∷ ks) text h none = absurd (listing_some k ks text h none)

-- ---- the first line

-- what is read first from a listing is its first line
pub line_is : (ks : List Line) (text : List ℕ) (l : Line) (behind : List ℕ) → IsListing ks text → line_at text ≡ Some (l, behind) → Some l ≡ slice_get ks 0
line_is [] text l behind h e =
    let f = line_code.found text (l, behind) e in
    absurd (line_some l f.0 (empty_front (line_text l) behind (sym f.1 ∙ h.joined)))
line_is (k ∷ ks) text l behind h e =
    let again = ap line_at h.joined ∙ line_code.again k h.in_range.0 (flat_map line_text ks) in
    let same = some_is (l, behind) (k, flat_map line_text ks) (sym e ∙ again) in
    ap (λ (p : Line × List ℕ). Some p.0) same

-- and where it has bytes a line is read
pub line_there : (ks : List Line) (text : List ℕ) → IsListing ks text → text ≢ [] → line_at text ≡ None → ⊥
line_there [] text h some e = some h.joined
line_there (k ∷ ks) text h some e =
    let again = ap line_at h.joined ∙ line_code.again k h.in_range.0 (flat_map line_text ks) in
    none_is (k, flat_map line_text ks) (sym e ∙ again)

-- ---- one more line that both have

drop_front : (xs ys : List ℕ) → drop (length xs) (xs ++ ys) ≡ ys
drop_front [] ys = refl
drop_front (x ∷ xs) ys = drop_front xs ys

some_length : (xs : List ℕ) → xs ≢ [] → 0 < length xs
some_length [] never = absurd (never refl)
some_length (x ∷ xs) never = omega arith

pub alike_first : (ks ls : List Line) (found want : List ℕ) → IsListing ks found → IsListing ls want → AreAlike found want 0 found want
alike_first ks ls found want h g = record {
  front = [];
  ks = ks;
  ls = ls;
  count = refl;
  found_is = h;
  want_is = g;
  found_rest = h;
  want_rest = g;
  enough = omega arith;
}

-- what is left after the first line
behind_line : (k : Line) (ks : List Line) (text rest : List ℕ) → IsListing (k ∷ ks) text → rest ≡ flat_map line_text ks → IsListing ks rest
behind_line k ks text rest h is = record { in_range = h.in_range.1; joined = is }

more_alike : (found want : List ℕ) (n : ℕ) (found_left want_left behind : List ℕ) (front ks ls : List Line) → length front ≡ n
    → IsListing (front ++ ks) found → IsListing (front ++ ls) want → IsListing ks found_left → IsListing ls want_left → n + length found_left ≤ length found
    → found_left ≢ [] → strip (first_stretch found_left) want_left ≡ Some behind
    → AreAlike found want (n + 1) (drop (length (first_stretch found_left)) found_left) behind
more_alike found want n found_left want_left behind front [] ls count f w fr wr enough some e = absurd (some fr.joined)
more_alike found want n found_left want_left behind front (k ∷ ks) [] count f w fr wr enough some e =
    let there = strip_found (first_stretch found_left) want_left behind e in
    let none : first_stretch found_left ≡ [] = empty_front (first_stretch found_left) behind (sym there ∙ wr.joined) in
    absurd (line_some k fr.in_range.0 (sym (stretch_is k ks found_left fr) ∙ none))
more_alike found want n found_left want_left behind front (k ∷ ks) (l ∷ ls) count f w fr wr enough some e =
    let stretch = stretch_is k ks found_left fr in
    let there : want_left ≡ line_text k ++ behind = strip_found (first_stretch found_left) want_left behind e ∙ ap (λ (t : List ℕ). t ++ behind) stretch in
    let p = prefix_free line_code k l behind (flat_map line_text ls) fr.in_range.0 wr.in_range.0 (sym there ∙ wr.joined) in
    let rest : drop (length (first_stretch found_left)) found_left ≡ flat_map line_text ks =
    ap (λ (t : List ℕ). drop (length t) found_left) stretch ∙ ap (drop (length (line_text k))) fr.joined ∙ drop_front (line_text k) (flat_map line_text ks) in
    let longer = length-append front (k ∷ []) in
    let left = ap (λ (t : List ℕ). length t) fr.joined ∙ length-append (line_text k) (flat_map line_text ks) in
    let right = ap (λ (t : List ℕ). length t) rest in
    let one = some_length (line_text k) (line_some k fr.in_range.0) in
    record {
      front = front ++ k ∷ [];
      ks = ks;
      ls = ls;
      count = omega (arith, longer, count);
      found_is = subst (λ (xs : List Line). IsListing xs found) (sym (append_assoc front (k ∷ []) ks)) f;
      want_is = subst (λ (xs : List Line). IsListing xs want) (ap (λ (x : Line). front ++ x ∷ ls) (sym p.0) ∙ sym (append_assoc front (k ∷ []) ls)) w;
      found_rest = behind_line k ks found_left _ fr rest;
      want_rest = behind_line l ls want_left behind wr p.1;
      enough = omega (arith, enough, left, right, one);
    }

pub alike_more : (found want : List ℕ) (n : ℕ) (found_left want_left behind : List ℕ) → AreAlike found want n found_left want_left → found_left ≢ []
    → strip (first_stretch found_left) want_left ≡ Some behind → AreAlike found want (n + 1) (drop (length (first_stretch found_left)) found_left) behind
alike_more found want n found_left want_left behind a some e =
    more_alike found want n found_left want_left behind a.front a.ks a.ls a.count a.found_is a.want_is a.found_rest a.want_rest a.enough some e

-- ---- where they end, or differ

take_front : (xs ys : List Line) (n : ℕ) → length xs ≡ n → take n (xs ++ ys) ≡ xs
take_front [] ys zero e = refl
take_front [] ys (suc n) e = absurd (omega arith)
take_front (x ∷ xs) ys zero e = absurd (omega arith)
take_front (x ∷ xs) ys (suc n) e = ap (λ (zs : List Line). x ∷ zs) (take_front xs ys n (omega arith))

get_behind : (xs ys : List Line) (n : ℕ) → length xs ≡ n → slice_get (xs ++ ys) n ≡ slice_get ys 0
get_behind [] ys zero e = refl
get_behind [] ys (suc n) e = absurd (omega arith)
get_behind (x ∷ xs) ys zero e = absurd (omega arith)
get_behind (x ∷ xs) ys (suc n) e = get_behind xs ys n (omega arith)

pub alike_whole : (found want : List ℕ) (n : ℕ) (found_left want_left : List ℕ) → AreAlike found want n found_left want_left → found_left ≡ [] → want_left ≡ []
    → (ks ls : List Line) → IsListing ks found → IsListing ls want → ks ≡ ls
alike_whole found want n found_left want_left a f w ks ls h g =
    let left : a.front ++ a.ks ≡ a.front = ap (λ (xs : List Line). a.front ++ xs) (listing_none a.ks found_left a.found_rest f) ∙ append-nil a.front in
    let right : a.front ++ a.ls ≡ a.front = ap (λ (xs : List Line). a.front ++ xs) (listing_none a.ls want_left a.want_rest w) ∙ append-nil a.front in
    same_lines ks (a.front ++ a.ks) found h a.found_is ∙ left ∙ sym right ∙ same_lines (a.front ++ a.ls) ls want a.want_is g

apart_by : (ks ls : List Line) (found_left want_left : List ℕ) → IsListing ks found_left → IsListing ls want_left → StandApart found_left want_left
    → (found_left ≡ [] → want_left ≡ [] → ⊥) → slice_get ks 0 ≡ slice_get ls 0 → ⊥
apart_by [] [] found_left want_left h g s some same = some h.joined g.joined
apart_by [] (l ∷ ls) found_left want_left h g s some same = absurd cc
apart_by (k ∷ ks) [] found_left want_left h g s some same = absurd cc
apart_by (k ∷ ks) (l ∷ ls) found_left want_left h g (inl none) some same = listing_some k ks found_left h none
apart_by (k ∷ ks) (l ∷ ls) found_left want_left h g (inr none) some same =
    let one : k ≡ l = cc in
    let there : want_left ≡ line_text k ++ flat_map line_text ls = g.joined ∙ ap (λ (x : Line). line_text x ++ flat_map line_text ls) (sym one) in
    let found : strip (first_stretch found_left) want_left ≡ Some (flat_map line_text ls) =
    ap (λ (t : List ℕ). strip t want_left) (stretch_is k ks found_left h) ∙ ap (strip (line_text k)) there ∙ strip_again (line_text k) (flat_map line_text ls) in
    none_is (flat_map line_text ls) (sym none ∙ found)

pub alike_differ : (found want : List ℕ) (n : ℕ) (found_left want_left : List ℕ) (here there : Option Line) → AreAlike found want n found_left want_left → StandApart found_left want_left
    → (found_left ≡ [] → want_left ≡ [] → ⊥) → ((ks : List Line) → IsListing ks found_left → here ≡ slice_get ks 0) → ((ls : List Line) → IsListing ls want_left → there ≡ slice_get ls 0)
    → (ks ls : List Line) → IsListing ks found → IsListing ls want → DiffersAt ks ls n here there
alike_differ found want n found_left want_left here there a s some h g ks ls f w =
    let left = same_lines ks (a.front ++ a.ks) found f a.found_is in
    let right = same_lines ls (a.front ++ a.ls) want w a.want_is in
    let first = h a.ks a.found_rest in
    let second = g a.ls a.want_rest in
    record {
      same = ap (take n) left ∙ take_front a.front a.ks n a.count ∙ sym (take_front a.front a.ls n a.count) ∙ sym (ap (take n) right);
      found_here = first ∙ sym (get_behind a.front a.ks n a.count) ∙ sym (ap (λ (xs : List Line). slice_get xs n) left);
      want_there = second ∙ sym (get_behind a.front a.ls n a.count) ∙ sym (ap (λ (xs : List Line). slice_get xs n) right);
      apart = λ same. apart_by a.ks a.ls found_left want_left a.found_rest a.want_rest s some (sym first ∙ same ∙ second);
    }

-- ---- one place

get_taken : (xs ys : List Line) (n m : ℕ) → n < m → take m xs ≡ take m ys → slice_get xs n ≡ slice_get ys n
get_taken xs ys n zero lt same = absurd (omega arith)
get_taken [] [] n (suc m) lt same = refl
get_taken [] (y ∷ ys) n (suc m) lt same = absurd cc
get_taken (x ∷ xs) [] n (suc m) lt same = absurd cc
get_taken (x ∷ xs) (y ∷ ys) zero (suc m) lt same =
    let one : x ≡ y = cc in
    ap (λ (z : Line). Some z) one
get_taken (x ∷ xs) (y ∷ ys) (suc n) (suc m) lt same =
    let rest : take m xs ≡ take m ys = cc in
    get_taken xs ys n m (omega arith) rest

never_before : (ks ls : List Line) (n m : ℕ) (here there other another : Option Line) → DiffersAt ks ls n here there → DiffersAt ks ls m other another → n < m → ⊥
never_before ks ls n m here there other another a b lt = a.apart (a.found_here ∙ get_taken ks ls n m lt b.same ∙ sym a.want_there)

same_place : (ks ls : List Line) (n m : ℕ) (here there other another : Option Line) → DiffersAt ks ls n here there → DiffersAt ks ls m other another → n ≡ m
same_place ks ls n m here there other another a b =
    elim (cases_lt n m) [
      | inl before ↦ absurd (never_before ks ls n m here there other another a b before)
      | inr behind ↦ elim (cases_lt m n) [
        | inl before ↦ absurd (never_before ks ls m n other another here there b a before)
        | inr ahead ↦ omega (arith, behind, ahead)
      ]
    ]

difference_by : (n m : ℕ) (here there other another : Option Line) → n ≡ m → here ≡ other → there ≡ another
    → ◌≡◌ {A = Difference} (record { line = n; found = here; want = there }) (record { line = m; found = other; want = another })
difference_by n m here there other another a b c = rw (a, b, c) refl

one_place : (ks ls : List Line) (a b : Difference) → DiffersAt ks ls a.line a.found a.want → DiffersAt ks ls b.line b.found b.want → a ≡ b
one_place ks ls a b h g =
    let n = same_place ks ls a.line b.line a.found a.want b.found b.want h g in
    difference_by a.line b.line a.found a.want b.found b.want n
    (h.found_here ∙ ap (λ (i : ℕ). slice_get ks i) n ∙ sym g.found_here) (h.want_there ∙ ap (λ (i : ℕ). slice_get ls i) n ∙ sym g.want_there)

no_place : (ks ls : List Line) (a : Difference) → ks ≡ ls → DiffersAt ks ls a.line a.found a.want → ⊥
no_place ks ls a same h = h.apart (h.found_here ∙ ap (λ (xs : List Line). slice_get xs a.line) same ∙ sym h.want_there)

pub one_difference : (ks ls : List Line) (a b : Option Difference) → IsDifference ks ls a → IsDifference ks ls b → a ≡ b
one_difference ks ls None None h g = refl
one_difference ks ls None (Some b) h g = absurd (no_place ks ls b h g)
one_difference ks ls (Some a) None h g = absurd (no_place ks ls a g h)
one_difference ks ls (Some a) (Some b) h g = ap (λ (d : Difference). Some d) (one_place ks ls a b h g)
