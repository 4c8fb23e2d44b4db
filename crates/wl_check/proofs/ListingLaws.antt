-- What follows for listings from lines being a code.
use Rattle.std.proofs.Common.{◌≡◌, ◌≢◌, ℕ, zero, suc, ◌+◌, ◌<◌, ◌≤◌, ◌==◌, length, arith, Bool, true, false, cond, List, [], ◌∷◌, ◌++◌, Option, Some, None, Ok, Err, refl, sym, ap, subst, ◌∙◌, append_assoc, length-append, inl, inr}
use Rattle.std.specs.Prelude.{◌⊎◌}
use Rattle.std.specs.List.{AllByRecursion, flat_map}
use Rattle.std.proofs.lemmas.List.{append-nil}
use Rattle.std.proofs.lemmas.List.Concat.{flat_map-append}
use Rattle.wl_lists.proofs.Places.{all_append}
use Rattle.wl_check.specs.declared.line.Line.{Line}
use Rattle.wl_check.specs.Texts.{newline, line_text}
use Rattle.wl_check.specs.Ranges.{InRange}
use Rattle.wl_check.specs.declared.listing.ListingError.TheVariants.{Bad}
use Rattle.wl_check.specs.Spelled.{Spelled, IsListing, first_stretch, IsBadLine, ReadsListing}
use Rattle.wl_check.specs.LineReading.{line_at}
use Rattle.wl_check.proofs.Codes.{IsCode, some_is}
use Rattle.wl_check.proofs.LineLaws.{line_code}

-- ---- of codes

-- no two values share a text, and no text begins another's
pub prefix_free : {X : Type 0} {closes : Bool} {text : X → List ℕ} {Fits : X → Type 0} {read : List ℕ → Option (X × List ℕ)} → IsCode closes text Fits read → (x y : X) (s t : List ℕ) → Fits x → Fits y → text x ++ s ≡ text y ++ t → (x ≡ y) × (s ≡ t)
prefix_free {X} {read = read} code x y s t fx fy same =
    let both : (x, s) ≡ (y, t) = some_is _ _ (sym (code.again x fx s) ∙ ap read same ∙ code.again y fy t) in
    (ap (λ (p : X × List ℕ). p.0) both, ap (λ (p : X × List ℕ). p.1) both)

-- ---- of lines

pub lines_apart : (x y s t : List ℕ) (k l : Line) → Spelled x k → Spelled y l → x ++ s ≡ y ++ t → (k ≡ l) × (x ≡ y)
lines_apart x y s t k l a b same =
    let texts : line_text k ++ s ≡ line_text l ++ t = ap (λ (z : List ℕ). z ++ s) (sym a.text) ∙ same ∙ ap (λ (z : List ℕ). z ++ t) b.text in
    let p = prefix_free line_code k l s t a.in_range b.in_range texts in
    (p.0, a.text ∙ ap line_text p.0 ∙ sym b.text)

-- a line's only line end is its last byte
pub line_stretch : (x rest : List ℕ) (l : Line) → Spelled x l → first_stretch (x ++ rest) ≡ x
line_stretch x rest l s =
    subst (λ (t : List ℕ). first_stretch (t ++ rest) ≡ t) (sym s.text) (line_code.stretch l s.in_range rest ∙ append-nil (line_text l))

pub line_some : (l : Line) → InRange l → line_text l ≢ []
line_some l fits none =
    let same : [] ++ ([] ++ []) ≡ line_text l ++ [] = refl ∙ sym (append-nil (line_text l) ∙ none) in
    let e = line_stretch [] (10 ∷ []) l (record { in_range = fits; text = sym none }) in
    cc

-- what is left begins with no line
abbrev Stops : List ℕ → Type 0
Stops rest = (l : Line) (more : List ℕ) → InRange l → rest ≡ line_text l ++ more → ⊥

end_stops : Stops []
end_stops l more fits same = line_some l fits (empty_front (line_text l) more (sym same))
  where
    empty_front : (xs ys : List ℕ) → xs ++ ys ≡ [] → xs ≡ []
    empty_front [] ys e = refl
    empty_front (x ∷ xs) ys e = absurd cc

bad_stops : (rest : List ℕ) → ((l : Line) → Spelled (first_stretch rest) l → ⊥) → Stops rest
bad_stops rest bad l more fits same =
    let e : first_stretch rest ≡ line_text l = ap first_stretch same ∙ line_stretch (line_text l) more l (record { in_range = fits; text = refl }) in
    bad l (record { in_range = fits; text = e })

-- two ways to read a text from the front as far as lines go are one
pub one_way : (ks ls : List Line) (s t : List ℕ) → AllByRecursion InRange ks → AllByRecursion InRange ls → Stops s → Stops t → flat_map line_text ks ++ s ≡ flat_map line_text ls ++ t → (ks ≡ ls) × (s ≡ t)
one_way [] [] s t fk fl ss st same = (refl, same)
one_way [] (l ∷ ls) s t fk fl ss st same = absurd (ss l (flat_map line_text ls ++ t) fl.0 (same ∙ append_assoc (line_text l) (flat_map line_text ls) t))
one_way (k ∷ ks) [] s t fk fl ss st same = absurd (st k (flat_map line_text ks ++ s) fk.0 (sym same ∙ append_assoc (line_text k) (flat_map line_text ks) s))
one_way (k ∷ ks) (l ∷ ls) s t fk fl ss st same =
    let texts = sym (append_assoc (line_text k) (flat_map line_text ks) s) ∙ same ∙ append_assoc (line_text l) (flat_map line_text ls) t in
    let p = prefix_free line_code k l (flat_map line_text ks ++ s) (flat_map line_text ls ++ t) fk.0 fl.0 texts in
    let q = one_way ks ls s t fk.1 fl.1 ss st p.1 in
    (ap (λ (x : Line). x ∷ ks) p.0 ∙ ap (λ (xs : List Line). l ∷ xs) q.0, q.1)

-- lists of lines with the same text are one list
pub same_lines : (ks ls : List Line) (text : List ℕ) → IsListing ks text → IsListing ls text → ks ≡ ls
same_lines ks ls text a b =
    (one_way ks ls [] [] a.in_range b.in_range end_stops end_stops (append-nil (flat_map line_text ks) ∙ sym a.joined ∙ b.joined ∙ sym (append-nil (flat_map line_text ls)))).0

pub same_bad : (text : List ℕ) (m n : ℕ) → IsBadLine text m → IsBadLine text n → m ≡ n
same_bad text m n a b =
    let same = ap (λ (t : List ℕ). t ++ a.rest) (sym a.before.joined) ∙ sym a.parts ∙ b.parts ∙ ap (λ (t : List ℕ). t ++ b.rest) b.before.joined in
    let p = one_way a.lines b.lines a.rest b.rest a.before.in_range b.before.in_range (bad_stops a.rest a.bad) (bad_stops b.rest b.bad) same in
    sym a.count ∙ ap length p.0 ∙ b.count

pub not_both : (text : List ℕ) (ls : List Line) (n : ℕ) → IsListing ls text → IsBadLine text n → ⊥
not_both text ls n a b =
    let same = append-nil (flat_map line_text ls) ∙ sym a.joined ∙ b.parts ∙ ap (λ (t : List ℕ). t ++ b.rest) b.before.joined in
    let p = one_way ls b.lines [] b.rest a.in_range b.before.in_range end_stops (bad_stops b.rest b.bad) same in
    b.some (sym p.1)

-- ---- one more line

-- the text is what these lines spell, and the rest
pub record IsRead (text : List ℕ) (ls : List Line) (rest : List ℕ) : Type 0 where
  pub in_range : AllByRecursion InRange ls
  pub parts : text ≡ flat_map line_text ls ++ rest

pub read_none : (text : List ℕ) → IsRead text [] text
read_none text = record { in_range = tt; parts = refl }

pub read_more : (text : List ℕ) (ls : List Line) (rest : List ℕ) (l : Line) (behind : List ℕ) → IsRead text ls rest → line_at rest ≡ Some (l, behind) → IsRead text (ls ++ l ∷ []) behind
read_more text ls rest l behind r e =
    let f = line_code.found rest (l, behind) e in
    let one : flat_map line_text (l ∷ []) ≡ line_text l = append-nil (line_text l) in
    record {
      in_range = all_append InRange ls (l ∷ []) r.in_range (f.0, tt);
      parts = r.parts ∙ ap (λ (t : List ℕ). flat_map line_text ls ++ t) f.1 ∙ sym (append_assoc (flat_map line_text ls) (line_text l) behind)
          ∙ ap (λ (t : List ℕ). t ++ behind) (ap (λ (t : List ℕ). flat_map line_text ls ++ t) (sym one) ∙ sym (flat_map-append line_text ls (l ∷ [])));
    }

pub line_shortens : (rest : List ℕ) (l : Line) (behind : List ℕ) → line_at rest ≡ Some (l, behind) → length behind < length rest
line_shortens rest l behind e =
    let f = line_code.found rest (l, behind) e in
    let some = some_length (line_text l) (line_some l f.0) in
    omega (arith, ap length f.1, length-append (line_text l) behind)
  where
    some_length : (xs : List ℕ) → xs ≢ [] → 0 < length xs
    some_length [] never = absurd (never refl)
    some_length (x ∷ xs) never = omega arith

pub read_all : (text : List ℕ) (ls : List Line) → IsRead text ls [] → IsListing ls text
read_all text ls r = record { in_range = r.in_range; joined = r.parts ∙ append-nil (flat_map line_text ls) }

pub front_stretch : (rest : List ℕ) → (more : List ℕ) × (rest ≡ first_stretch rest ++ more)
front_stretch [] = ([], refl)
front_stretch (b ∷ rest) = step (b == newline) (front_stretch rest)
  where
    step : (last : Bool) → ((more : List ℕ) × (rest ≡ first_stretch rest ++ more)) → (more : List ℕ) × (b ∷ rest ≡ b ∷ (cond last [] (first_stretch rest) ++ more))
    step true h = (rest, refl)
    step false h = (h.0, ap (λ (t : List ℕ). b ∷ t) h.1)

pub read_bad : (text : List ℕ) (ls : List Line) (rest : List ℕ) → IsRead text ls rest → rest ≢ [] → line_at rest ≡ None → IsBadLine text (length ls)
read_bad text ls rest r some none = record {
  lines = ls;
  front = flat_map line_text ls;
  rest = rest;
  parts = r.parts;
  before = record { in_range = r.in_range; joined = refl };
  count = refl;
  some = some;
  bad = λ l s.
      let f = front_stretch rest in
      let e : rest ≡ line_text l ++ f.0 = f.1 ∙ ap (λ (t : List ℕ). t ++ f.0) s.text in
      let found = ap line_at e ∙ line_code.again l s.in_range f.0 in
      cc;
}

-- the text is what so many lines spell, and the rest
pub record AreRead (text : List ℕ) (n : ℕ) (rest : List ℕ) : Type 0 where
  pub lines : List Line
  pub read : IsRead text lines rest
  pub count : length lines ≡ n
  pub enough : n + length rest ≤ length text

pub are_none : (text : List ℕ) → AreRead text 0 text
are_none text = record { lines = []; read = read_none text; count = refl; enough = omega arith }

pub are_more : (text : List ℕ) (n : ℕ) (rest : List ℕ) (l : Line) (behind : List ℕ) → AreRead text n rest → line_at rest ≡ Some (l, behind) → AreRead text (n + 1) behind
are_more text n rest l behind r e =
    let shorter = line_shortens rest l behind e in
    let one = length-append r.lines (l ∷ []) in
    record {
      lines = r.lines ++ l ∷ [];
      read = read_more text r.lines rest l behind r.read e;
      count = omega (arith, one, r.count);
      enough = omega (arith, shorter, r.enough);
    }

-- ---- always one of the two

one_of_two : (n : ℕ) (text : List ℕ) (ls : List Line) (rest : List ℕ) → length rest ≤ n → IsRead text ls rest → ((ks : List Line) × IsListing ks text) ⊎ ((m : ℕ) × IsBadLine text m)
one_of_two n text ls [] few r = inl (ls, read_all text ls r)
one_of_two zero text ls (b ∷ rest) few r = absurd (omega arith)
one_of_two (suc n) text ls (b ∷ rest) few r = step (line_at (b ∷ rest)) refl (λ l behind e. one_of_two n text (ls ++ l ∷ []) behind (let s = line_shortens (b ∷ rest) l behind e in omega arith) (read_more text ls (b ∷ rest) l behind r e))
  where
    Either : Type 0
    Either = ((ks : List Line) × IsListing ks text) ⊎ ((m : ℕ) × IsBadLine text m)

    step : (o : Option (Line × List ℕ)) → line_at (b ∷ rest) ≡ o → ((l : Line) (behind : List ℕ) → line_at (b ∷ rest) ≡ Some (l, behind) → ((ks : List Line) × IsListing ks text) ⊎ ((m : ℕ) × IsBadLine text m)) → ((ks : List Line) × IsListing ks text) ⊎ ((m : ℕ) × IsBadLine text m)
    step None e more = inr (length ls, read_bad text ls (b ∷ rest) r (λ h. absurd cc) e)
    step (Some p) e more = more p.0 p.1 e

pub listing_or_bad : (text : List ℕ) → ((ks : List Line) × IsListing ks text) ⊎ ((m : ℕ) × IsBadLine text m)
listing_or_bad text = one_of_two (length text) text [] text (omega arith) (read_none text)

-- ---- what a call has answered

pub reads_good : {X : Type 0} (view : X → List Line) (text : List ℕ) (x : X) → IsListing (view x) text → ReadsListing view text (Ok x)
reads_good view text x listing = record {
  sound = listing;
  only = λ ks other. ap (λ (ls : List Line). Ok ls) (same_lines ks (view x) text other listing);
  fault = tt;
  why = λ n bad. absurd (not_both text (view x) n listing bad);
}

pub reads_fault : {X : Type 0} (view : X → List Line) (text : List ℕ) (n : ℕ) → IsBadLine text n → ReadsListing view text (Err (Bad n))
reads_fault view text n bad = record {
  sound = tt;
  only = λ ks listing. absurd (not_both text ks n listing bad);
  fault = bad;
  why = λ m other. ap (λ (k : ℕ). Err (Bad k)) (same_bad text m n other bad);
}
