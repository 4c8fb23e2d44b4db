-- How many bytes the output takes.
use Rattle.std.proofs.Common.{◌≡◌, ℕ, ◌+◌, ◌≤◌, false, List, [], ◌∷◌, ◌++◌, length, refl, sym, ap, ◌∙◌, arith, zero, suc, length-append, append_assoc, append-nil, take, get_or, ◌<◌, ◌*◌}
use Rattle.std.proofs.lemmas.List.{take_more}
use Rattle.std.proofs.lemmas.List.Sums.{sum_by_push}
use Rattle.wl_module.specs.Bodies.{Body}
use Rattle.std.specs.Int.{w32, cast_signed}
use Rattle.wl_bytes.specs.Leb.{IsShortest, IsShortestSleb}
use Rattle.wl_data.specs.Sizes.{IsMemoryName, Destination, IsDestination, HasSegmentSize, HasEntrySize, AreBodiesText, body_bytes}

pub other_name : (n : ℕ) (x : List ℕ) → (n ≡ 0 → ⊥) → IsShortest n x → IsMemoryName n (2 ∷ x)
other_name zero x no_zero s = absurd (no_zero refl)
other_name (suc n) x no_zero s = (x, s, refl)

pub other_destination : (memory offset a b : ℕ) (name place : List ℕ) → IsMemoryName memory name → IsShortestSleb (cast_signed w32 offset) place → a ≡ length name → b ≡ length place
    → (x : List ℕ) × IsDestination (record { passive = false; memory = memory; offset = offset }) x × (a + 2 + b ≡ length x)
other_destination memory offset a b name place n p e f =
    (name ++ 0x41 ∷ (place ++ 0x0b ∷ []), (name, place, n, p, refl), omega (arith, length-append name (0x41 ∷ (place ++ 0x0b ∷ [])), length-append place (0x0b ∷ [])))

pub size_is : (to : Destination) (len a b size : ℕ) (target count : List ℕ) → IsDestination to target → IsShortest len count → a ≡ length target → b ≡ length count → size ≡ a + b + len → HasSegmentSize to len size
size_is to len a b size target count t c e f is =
    (target ++ count, record { target = target; count = count; goes = t; counts = c; parts = refl }, omega (arith, length-append target count, e, f, is))

-- ---- bodies

-- bodies that take so many bytes, and few more than they have
pub record AreEntries (bodies : List Body) (count bytes : ℕ) : Type 0 where
  pub text : List ℕ
  pub spelled : AreBodiesText bodies text
  pub size : bytes ≡ length text
  pub small : bytes ≤ body_bytes bodies + 10 * count

text_push : (bodies : List Body) (b : Body) (text head : List ℕ) → AreBodiesText bodies text → IsShortest (length b.bytes) head → AreBodiesText (bodies ++ b ∷ []) (text ++ (head ++ b.bytes))
text_push [] b text head e s = (head, [], s, refl, rw (e, append-nil) refl)
text_push (x ∷ bodies) b text head t s =
    (t.0, t.1 ++ (head ++ b.bytes), t.2, text_push bodies b t.1 head t.3 s, rw t.4 (simp append_assoc))

pub entries_more : (bodies : List Body) (i : ℕ) (b : Body) (bytes size : ℕ) → i < length bodies → b ≡ get_or bodies i b → AreEntries (take i bodies) i bytes → HasEntrySize b size → AreEntries (take (i + 1) bodies) (i + 1) (bytes + size)
entries_more bodies i b bytes size lt is p e =
    let more : take (i + 1) bodies ≡ take i bodies ++ b ∷ [] = take_more bodies i b lt ∙ ap (λ (x : Body). take i bodies ++ x ∷ []) (sym is) in
    let sum : body_bytes (take i bodies ++ b ∷ []) ≡ body_bytes (take i bodies) + length b.bytes = sum_by_push (λ (x : Body). length x.bytes) (take i bodies) b in
    let short = e.1.spelled.leb.short in
    rw more record {
      text = p.text ++ (e.0 ++ b.bytes);
      spelled = text_push (take i bodies) b p.text e.0 p.spelled e.1;
      size = omega (arith, length-append p.text (e.0 ++ b.bytes), length-append e.0 b.bytes, p.size, e.2);
      small = omega (arith, sum, p.small, short, e.2);
    }
