-- Sections that are read in turn.
use Rattle.std.proofs.Common.{◌≡◌, arith, zero, suc, ℕ, ◌+◌, ◌<◌, List, [], ◌∷◌, ◌++◌, length, take, drop, get_or, refl, sym, subst, inl, inr, add-one}
use Rattle.std.proofs.Math.Seq.{take-suc, drop-cons}
use Rattle.std.proofs.lemmas.List.{take-append-drop}
use Rattle.std.specs.List.{AllByRecursion}
use Rattle.wl_module.specs.Sections.{Section}
use Rattle.wl_bytes.specs.declared.read_error.ReadError.{ReadError}
use Rattle.wl_bytes.specs.Outcome.{HasCause}
use Rattle.wl_linking.specs.Parts.{no_parts, join, part_of}
use Rattle.wl_linking.specs.Sections.{IsSound, IsFaulty, AreSound, AreFaulty}
use Rattle.wl_linking.specs.declared.parts.Parts.{Parts}
use Rattle.wl_linking.specs.declared.section.SectionItems.{SectionItems}
use Rattle.wl_custom.proofs.Exact.{cause_follows}

sound_more : (sections : List Section) (before : Parts) (front : List Section) (mid : Parts) (s : Section) (items : SectionItems)
    → AreSound sections before front mid → IsSound sections mid s items → AreSound sections before (front ++ s ∷ []) (join mid (part_of items))
sound_more sections before [] mid s items is here = (items, subst (λ (p : Parts). IsSound sections p s items) (sym is) here, subst (λ (p : Parts). join p (part_of items) ≡ join mid (part_of items)) (sym is) refl)
sound_more sections before (f ∷ front) mid s items (first, sound, rest) here = (first, sound, sound_more sections (join before (part_of first)) front mid s items rest here)

fault_behind : (sections : List Section) (before : Parts) (front : List Section) (mid : Parts) (s : Section) (rest : List Section) (e : ReadError)
    → AreSound sections before front mid → IsFaulty sections mid s e → AreFaulty sections before (front ++ s ∷ rest) e
fault_behind sections before [] mid s rest e is f = inl (subst (λ (p : Parts). IsFaulty sections p s e) (sym is) f)
fault_behind sections before (g ∷ front) mid s rest e (first, sound, more) f = inr (first, sound, fault_behind sections (join before (part_of first)) front mid s rest e more f)

-- one more section, where those before it are read
pub reads_more : (sections : List Section) (i : ℕ) (d : Section) (parts : Parts) (items : SectionItems) → i < length sections → AreSound sections no_parts (take i sections) parts
    → IsSound sections parts (get_or sections i d) items → AreSound sections no_parts (take (i + 1) sections) (join parts (part_of items))
reads_more sections i d parts items lt h here = rw (add-one, take-suc sections i d) (sound_more sections no_parts (take i sections) parts (get_or sections i d) items h here)

fault_at : (sections : List Section) (i : ℕ) (d : Section) (parts : Parts) (e : ReadError) → i < length sections → AreSound sections no_parts (take i sections) parts → IsFaulty sections parts (get_or sections i d) e → AreFaulty sections no_parts sections e
fault_at sections i d parts e lt h f =
    let split : take i sections ++ get_or sections i d ∷ drop (i + 1) sections ≡ sections = rw (add-one, ← drop-cons sections i d) (take-append-drop i sections) in
    subst (λ (ss : List Section). AreFaulty sections no_parts ss e) split (fault_behind sections no_parts (take i sections) parts (get_or sections i d) (drop (i + 1) sections) e h f)

-- one at fault, where those before it are read
pub reads_fault : (sections : List Section) (i : ℕ) (d : Section) (parts : Parts) (e : ReadError) → i < length sections → AreSound sections no_parts (take i sections) parts
    → HasCause (IsFaulty sections parts (get_or sections i d)) e → HasCause (AreFaulty sections no_parts sections) e
reads_fault sections i d parts e lt h = cause_follows (IsFaulty sections parts (get_or sections i d)) (AreFaulty sections no_parts sections) (λ x f. fault_at sections i d parts x lt h f) e

-- what holds of all holds at each place
pub all_get : {X : Type 0} (P : X → Type 0) (xs : List X) (i : ℕ) (d : X) → AllByRecursion P xs → i < length xs → P (get_or xs i d)
all_get P [] i d h lt = absurd (omega (arith, lt))
all_get P (x ∷ xs) zero d h lt = h.0
all_get P (x ∷ xs) (suc i) d h lt = all_get P xs i d h.1 (omega (arith, lt))
