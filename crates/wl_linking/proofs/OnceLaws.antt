-- There is one code section and one data section at most, so bodies and segments stand one after
-- the other.
use Rattle.std.proofs.Common.{◌≡◌, ◌⊎◌, ℕ, ◌+◌, ◌≤◌, eqb, List, [], ◌∷◌, ◌++◌, length, map, refl, sym, ap, subst, arith, inl, inr, length-append}
use Rattle.std.proofs.lemmas.Bool.{eqb-true}
use Rattle.std.proofs.lemmas.List.{append-nil}
use Rattle.wl_bytes.proofs.Steps.{chosen}
use Rattle.wl_bytes.specs.Grammar.{Items}
use Rattle.wl_module.specs.Bodies.{Body, IsBody, AreBodies}
use Rattle.wl_module.specs.Segments.{Segment, Targeted, IsSegment, AreTargeted, plain_segments}
use Rattle.wl_bytes.specs.Chains.{Chain}
use Rattle.wl_module.specs.SectionKinds.{place_of}
use Rattle.wl_module.specs.Sections.{Section, MayFollow, next, next_place, IsModule, sections_in_turn}
use Rattle.wl_module.specs.declared.section_kind.SectionKind.{SectionKind}
use Rattle.wl_module.specs.declared.section_kind.SectionKind.TheVariants as kind
use Rattle.wl_module.proofs.SectionLaws.{section_comes}
use Rattle.wl_linking.specs.Parts.{no_parts, join, part_of}
use Rattle.wl_linking.specs.Sites.{PieceOf, body_piece, segment_piece}
use Rattle.wl_linking.specs.Placing.{Ascend, piece_end}
use Rattle.wl_linking.specs.Sections.{AreSound, section_context}
use Rattle.wl_linking.specs.declared.parts.Parts.{Parts}
use Rattle.wl_linking.specs.declared.section.SectionItems.{SectionItems}
use Rattle.wl_linking.specs.declared.section.SectionItems.TheVariants.{Code, Data}
use Rattle.wl_linking.proofs.HeldLaws.{Spelled, spelled}

-- ---- a section that comes once at most

-- a list of what sections of one kind hold, which stand in order: others hold none of it
pub record ComesOnce {X : Type 0} (k : SectionKind) (list : Parts → List X) (Good : List X → Type 0) : Type 0 where
  pub ranked : 1 ≤ place_of k
  pub joins : (a b : Parts) → list (join a b) ≡ list a ++ list b
  pub none : Good []
  pub others : (j : SectionKind) (s : Section) (items : SectionItems) → Spelled j s items s.payload → (list (part_of items) ≡ []) ⊎ ((j ≡ k) × Good (list (part_of items)))

-- there is none so far, or a section of the kind came
abbrev SoFar : {X : Type 0} → SectionKind → (List X → Type 0) → ℕ → List X → Type 0
SoFar k Good last xs = (xs ≡ []) ⊎ ((place_of k ≤ last) × Good xs)

place_stays : (place last : ℕ) (j : SectionKind) → place ≤ last → MayFollow last j → place ≤ next_place last j
place_stays place last j past (inl free) = rw free past
place_stays place last j past (inr after) =
    elim (chosen (eqb (place_of j) 0) last (place_of j) (next_place last j) refl) [
      | inl h ↦ rw (← h.1) past
      | inr h ↦ rw (← h.1) (omega (arith, past, after))
    ]

place_reached : (last : ℕ) (k : SectionKind) → 1 ≤ place_of k → place_of k ≤ next_place last k
place_reached last k some =
    elim (chosen (eqb (place_of k) 0) last (place_of k) (next_place last k) refl) [
      | inl h ↦ absurd (let zero = eqb-true (place_of k) 0 h.0 in omega arith)
      | inr h ↦ rw (← h.1) (omega arith)
    ]

all_good : {X : Type 0} (k : SectionKind) (list : Parts → List X) (Good : List X → Type 0) → ComesOnce k list Good
    → (sections : List Section) (before : Parts) (last place : ℕ) (ss : List Section) (text : List ℕ) (after : Parts) → Chain sections_in_turn last place ss text → AreSound sections before ss after → SoFar k Good last (list before) → Good (list after)
all_good {X} k list Good law sections before last place [] text after chain is so_far = subst (λ (p : Parts). Good (list p)) is (at_end so_far)
  where
    at_end : SoFar k Good last (list before) → Good (list before)
    at_end (inl none) = rw none law.none
    at_end (inr h) = h.1
all_good {X} k list Good law sections before last place (s ∷ ss) text after (front, back, parts, here, rest) (items, sound, more) so_far =
    all_good k list Good law sections (join before (part_of items)) (next last s) (place + length front) ss back after rest more
    (subst (SoFar k Good (next last s)) (sym (law.joins before (part_of items))) (step (section_comes last place s front here) (law.others s.kind s items (spelled s.kind (section_context sections before) s items s.payload sound)) so_far))
  where
    step : MayFollow last s.kind → (list (part_of items) ≡ []) ⊎ ((s.kind ≡ k) × Good (list (part_of items))) → SoFar k Good last (list before) → SoFar k Good (next last s) (list before ++ list (part_of items))
    step may (inl none) (inl nothing) = inl (rw (none, nothing) refl)
    step may (inl none) (inr h) = inr (place_stays (place_of k) last s.kind h.0 may, rw (none, append-nil (list before)) h.1)
    step may (inr h) (inl nothing) = inr (rw h.0 (place_reached last k law.ranked), rw nothing h.1)
    step (inl free) (inr h) (inr past) = absurd (let r = ap place_of h.0 in omega (arith, r, free, law.ranked))
    step (inr later) (inr h) (inr past) = absurd (let r = ap place_of h.0 in omega (arith, r, later, past.0))

-- ---- the bodies of one section

bodies_from : (place : ℕ) (bodies : List Body) (text : List ℕ) → Items IsBody place bodies text → Ascend place (map body_piece bodies)
bodies_from place [] text h = tt
bodies_from place (b ∷ bodies) text (front, back, parts, (head, whole, number, own, at, object), rest) =
    let next_place : place + length front ≡ piece_end (body_piece b) = omega (arith, ap length whole, length-append head b.bytes, at) in
    (omega (arith, at), subst (λ (n : ℕ). Ascend n (map body_piece bodies)) next_place (bodies_from (place + length front) bodies back rest))

weaker : (place lower : ℕ) (pieces : List PieceOf) → lower ≤ place → Ascend place pieces → Ascend lower pieces
weaker place lower [] le h = tt
weaker place lower (p ∷ pieces) le h = (omega (arith, h.0, le), h.1)

bodies_ascend : (bodies : List Body) (payload : List ℕ) → AreBodies bodies payload → Ascend 0 (map body_piece bodies)
bodies_ascend bodies payload (head, rest, parts, count, items) = weaker (0 + length head) 0 (map body_piece bodies) (omega arith) (bodies_from (0 + length head) bodies rest items)

-- ---- the segments of one section

-- a segment ends with its bytes, and begins where it is said to
segment_ends : (place : ℕ) (t : Targeted) (text : List ℕ) → IsSegment place t text → (place ≤ (segment_piece t.segment).place) × (place + length text ≡ piece_end (segment_piece t.segment))
segment_ends place t text (f, (flag, behind, parts, coded, (target, counted, parts', aimed, (head, whole, number))), kind_is, at, size) =
    let some : length t.segment.payload ≤ length text =
    omega (arith, ap length parts, length-append flag behind, ap length parts', length-append target counted, ap length whole, length-append head t.segment.payload) in
    (omega (arith, some, at, size), omega (arith, some, at, size))

segments_from : (place : ℕ) (segments : List Targeted) (text : List ℕ) → Items IsSegment place segments text → Ascend place (map segment_piece (plain_segments segments))
segments_from place [] text h = tt
segments_from place (t ∷ segments) text (front, back, parts, here, rest) =
    let ends = segment_ends place t front here in
    (ends.0, subst (λ (n : ℕ). Ascend n (map segment_piece (plain_segments segments))) ends.1 (segments_from (place + length front) segments back rest))

segments_ascend : (segments : List Targeted) (payload : List ℕ) → AreTargeted segments payload → Ascend 0 (map segment_piece (plain_segments segments))
segments_ascend segments payload (head, rest, parts, count, items) = weaker (0 + length head) 0 (map segment_piece (plain_segments segments)) (omega arith) (segments_from (0 + length head) segments rest items)

-- ---- all of them

abbrev bodies_good : List Body → Type 0
bodies_good xs = Ascend 0 (map body_piece xs)

code_once : ComesOnce kind.Code (λ p. p.bodies) bodies_good
code_once = record { ranked = omega arith; joins = λ a b. refl; none = tt; others = others }
  where
    others : (j : SectionKind) (s : Section) (items : SectionItems) → Spelled j s items s.payload → ((part_of items).bodies ≡ []) ⊎ ((j ≡ kind.Code) × bodies_good (part_of items).bodies)
    others j s (Code bodies) h = inr (h.0, bodies_ascend bodies s.payload h.1)
    others j s _ h = inl refl

pub code_ascends : (bytes : List ℕ) (sections : List Section) (parts : Parts) → IsModule sections bytes → AreSound sections no_parts sections parts → Ascend 0 (map body_piece parts.bodies)
code_ascends bytes sections parts (text, whole, chain) h = all_good kind.Code (λ p. p.bodies) bodies_good code_once sections no_parts 0 8 sections text parts chain h (inl refl)

abbrev segments_good : List Segment → Type 0
segments_good xs = Ascend 0 (map segment_piece xs)

data_once : ComesOnce kind.Data (λ p. p.segments) segments_good
data_once = record { ranked = omega arith; joins = λ a b. refl; none = tt; others = others }
  where
    others : (j : SectionKind) (s : Section) (items : SectionItems) → Spelled j s items s.payload → ((part_of items).segments ≡ []) ⊎ ((j ≡ kind.Data) × segments_good (part_of items).segments)
    others j s (Data segments) h = inr (h.0, segments_ascend segments s.payload h.1)
    others j s _ h = inl refl

pub data_ascends : (bytes : List ℕ) (sections : List Section) (parts : Parts) → IsModule sections bytes → AreSound sections no_parts sections parts → Ascend 0 (map segment_piece parts.segments)
data_ascends bytes sections parts (text, whole, chain) h = all_good kind.Data (λ p. p.segments) segments_good data_once sections no_parts 0 8 sections text parts chain h (inl refl)
