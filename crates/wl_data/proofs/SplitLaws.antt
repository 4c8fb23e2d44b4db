-- The layout of segments in one row is made of layouts of its parts.
use Rattle.std.proofs.Common.{◌≡◌, ℕ, ◌+◌, List, [], ◌∷◌, ◌++◌, map, refl, sym, ap, ◌∙◌, subst}
use Rattle.std.specs.Prelude.{filter}
use Rattle.std.proofs.lemmas.List.Elements.{filter-append}
use Rattle.wl_data.specs.declared.pass.Frontier.{Frontier}
use Rattle.wl_data.specs.declared.pass.Pass.{Pass}
use Rattle.wl_data.specs.Segments.{KeptData, SegmentLayout}
use Rattle.wl_data.specs.Spans.{Span, AreInRow}
use Rattle.wl_data.specs.Layouts.{is_chosen, goes_to_block, goes_to_memory, block_alignment, PlacedData, memory_spans, block_spans, ArePlaced, AreLayoutsOf, AreLaidOut}
use Rattle.wl_data.specs.DataPlaces.{AreObjectsLaid, in_one_row}
use Rattle.wl_data.proofs.LayoutLaws.{spans_of-append, frontier_is}

abbrev segments_in : List PlacedData → List KeptData
segments_in placed = map (λ (s : PlacedData). s.segment) placed

-- ---- lists

-- a list whose segments are those of two, in two parts
record Parts (st : List PlacedData) (xs ys : List KeptData) : Type 0 where
  front : List PlacedData
  back : List PlacedData
  whole : st ≡ front ++ back
  front_is : segments_in front ≡ xs
  back_is : segments_in back ≡ ys

parts_of : (st : List PlacedData) (xs ys : List KeptData) → segments_in st ≡ xs ++ ys → Parts st xs ys
parts_of st [] ys e = record { front = []; back = st; whole = refl; front_is = refl; back_is = e }
parts_of [] (x ∷ xs) ys e = absurd cc
parts_of (s ∷ st) (x ∷ xs) ys e =
    let head : s.segment ≡ x = cc in
    let tail : segments_in st ≡ xs ++ ys = cc in
    let rest = parts_of st xs ys tail in
    record {
      front = s ∷ rest.front;
      back = rest.back;
      whole = ap (λ (l : List PlacedData). s ∷ l) rest.whole;
      front_is = ap (λ (k : KeptData). k ∷ segments_in rest.front) head ∙ ap (λ (l : List KeptData). x ∷ l) rest.front_is;
      back_is = rest.back_is;
    }

row_parts : (a : ℕ) (xs ys : List Span) (c : ℕ) → AreInRow a (xs ++ ys) c → (b : ℕ) × AreInRow a xs b × AreInRow b ys c
row_parts a [] ys c r = (a, refl, r)
row_parts a (x ∷ xs) ys c r =
    let rest = row_parts (x.place + x.size) xs ys c r.1 in
    (rest.0, (r.0, rest.1), rest.2)

record LayoutParts (pass : Pass) (s t : List PlacedData) (l : List SegmentLayout) : Type 0 where
  front : List SegmentLayout
  back : List SegmentLayout
  whole : l ≡ front ++ back
  front_is : AreLayoutsOf pass s front
  back_is : AreLayoutsOf pass t back

layout_parts : (pass : Pass) (s t : List PlacedData) (l : List SegmentLayout) → AreLayoutsOf pass (s ++ t) l → LayoutParts pass s t l
layout_parts pass [] t l p = record { front = []; back = l; whole = refl; front_is = tt; back_is = p }
layout_parts pass (x ∷ s) t [] p = absurd p
layout_parts pass (x ∷ s) t (y ∷ l) p =
    let rest = layout_parts pass s t l p.1 in
    record {
      front = y ∷ rest.front;
      back = rest.back;
      whole = ap (λ (m : List SegmentLayout). y ∷ m) rest.whole;
      front_is = (p.0, rest.front_is);
      back_is = rest.back_is;
    }

-- ---- a pass over two lists

record LaidParts (pass : Pass) (xs ys : List KeptData) (a c : Frontier) (l : List SegmentLayout) : Type 0 where
  middle : Frontier
  front : List SegmentLayout
  back : List SegmentLayout
  whole : l ≡ front ++ back
  front_laid : AreLaidOut pass xs a middle front
  back_laid : AreLaidOut pass ys middle c back

laid_parts : (pass : Pass) (xs ys : List KeptData) (a c : Frontier) (l : List SegmentLayout) → AreLaidOut pass (xs ++ ys) a c l → LaidParts pass xs ys a c l
laid_parts pass xs ys a c l p =
    let parts = parts_of p.placed (filter (is_chosen pass) xs) (filter (is_chosen pass) ys) (p.stand.chosen ∙ filter-append (is_chosen pass) xs ys) in
    let memory_whole : memory_spans pass p.placed ≡ memory_spans pass parts.front ++ memory_spans pass parts.back =
    ap (memory_spans pass) parts.whole ∙ spans_of-append (goes_to_memory pass) (λ s. s.alignment) parts.front parts.back in
    let block_whole : block_spans pass p.placed ≡ block_spans pass parts.front ++ block_spans pass parts.back =
    ap (block_spans pass) parts.whole ∙ spans_of-append (goes_to_block pass) block_alignment parts.front parts.back in
    let memory = row_parts a.memory (memory_spans pass parts.front) (memory_spans pass parts.back) c.memory (subst (λ (s : List Span). AreInRow a.memory s c.memory) memory_whole p.stand.memory) in
    let block = row_parts a.block (block_spans pass parts.front) (block_spans pass parts.back) c.block (subst (λ (s : List Span). AreInRow a.block s c.block) block_whole p.stand.block) in
    let laid = layout_parts pass parts.front parts.back l (subst (λ (s : List PlacedData). AreLayoutsOf pass s l) parts.whole p.laid) in
    record {
      middle = record { memory = memory.0; block = block.0 };
      front = laid.front;
      back = laid.back;
      whole = laid.whole;
      front_laid = record {
        placed = parts.front;
        stand = record { chosen = parts.front_is; memory = memory.1; block = block.1 };
        laid = laid.front_is;
      };
      back_laid = record {
        placed = parts.back;
        stand = record { chosen = parts.back_is; memory = memory.2; block = block.2 };
        laid = laid.back_is;
      };
    }

-- ---- object by object

nothing_laid : (pass : Pass) (a b : Frontier) (l : List SegmentLayout) → AreLaidOut pass [] a b l → (l ≡ []) × (b ≡ a)
nothing_laid pass a b l p = at p.placed p.stand p.laid
  where
    none : (m : List SegmentLayout) → AreLayoutsOf pass [] m → m ≡ []
    none [] h = refl
    none (x ∷ m) h = absurd h

    at : (st : List PlacedData) → ArePlaced pass [] a b st → AreLayoutsOf pass st l → (l ≡ []) × (b ≡ a)
    at [] q laid = (none l laid, frontier_is b a q.memory q.block)
    at (x ∷ st) q laid = let bad : segments_in (x ∷ st) ≡ [] = q.chosen in absurd cc

pub row_splits : (pass : Pass) (objects : List (List KeptData)) (start end : Frontier) (row : List SegmentLayout) → AreLaidOut pass (in_one_row objects) start end row
    → (layouts : List (List SegmentLayout)) × (in_one_row layouts ≡ row) × AreObjectsLaid pass objects start end layouts
row_splits pass [] start end row p =
    let none = nothing_laid pass start end row p in
    ([], sym none.0, none.1)
row_splits pass (o ∷ objects) start end row p =
    let parts = laid_parts pass o (in_one_row objects) start end row p in
    let rest = row_splits pass objects parts.middle end parts.back parts.back_laid in
    (parts.front ∷ rest.0, ap (λ (l : List SegmentLayout). parts.front ++ l) rest.1 ∙ sym parts.whole, (parts.middle, parts.front_laid, rest.2))
