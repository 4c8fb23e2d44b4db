-- Addresses that are taken one after the other.
use Rattle.std.proofs.Common.{◌≡◌, ℕ, ◌+◌, ◌≤◌, Bool, true, false, List, [], ◌∷◌, ◌++◌, length, map, refl, sym, ap, ◌∙◌, subst, arith, not, ◌&&◌, ◌||◌, zero, suc, Some}
use Rattle.std.specs.Prelude.{filter, slice_get, ◌==◌}
use Rattle.std.proofs.lemmas.List.{map-append}
use Rattle.std.proofs.lemmas.List.Elements.{filter-append}
use Rattle.wl_data.specs.declared.pass.Frontier.{Frontier}
use Rattle.wl_data.specs.declared.pass.Pass.{Pass}
use Rattle.wl_data.specs.Segments.{KeptData, SegmentLayout}
use Rattle.wl_data.specs.Spans.{Span, AreInRow}
use Rattle.wl_data.specs.Layouts.{goes_to_block, goes_to_memory, is_shared_init, block_alignment, PlacedData, span_of, spans_of, memory_spans, block_spans, IsLayoutOf, AreLayoutsOf, AreLaidOut}
use Rattle.wl_data.specs.DataPlaces.{AddressRange, ComeInOrder, ShareNothing, lies_in_memory, addresses_of}

-- ---- ranges in order

pub order_append : (a : ℕ) (xs ys : List AddressRange) (b c : ℕ) → ComeInOrder a xs b → ComeInOrder b ys c → ComeInOrder a (xs ++ ys) c
order_append a [] ys b c p q = starts_before ys q
  where
    starts_before : (ys : List AddressRange) → ComeInOrder b ys c → ComeInOrder a ys c
    starts_before [] q = omega (arith, p, q)
    starts_before (y ∷ ys) q = (omega (arith, p, q.0), q.1, q.2)
order_append a (x ∷ xs) ys b c p q = (p.0, p.1, order_append x.behind xs ys b c p.2 q)

behind_start : (a : ℕ) (xs : List AddressRange) (b : ℕ) → ComeInOrder a xs b → (k : ℕ) (s : AddressRange) → slice_get xs k ≡ Some s → a ≤ s.first
behind_start a [] b p k s e = absurd cc
behind_start a (x ∷ xs) b p zero s e = let same : x ≡ s = cc in subst (λ (y : AddressRange). a ≤ y.first) same p.0
behind_start a (x ∷ xs) b p (suc k) s e = omega (arith, p.0, p.1, behind_start x.behind xs b p.2 k s e)

pub order_shares_nothing : (a : ℕ) (xs : List AddressRange) (b : ℕ) → ComeInOrder a xs b → ShareNothing xs
order_shares_nothing a [] b p i k r s lt e f = absurd cc
order_shares_nothing a (x ∷ xs) b p zero zero r s lt e f = absurd (omega arith)
order_shares_nothing a (x ∷ xs) b p zero (suc k) r s lt e f = let same : x ≡ r = cc in subst (λ (y : AddressRange). y.behind ≤ s.first) same (behind_start x.behind xs b p.2 k s f)
order_shares_nothing a (x ∷ xs) b p (suc i) zero r s lt e f = absurd (omega arith)
order_shares_nothing a (x ∷ xs) b p (suc i) (suc k) r s lt e f = order_shares_nothing x.behind xs b p.2 i k r s (omega arith) e f

-- ---- spans as ranges

abbrev span_range : Span → AddressRange
span_range s = record { first = s.place; behind = s.place + s.size }

pub row_in_order : (a : ℕ) (row : List Span) (b : ℕ) → AreInRow a row b → ComeInOrder a (map span_range row) b
row_in_order a [] b r = omega (arith, r)
row_in_order a (s ∷ row) b r = (r.0.past, omega arith, row_in_order (s.place + s.size) row b r.1)

-- ---- layouts as ranges

memory_test : (m b s : Bool) → (b ≡ true → m ≡ false) → (s ≡ true → m ≡ true) → (not b && (not (not m || s) || s)) ≡ m
memory_test true true s f g = absurd (let z : true ≡ false = f refl in cc)
memory_test true false true f g = refl
memory_test true false false f g = refl
memory_test false true true f g = let z : false ≡ true = g refl in absurd cc
memory_test false true false f g = refl
memory_test false false true f g = let z : false ≡ true = g refl in absurd cc
memory_test false false false f g = refl

pub not_both : (pass : Pass) (s : KeptData) → goes_to_block pass s ≡ true → goes_to_memory pass s ≡ false
not_both pass s e = rw e refl

pub shared_in_memory : (pass : Pass) (s : KeptData) → is_shared_init pass s ≡ true → goes_to_memory pass s ≡ true
shared_in_memory pass s e = at pass.has_block s.tls s.active pass.shared_init (length s.payload == 0) e
  where
    at : (block tls active shared empty : Bool) → (shared && ((active && not tls) && not empty)) ≡ true → (not (block && tls) && active) ≡ true
    at true true true true empty h = absurd (let z : false ≡ true = h in cc)
    at true true true false empty h = absurd (let z : false ≡ true = h in cc)
    at true true false true empty h = absurd (let z : false ≡ true = h in cc)
    at true true false false empty h = absurd (let z : false ≡ true = h in cc)
    at true false true shared empty h = refl
    at true false false true empty h = absurd (let z : false ≡ true = h in cc)
    at true false false false empty h = absurd (let z : false ≡ true = h in cc)
    at false tls true shared empty h = refl
    at false tls false true empty h = absurd (let z : false ≡ true = h in cc)
    at false tls false false empty h = absurd (let z : false ≡ true = h in cc)

-- the ranges of those that pass a test
abbrev pub taken : (SegmentLayout → Bool) → List SegmentLayout → List AddressRange
taken test ls = map addresses_of (filter test ls)

pub taken-append : (test : SegmentLayout → Bool) (xs ys : List SegmentLayout) → taken test (xs ++ ys) ≡ taken test xs ++ taken test ys
taken-append test xs ys = ap (map addresses_of) (filter-append test xs ys) ∙ map-append addresses_of (filter test xs) (filter test ys)

-- a layout lies in the memory where its segment goes there
pub lies_is : (pass : Pass) (s : PlacedData) (l : SegmentLayout) → IsLayoutOf pass s l → lies_in_memory l ≡ goes_to_memory pass s.segment
lies_is pass s l i =
    rw (i.tls_template, i.passive, i.shared_init)
    (memory_test (goes_to_memory pass s.segment) (goes_to_block pass s.segment) (is_shared_init pass s.segment) (not_both pass s.segment) (shared_in_memory pass s.segment))

range_is : (pass : Pass) (al : KeptData → ℕ) (s : PlacedData) (l : SegmentLayout) → IsLayoutOf pass s l → (goes_to_memory pass s.segment || goes_to_block pass s.segment) ≡ true → addresses_of l ≡ span_range (span_of al s)
range_is pass al s l i e =
    let offset : l.output_memory_offset ≡ s.place = i.output_memory_offset ∙ rw e refl in
    rw (offset, i.payload) refl

memory_range_is : (pass : Pass) (s : PlacedData) (l : SegmentLayout) → IsLayoutOf pass s l → goes_to_memory pass s.segment ≡ true → addresses_of l ≡ span_range (span_of (λ x. x.alignment) s)
memory_range_is pass s l i e = range_is pass (λ x. x.alignment) s l i (rw e refl)

block_range_is : (pass : Pass) (s : PlacedData) (l : SegmentLayout) → IsLayoutOf pass s l → goes_to_block pass s.segment ≡ true → addresses_of l ≡ span_range (span_of block_alignment s)
block_range_is pass s l i e = range_is pass block_alignment s l i (either (goes_to_memory pass s.segment) (goes_to_block pass s.segment) e)
  where
    either : (m b : Bool) → b ≡ true → (m || b) ≡ true
    either true b h = refl
    either false b h = h

-- the ranges of the layouts that pass a test, which is that of their segments, are those of the spans
ranges_are : (pass : Pass) (told : SegmentLayout → Bool) (test : KeptData → Bool) (al : KeptData → ℕ) (st : List PlacedData) (ls : List SegmentLayout)
    → ((s : PlacedData) (l : SegmentLayout) → IsLayoutOf pass s l → told l ≡ test s.segment)
    → ((s : PlacedData) (l : SegmentLayout) → IsLayoutOf pass s l → test s.segment ≡ true → addresses_of l ≡ span_range (span_of al s))
    → AreLayoutsOf pass st ls → map addresses_of (filter told ls) ≡ map span_range (spans_of test al st)
ranges_are pass told test al [] [] f g p = refl
ranges_are pass told test al [] (l ∷ ls) f g p = absurd p
ranges_are pass told test al (s ∷ st) [] f g p = absurd p
ranges_are pass told test al (s ∷ st) (l ∷ ls) f g p = at (test s.segment) refl (ranges_are pass told test al st ls f g p.1)
  where
    at : (b : Bool) → test s.segment ≡ b → map addresses_of (filter told ls) ≡ map span_range (spans_of test al st)
        → map addresses_of (filter told (l ∷ ls)) ≡ map span_range (spans_of test al (s ∷ st))
    at true e rest =
        let t : told l ≡ true = f s l p.0 ∙ e in
        let r = g s l p.0 e in
        rw (t, e) (ap (λ (x : AddressRange). x ∷ map addresses_of (filter told ls)) r ∙ ap (λ (xs : List AddressRange). span_range (span_of al s) ∷ xs) rest)
    at false e rest =
        let t : told l ≡ false = f s l p.0 ∙ e in
        rw (t, e) rest

-- the layouts of a pass come in order in the memory, and in the block
pub laid_in_order : (pass : Pass) (xs : List KeptData) (a b : Frontier) (ls : List SegmentLayout) → AreLaidOut pass xs a b ls → ComeInOrder a.memory (map addresses_of (filter lies_in_memory ls)) b.memory
laid_in_order pass xs a b ls p =
    let same = ranges_are pass lies_in_memory (goes_to_memory pass) (λ x. x.alignment) p.placed ls (lies_is pass) (memory_range_is pass) p.laid in
    subst (λ (r : List AddressRange). ComeInOrder a.memory r b.memory) (sym same) (row_in_order a.memory (memory_spans pass p.placed) b.memory p.stand.memory)

pub block_in_order : (pass : Pass) (xs : List KeptData) (a b : Frontier) (ls : List SegmentLayout) → AreLaidOut pass xs a b ls → ComeInOrder a.block (map addresses_of (filter (λ (l : SegmentLayout). l.tls_template) ls)) b.block
block_in_order pass xs a b ls p =
    let same = ranges_are pass (λ (l : SegmentLayout). l.tls_template) (goes_to_block pass) block_alignment p.placed ls (λ s l i. i.tls_template) (block_range_is pass) p.laid in
    subst (λ (r : List AddressRange). ComeInOrder a.block r b.block) (sym same) (row_in_order a.block (block_spans pass p.placed) b.block p.stand.block)
