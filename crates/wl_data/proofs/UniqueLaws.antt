-- Segments are laid out in one way.
use Rattle.std.proofs.Common.{◌≡◌, ℕ, ◌+◌, Bool, true, false, cond, ◌||◌, List, [], ◌∷◌, ◌++◌, length, map, refl, sym, ap, ◌∙◌, zero, suc}
use Rattle.std.specs.Prelude.{ℤ}
use Rattle.std.specs.Int.{w32, cast_signed}
use Rattle.wl_bytes.specs.Leb.{IsShortest, IsShortestSleb}
use Rattle.wl_data.specs.declared.pass.Frontier.{Frontier}
use Rattle.wl_data.specs.declared.pass.Pass.{Pass}
use Rattle.wl_data.specs.Segments.{KeptData, SegmentLayout}
use Rattle.wl_data.specs.Spans.{Span}
use Rattle.wl_data.specs.Sizes.{IsMemoryName, IsMemoryPlace, Destination, IsDestinationAs, HasSegmentSize}
use Rattle.wl_data.specs.Layouts.{goes_to_block, goes_to_memory, block_alignment, PlacedData, span_of, spans_of, memory_spans, block_spans, output_offset, destination_of, is_passive, is_shared_init, IsLayoutOf, AreLayoutsOf, AreLaidOut}
use Rattle.wl_data.proofs.LayoutLaws.{same_rows}

-- a number has one shortest form of each sign
pub record FormsAreOne : Type 0 where
  pub unsigned : (n : ℕ) (x y : List ℕ) → IsShortest n x → IsShortest n y → x ≡ y
  pub signed : (z : ℤ) (x y : List ℕ) → IsShortestSleb z x → IsShortestSleb z y → x ≡ y

-- ---- sizes

name_one : FormsAreOne → (n : ℕ) (x y : List ℕ) → IsMemoryName n x → IsMemoryName n y → x ≡ y
name_one forms zero x y p q = p ∙ sym q
name_one forms (suc n) x y p q = p.2 ∙ ap (λ (i : List ℕ). 2 ∷ i) (forms.unsigned (suc n) p.0 q.0 p.1 q.1) ∙ sym q.2

place_one : FormsAreOne → (memory offset : ℕ) (x y : List ℕ) → IsMemoryPlace memory offset x → IsMemoryPlace memory offset y → x ≡ y
place_one forms memory offset x y p q =
    p.4 ∙ ap (λ (a : List ℕ). a ++ 0x41 ∷ (p.1 ++ 0x0b ∷ [])) (name_one forms memory p.0 q.0 p.2 q.2)
    ∙ ap (λ (b : List ℕ). q.0 ++ 0x41 ∷ (b ++ 0x0b ∷ [])) (forms.signed (cast_signed w32 offset) p.1 q.1 p.3 q.3) ∙ sym q.4

destination_one : FormsAreOne → (passive : Bool) (to : Destination) (x y : List ℕ) → IsDestinationAs passive to x → IsDestinationAs passive to y → x ≡ y
destination_one forms true to x y p q = p ∙ sym q
destination_one forms false to x y p q = place_one forms to.memory to.offset x y p q

pub size_one : FormsAreOne → (to : Destination) (len a b : ℕ) → HasSegmentSize to len a → HasSegmentSize to len b → a ≡ b
size_one forms to len a b x y =
    let t = destination_one forms to.passive to x.1.target y.1.target x.1.goes y.1.goes in
    let c = forms.unsigned len x.1.count y.1.count x.1.counts y.1.counts in
    let heads : x.0 ≡ y.0 = x.1.parts ∙ ap (λ (l : List ℕ). l ++ x.1.count) t ∙ ap (λ (l : List ℕ). y.1.target ++ l) c ∙ sym y.1.parts in
    x.2 ∙ ap (λ (h : List ℕ). length h + len) heads ∙ sym y.2

-- ---- places

abbrev same_place : KeptData → ℕ → PlacedData
same_place x p = record { segment = x; place = p }

row_head : (test : KeptData → Bool) (al : KeptData → ℕ) (x : KeptData) (p q : ℕ) (ss ts : List PlacedData)
    → spans_of test al (record { segment = x; place = p } ∷ ss) ≡ spans_of test al (record { segment = x; place = q } ∷ ts) → (spans_of test al ss ≡ spans_of test al ts) × (test x ≡ true → p ≡ q)
row_head test al x p q ss ts h = at (test x) refl
  where
    at : (b : Bool) → test x ≡ b → (spans_of test al ss ≡ spans_of test al ts) × (test x ≡ true → p ≡ q)
    at true e =
        let h' : span_of al (record { segment = x; place = p }) ∷ spans_of test al ss ≡ span_of al (record { segment = x; place = q }) ∷ spans_of test al ts = rw e at h in
        let heads : span_of al (record { segment = x; place = p }) ≡ span_of al (record { segment = x; place = q }) = cc in
        (cc, λ z. ap (λ (s : Span). s.place) heads)
    at false e =
        let h' : spans_of test al ss ≡ spans_of test al ts = rw e at h in
        (h', λ z. absurd cc)

offset_same : (m b : Bool) (p q : ℕ) → (m ≡ true → p ≡ q) → (b ≡ true → p ≡ q) → cond (m || b) p 0 ≡ cond (m || b) q 0
offset_same true b p q f g = f refl
offset_same false true p q f g = g refl
offset_same false false p q f g = refl

layout_is : (a b : SegmentLayout) → a.segment_index ≡ b.segment_index → a.payload ≡ b.payload → a.payload_start ≡ b.payload_start → a.output_memory_index ≡ b.output_memory_index → a.output_memory_offset ≡ b.output_memory_offset
    → a.encoded_output_size ≡ b.encoded_output_size → a.passive ≡ b.passive → a.tls_template ≡ b.tls_template → a.shared_init ≡ b.shared_init → a ≡ b
layout_is a b e1 e2 e3 e4 e5 e6 e7 e8 e9 =
    let f : ℕ → List ℕ → ℕ → ℕ → ℕ → ℕ → Bool → Bool → Bool → SegmentLayout = λ i p s m o e v t h. record { segment_index = i; payload = p; payload_start = s; output_memory_index = m; output_memory_offset = o; encoded_output_size = e; passive = v; tls_template = t; shared_init = h } in
    ap (λ (i : ℕ). f i a.payload a.payload_start a.output_memory_index a.output_memory_offset a.encoded_output_size a.passive a.tls_template a.shared_init) e1
    ∙ ap (λ (i : List ℕ). f b.segment_index i a.payload_start a.output_memory_index a.output_memory_offset a.encoded_output_size a.passive a.tls_template a.shared_init) e2
    ∙ ap (λ (i : ℕ). f b.segment_index b.payload i a.output_memory_index a.output_memory_offset a.encoded_output_size a.passive a.tls_template a.shared_init) e3
    ∙ ap (λ (i : ℕ). f b.segment_index b.payload b.payload_start i a.output_memory_offset a.encoded_output_size a.passive a.tls_template a.shared_init) e4
    ∙ ap (λ (i : ℕ). f b.segment_index b.payload b.payload_start b.output_memory_index i a.encoded_output_size a.passive a.tls_template a.shared_init) e5
    ∙ ap (λ (i : ℕ). f b.segment_index b.payload b.payload_start b.output_memory_index b.output_memory_offset i a.passive a.tls_template a.shared_init) e6
    ∙ ap (λ (i : Bool). f b.segment_index b.payload b.payload_start b.output_memory_index b.output_memory_offset b.encoded_output_size i a.tls_template a.shared_init) e7
    ∙ ap (λ (i : Bool). f b.segment_index b.payload b.payload_start b.output_memory_index b.output_memory_offset b.encoded_output_size b.passive i a.shared_init) e8
    ∙ ap (λ (i : Bool). f b.segment_index b.payload b.payload_start b.output_memory_index b.output_memory_offset b.encoded_output_size b.passive b.tls_template i) e9

layout_one : FormsAreOne → (pass : Pass) (s t : PlacedData) (a b : SegmentLayout) → s.segment ≡ t.segment → output_offset pass s ≡ output_offset pass t → IsLayoutOf pass s a → IsLayoutOf pass t b → a ≡ b
layout_one forms pass s t a b seg off i j =
    let payload : a.payload ≡ b.payload = i.payload ∙ ap (λ (x : KeptData). x.payload) seg ∙ sym j.payload in
    let memory : a.output_memory_index ≡ b.output_memory_index = i.output_memory_index ∙ sym j.output_memory_index in
    let offset : a.output_memory_offset ≡ b.output_memory_offset = i.output_memory_offset ∙ off ∙ sym j.output_memory_offset in
    let passive : a.passive ≡ b.passive = i.passive ∙ ap (is_passive pass) seg ∙ sym j.passive in
    let there : HasSegmentSize (destination_of b) (length b.payload) a.encoded_output_size = rw (← passive, ← memory, ← offset, ← payload) i.encoded_output_size in
    layout_is a b (i.segment_index ∙ ap (λ (x : KeptData). x.original) seg ∙ sym j.segment_index) payload (i.payload_start ∙ ap (λ (x : KeptData). x.payload_start) seg ∙ sym j.payload_start)
    memory offset (size_one forms (destination_of b) (length b.payload) a.encoded_output_size b.encoded_output_size there j.encoded_output_size) passive
    (i.tls_template ∙ ap (goes_to_block pass) seg ∙ sym j.tls_template) (i.shared_init ∙ ap (is_shared_init pass) seg ∙ sym j.shared_init)

layouts_one : FormsAreOne → (pass : Pass) (s t : List PlacedData) (l m : List SegmentLayout) → map (λ (x : PlacedData). x.segment) s ≡ map (λ (x : PlacedData). x.segment) t → memory_spans pass s ≡ memory_spans pass t → block_spans pass s ≡ block_spans pass t
    → AreLayoutsOf pass s l → AreLayoutsOf pass t m → l ≡ m
layouts_one forms pass [] [] [] [] e f g p q = refl
layouts_one forms pass [] [] [] (y ∷ m) e f g p q = absurd q
layouts_one forms pass [] [] (x ∷ l) m e f g p q = absurd p
layouts_one forms pass [] (t ∷ ts) l m e f g p q = absurd cc
layouts_one forms pass (s ∷ ss) [] l m e f g p q = absurd cc
layouts_one forms pass (s ∷ ss) (t ∷ ts) [] m e f g p q = absurd p
layouts_one forms pass (s ∷ ss) (t ∷ ts) (x ∷ l) [] e f g p q = absurd q
layouts_one forms pass (s ∷ ss) (t ∷ ts) (x ∷ l) (y ∷ m) e f g p q =
    let seg : s.segment ≡ t.segment = cc in
    let rest : map (λ (x : PlacedData). x.segment) ss ≡ map (λ (x : PlacedData). x.segment) ts = cc in
    let u : PlacedData = record { segment = s.segment; place = t.place } in
    let same : t ≡ u = ap (λ (x : KeptData). same_place x t.place) (sym seg) in
    let mem = row_head (goes_to_memory pass) (λ x. x.alignment) s.segment s.place t.place ss ts (f ∙ ap (λ (z : PlacedData). memory_spans pass (z ∷ ts)) same) in
    let blo = row_head (goes_to_block pass) block_alignment s.segment s.place t.place ss ts (g ∙ ap (λ (z : PlacedData). block_spans pass (z ∷ ts)) same) in
    let off : output_offset pass s ≡ output_offset pass t = offset_same (goes_to_memory pass s.segment) (goes_to_block pass s.segment) s.place t.place mem.1 blo.1 ∙ ap (output_offset pass) (sym same) in
    let head = layout_one forms pass s t x y seg off p.0 q.0 in
    let tail = layouts_one forms pass ss ts l m rest mem.0 blo.0 p.1 q.1 in
    ap (λ (z : SegmentLayout). z ∷ l) head ∙ ap (λ (z : List SegmentLayout). y ∷ z) tail

pub laid_same : FormsAreOne → (pass : Pass) (xs : List KeptData) (a b c : Frontier) (l m : List SegmentLayout) → AreLaidOut pass xs a b l → AreLaidOut pass xs a c m → l ≡ m
laid_same forms pass xs a b c l m p q =
    let same = p.stand.chosen ∙ sym q.stand.chosen in
    layouts_one forms pass p.placed q.placed l m same
    (same_rows (goes_to_memory pass) (λ x. x.alignment) p.placed q.placed a.memory b.memory c.memory same p.stand.memory q.stand.memory)
    (same_rows (goes_to_block pass) block_alignment p.placed q.placed a.block b.block c.block same p.stand.block q.stand.block) p.laid q.laid
