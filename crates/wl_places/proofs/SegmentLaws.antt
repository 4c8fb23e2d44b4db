-- Each kept segment stands once among the segments of the output.
use Rattle.std.proofs.Common.{◌≡◌, ◌∙◌, ◌≤◌, ◌<◌, ℕ, zero, suc, ◌+◌, Bool, true, false, not, ◌&&◌, ◌==◌, List, [], ◌∷◌, ◌++◌, length, map, filter, refl, sym, ap, subst, arith, inl, inr, Some, slice_get, position, if◌then◌else◌, eqb-true, eq-eqb, eqb, lt-ltb}
use Rattle.std.specs.List.{AllZip, position_or_len}
use Rattle.std.proofs.lemmas.Bool.{cases_Bool}
use Rattle.std.proofs.lemmas.List.{length-map}
use Rattle.std.proofs.lemmas.Option.{slice_get_within}
use Rattle.wl_data.specs.DataPlaces.{DataInput, IsDataPlaces, HasLayout, HaveLayouts, in_output_order, is_thread_local}
use Rattle.wl_data.specs.Segments.{KeptData, SegmentLayout}
use Rattle.wl_data.specs.declared.options.DataOptions.{DataOptions}
use Rattle.wl_data.specs.declared.places.DataPlaces.{DataPlaces as SpecPlaces}
use Rattle.wl_linking.specs.Object.{Object}
use Rattle.wl_symbols.specs.declared.units.WasmGcUnit.TheVariants.{DataSegment}
use Rattle.wl_module.specs.Segments.{Segment}
use Rattle.wl_symbols.specs.Input.{Input, keeps}
use Rattle.wl_places.specs.Addresses.{numbers_from, segment_space}
use Rattle.wl_places.specs.KeptData.{kept_data, kept_from, kept_segments, segments_from, all_segments}
use Rattle.wl_places.specs.Placing.{IsPlacing, data_input}
use Rattle.wl_places.specs.SegmentNumbers.{same_segment}
use Rattle.wl_places.specs.declared.placing.Placing.{Placing}
use Rattle.wl_lists.proofs.Beside.{zip_left}
use Rattle.wl_lists.proofs.Places.{append_split, came_at}
use Rattle.wl_places.proofs.SmallLaws.{SegmentsHaveLayouts}

-- ---- lists

-- what passed a test
pub from_filter : {X : Type 0} (test : X → Bool) (xs : List X) (i : ℕ) (x : X)
    → slice_get (filter test xs) i ≡ Some x
    → (k : ℕ) × (slice_get xs k ≡ Some x) × (test x ≡ true)
from_filter test [] i x here = absurd cc
from_filter test (y ∷ xs) zero x here = elim (cases_Bool (test y)) [
  | inl passed ↦
      let first : Some y ≡ Some x = rw passed at here in
      let same : y ≡ x = cc (first) in
      (zero, first, rw (← same) passed)
  | inr failed ↦ let rest = from_filter test xs zero x (rw failed at here) in (suc rest.0, rest.1, rest.2)
]
from_filter test (y ∷ xs) (suc i) x here = elim (cases_Bool (test y)) [
  | inl passed ↦ let rest = from_filter test xs i x (rw passed at here) in (suc rest.0, rest.1, rest.2)
  | inr failed ↦ let rest = from_filter test xs (suc i) x (rw failed at here) in (suc rest.0, rest.1, rest.2)
]

first_passes : {X : Type 0} (test : X → Bool) (xs : List X) (i : ℕ) (x : X)
    → slice_get xs i ≡ Some x → test x ≡ true
    → ((k : ℕ) (y : X) → k < i → slice_get xs k ≡ Some y → test y ≡ false)
    → position_or_len test xs ≡ i
first_passes test [] i x here so none = absurd cc
first_passes test (y ∷ xs) zero x here so none =
    let same : y ≡ x = cc in
    let passed : test y ≡ true = rw same so in
    rw passed refl
first_passes test (y ∷ xs) (suc i) x here so none =
    let failed : test y ≡ false = none zero y (omega arith) refl in
    let rest : position_or_len test xs ≡ i =
    first_passes test xs i x here so (λ k z lt at. none (suc k) z (omega (arith, lt)) at) in
    rw failed (omega (arith, rest))

-- the place of what passes, where nothing before it does
pub position_is : {X : Type 0} (test : X → Bool) (xs : List X) (i : ℕ) (x : X)
    → slice_get xs i ≡ Some x → test x ≡ true
    → ((k : ℕ) (y : X) → k < i → slice_get xs k ≡ Some y → test y ≡ false)
    → position test xs ≡ Some i
position_is test xs i x here so none =
    let place : position_or_len test xs ≡ i = first_passes test xs i x here so none in
    let within : i < length xs = slice_get_within xs i x here in
    let lt : position_or_len test xs < length xs = omega (arith, place, within) in
    rw (lt-ltb (position_or_len test xs) (length xs) lt) (ap (λ n. Some n) place)

-- ---- the kept segments of an object

-- their numbers rise, from that one on
abbrev Rises : ℕ → List KeptData → Type 0
Rises from [] = Unit {0}
Rises from (s ∷ segments) = (from ≤ s.original) × Rises (s.original + 1) segments

rise_from_lower : (from lower : ℕ) (segments : List KeptData) → lower ≤ from → Rises from segments
    → Rises lower segments
rise_from_lower from lower [] le h = tt
rise_from_lower from lower (s ∷ segments) le h = (omega (arith, le, h.0), h.1)

rise_if : (b : Bool) (s : KeptData) (segments : List KeptData) (n : ℕ) → s.original ≡ n
    → Rises (n + 1) segments → Rises n ((if b then s ∷ [] else []) ++ segments)
rise_if true s segments n is h =
    (omega (arith, is), rise_from_lower (n + 1) (s.original + 1) segments (omega (arith, is)) h)
rise_if false s segments n is h = rise_from_lower (n + 1) n segments (omega arith) h

kept_rise : (input : Input) (object : ℕ) (o : Object) (n : ℕ) (segments : List Segment)
    → Rises n (kept_from input object o n segments)
kept_rise input object o n [] = tt
kept_rise input object o n (s ∷ segments) =
    rise_if (keeps input object (DataSegment n)) (kept_data o n s)
    (kept_from input object o (n + 1) segments) n refl (kept_rise input object o (n + 1) segments)

rise_filter : (test : KeptData → Bool) (n : ℕ) (segments : List KeptData) → Rises n segments
    → Rises n (filter test segments)
rise_filter test n [] h = tt
rise_filter test n (s ∷ segments) h =
    let rest : Rises (s.original + 1) (filter test segments) =
    rise_filter test (s.original + 1) segments h.1 in
    elim (cases_Bool (test s)) [
      | inl passed ↦ rw passed (h.0, rest)
      | inr failed ↦
          rw failed (rise_from_lower (s.original + 1) n (filter test segments) (omega (arith, h.0)) rest)
    ]

rise_above : (n : ℕ) (segments : List KeptData) (i : ℕ) (s : KeptData) → Rises n segments
    → slice_get segments i ≡ Some s → n ≤ s.original
rise_above n [] i s h here = absurd cc
rise_above n (x ∷ segments) zero s h here =
    let same : x ≡ s = cc in
    let number : x.original ≡ s.original = ap (λ (d : KeptData). d.original) same in
    omega (arith, h.0, number)
rise_above n (x ∷ segments) (suc i) s h here =
    omega (arith, h.0, rise_above (x.original + 1) segments i s h.1 here)

rise_once : (n : ℕ) (segments : List KeptData) (i k : ℕ) (s t : KeptData) → Rises n segments
    → slice_get segments i ≡ Some s → slice_get segments k ≡ Some t → s.original ≡ t.original
    → i ≡ k
rise_once n [] i k s t h at_i at_k e = absurd cc
rise_once n (x ∷ segments) zero zero s t h at_i at_k e = refl
rise_once n (x ∷ segments) zero (suc k) s t h at_i at_k e =
    let same : x ≡ s = cc in
    let number : x.original ≡ s.original = ap (λ (d : KeptData). d.original) same in
    absurd (omega (arith, e, number, rise_above (x.original + 1) segments k t h.1 at_k))
rise_once n (x ∷ segments) (suc i) zero s t h at_i at_k e =
    let same : x ≡ t = cc in
    let number : x.original ≡ t.original = ap (λ (d : KeptData). d.original) same in
    absurd (omega (arith, e, number, rise_above (x.original + 1) segments i s h.1 at_i))
rise_once n (x ∷ segments) (suc i) (suc k) s t h at_i at_k e =
    ap (λ m. suc m) (rise_once (x.original + 1) segments i k s t h.1 at_i at_k e)

both_ways : (b : Bool) → b ≡ true → not b ≡ true → ⊥
both_ways true a b = absurd cc
both_ways false a b = absurd cc

-- one that each thread has its own of and one that all have in common have other numbers
never_both : (n : ℕ) (segments : List KeptData) (i k : ℕ) (s t : KeptData) → Rises n segments
    → slice_get (filter (λ (d : KeptData). not d.tls) segments) i ≡ Some s
    → slice_get (filter is_thread_local segments) k ≡ Some t → s.original ≡ t.original → ⊥
never_both n segments i k s t h at_i at_k e =
    let a = from_filter (λ (d : KeptData). not d.tls) segments i s at_i in
    let b = from_filter is_thread_local segments k t at_k in
    let place : a.0 ≡ b.0 = rise_once n segments a.0 b.0 s t h a.1 b.1 e in
    let here : slice_get segments b.0 ≡ Some s = subst (λ m. slice_get segments m ≡ Some s) place a.1 in
    let same : s ≡ t = cc (here, b.1) in
    both_ways t.tls b.2 (subst (λ (d : KeptData). not d.tls ≡ true) same a.2)

ordered_once : (n : ℕ) (segments : List KeptData) (i k : ℕ) (s t : KeptData) → Rises n segments
    → slice_get (in_output_order segments) i ≡ Some s
    → slice_get (in_output_order segments) k ≡ Some t → s.original ≡ t.original → i ≡ k
ordered_once n segments i k s t h at_i at_k e =
    let common : List KeptData = filter (λ (d : KeptData). not d.tls) segments in
    let own : List KeptData = filter is_thread_local segments in
    elim (append_split common own i s at_i) [
      | inl a ↦ elim (append_split common own k t at_k) [
        | inl b ↦
            rise_once n common i k s t (rise_filter (λ (d : KeptData). not d.tls) n segments h) a b e
        | inr b ↦ absurd (never_both n segments i b.0 s t h a b.2 e)
      ]
      | inr a ↦ elim (append_split common own k t at_k) [
        | inl b ↦ absurd (never_both n segments k a.0 t s h b a.2 (sym e))
        | inr b ↦
            let same : a.0 ≡ b.0 =
            rise_once n own a.0 b.0 s t (rise_filter is_thread_local n segments h) a.2 b.2 e in
            omega (arith, a.1, b.1, same)
      ]
    ]

layouts_once : (o : DataOptions) (n : ℕ) (segments : List KeptData) (layouts : List SegmentLayout)
    (i k : ℕ) (l m : SegmentLayout) → Rises n segments → HaveLayouts o segments layouts
    → slice_get layouts i ≡ Some l → slice_get layouts k ≡ Some m
    → l.segment_index ≡ m.segment_index → i ≡ k
layouts_once o n segments layouts i k l m h have at_i at_k e =
    let a = zip_left (HasLayout o) (in_output_order segments) layouts i l have at_i in
    let b = zip_left (HasLayout o) (in_output_order segments) layouts k m have at_k in
    let here : l.segment_index ≡ (a.0).original = (a.2).segment_index in
    let there : m.segment_index ≡ (b.0).original = (b.2).segment_index in
    ordered_once n segments i k a.0 b.0 h a.1 b.1 (sym here ∙ e ∙ there)

-- ---- all objects

kept_of : (input : Input) (object : ℕ) (objects : List Object) (i : ℕ) (segments : List KeptData)
    → slice_get (segments_from input object objects) i ≡ Some segments → Rises 0 segments
kept_of input object [] i segments here = absurd cc
kept_of input object (o ∷ objects) zero segments here =
    let same : kept_segments input object o ≡ segments = cc in
    subst (λ (ds : List KeptData). Rises 0 ds) same (kept_rise input object o 0 o.segments)
kept_of input object (o ∷ objects) (suc i) segments here =
    kept_of input (object + 1) objects i segments here

-- how many segments the first objects have
abbrev start_behind : ℕ → List (List SegmentLayout) → ℕ
start_behind zero layouts = 0
start_behind (suc n) [] = 0
start_behind (suc n) (l ∷ layouts) = length l + start_behind n layouts

-- where a segment of the output is from
record IsFrom (object : ℕ) (layouts : List (List SegmentLayout)) (i : ℕ) (p : ℕ × ℕ) : Type 0 where
  pub row : ℕ
  pub list : List SegmentLayout
  pub place : ℕ
  pub layout : SegmentLayout
  pub object_is : p.0 ≡ object + row
  pub has : slice_get layouts row ≡ Some list
  pub here : slice_get list place ≡ Some layout
  pub segment_is : p.1 ≡ layout.segment_index
  pub index_is : i ≡ start_behind row layouts + place

segment_from : (object : ℕ) (layouts : List (List SegmentLayout)) (i : ℕ) (p : ℕ × ℕ)
    → slice_get (numbers_from object layouts) i ≡ Some p → IsFrom object layouts i p
segment_from object [] i p here = absurd cc
segment_from object (list ∷ layouts) i p here =
    let f : SegmentLayout → ℕ × ℕ = λ l. (object, l.segment_index) in
    elim (append_split (map f list) (numbers_from (object + 1) layouts) i p here) [
      | inl front ↦
          let m = came_at f list i p front in
          let first : object ≡ p.0 = ap (λ (q : ℕ × ℕ). q.0) m.2 in
          let second : (m.0).segment_index ≡ p.1 = ap (λ (q : ℕ × ℕ). q.1) m.2 in
          record {
            row = 0;
            list = list;
            place = i;
            layout = m.0;
            object_is = omega (arith, first);
            has = refl;
            here = m.1;
            segment_is = sym second;
            index_is = omega arith;
          }
      | inr behind ↦
          let rest = segment_from (object + 1) layouts behind.0 p behind.2 in
          let long : length (map f list) ≡ length list = length-map list f in
          let object_is : p.0 ≡ (object + 1) + rest.row = rest.object_is in
          let index_is : behind.0 ≡ start_behind rest.row layouts + rest.place = rest.index_is in
          record {
            row = suc rest.row;
            list = rest.list;
            place = rest.place;
            layout = rest.layout;
            object_is = omega (arith, object_is);
            has = rest.has;
            here = rest.here;
            segment_is = rest.segment_is;
            index_is = omega (arith, behind.1, index_is, long);
          }
    ]

-- nothing stands twice among the segments of the output
pub segments_once : SegmentsHaveLayouts → (input : Input) (g : Placing) → IsPlacing input g
    → (i k : ℕ) (p : ℕ × ℕ) → slice_get (segment_space g) i ≡ Some p
    → slice_get (segment_space g) k ≡ Some p → i ≡ k
segments_once law input g placed i k p at_i at_k =
    let layouts : List (List SegmentLayout) = g.places.layouts in
    let d : DataInput = data_input input in
    let have : AllZip (HaveLayouts d.options) (all_segments input) layouts =
    law d g.places placed.laid in
    let a : IsFrom 0 layouts i p = segment_from 0 layouts i p at_i in
    let b : IsFrom 0 layouts k p = segment_from 0 layouts k p at_k in
    let row : a.row ≡ b.row = omega (arith, a.object_is, b.object_is) in
    let there : slice_get layouts b.row ≡ Some a.list =
    subst (λ n. slice_get layouts n ≡ Some a.list) row a.has in
    let list : a.list ≡ b.list = cc (there, b.has) in
    let here : slice_get b.list a.place ≡ Some a.layout =
    subst (λ (ls : List SegmentLayout). slice_get ls a.place ≡ Some a.layout) list a.here in
    let z = zip_left (HaveLayouts d.options) (all_segments input) layouts b.row b.list have b.has in
    let place : a.place ≡ b.place =
    layouts_once d.options 0 z.0 b.list a.place b.place a.layout b.layout
    (kept_of input 0 input.link.objects b.row z.0 z.1) z.2 here b.here
    (sym a.segment_is ∙ b.segment_is) in
    let start : start_behind a.row layouts ≡ start_behind b.row layouts =
    ap (λ n. start_behind n layouts) row in
    omega (arith, a.index_is, b.index_is, start, place)

pairs_same : (i k j l : ℕ) → ((i == j) && (k == l)) ≡ true → (i ≡ j) × (k ≡ l)
pairs_same i k j l e = elim (cases_Bool (eqb i j)) [
  | inl first ↦ (eqb-true i j first, eqb-true k l (rw first at e))
  | inr not ↦ absurd (let no : false ≡ true = rw not at e in cc)
]

-- the same segment is the same pair
pub same_pair : (p q : ℕ × ℕ) → same_segment p q ≡ true → p ≡ q
same_pair (i, k) (j, l) e = let both = pairs_same i k j l e in cc (both.0, both.1)

pub pair_self : (p : ℕ × ℕ) → same_segment p p ≡ true
pair_self (i, k) = rw (eq-eqb i i refl, eq-eqb k k refl) refl

-- the place of a segment of the output is its number
pub place_is : SegmentsHaveLayouts → (input : Input) (g : Placing) → IsPlacing input g
    → (i : ℕ) (p : ℕ × ℕ) → slice_get (segment_space g) i ≡ Some p
    → position (same_segment p) (segment_space g) ≡ Some i
place_is law input g placed i p here =
    position_is (same_segment p) (segment_space g) i p here (pair_self p)
    (λ k q lt there. elim (cases_Bool (same_segment p q)) [
      | inl passed ↦
          let same : p ≡ q = same_pair p q passed in
          let again : slice_get (segment_space g) k ≡ Some p = rw same there in
          let place : i ≡ k = segments_once law input g placed i k p here again in
          absurd (omega (arith, lt, place))
      | inr failed ↦ failed
    ])
