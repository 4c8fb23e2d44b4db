-- No segment stands twice among those of the output.
use Rattle.std.proofs.Common.{◌≡◌, ◌⊎◌, ◌∙◌, ℕ, ◌+◌, ◌≤◌, Bool, not, List, [], ◌∷◌, refl, sym, ap, subst, arith, inl, inr, filter, map}
use Rattle.std.specs.List.{AllZip}
use Rattle.std.proofs.lemmas.Bool.{cases_Bool}
use Rattle.std.proofs.lemmas.List.{map-append}
use Rattle.wl_module.specs.Segments.{Segment}
use Rattle.wl_linking.specs.Object.{Object}
use Rattle.wl_data.specs.DataPlaces.{HasLayout, HaveLayouts, in_output_order, is_thread_local}
use Rattle.wl_data.specs.Segments.{KeptData, SegmentLayout}
use Rattle.wl_data.specs.declared.options.DataOptions.{DataOptions}
use Rattle.wl_symbols.specs.declared.units.WasmGcUnit.TheVariants.{DataSegment}
use Rattle.wl_symbols.specs.Input.{Input, keeps}
use Rattle.wl_bind.specs.Parts.{StandOnce}
use Rattle.wl_places.specs.Addresses.{numbers_from, segment_space}
use Rattle.wl_places.specs.KeptData.{kept_from, kept_segments, segments_from}
use Rattle.wl_places.specs.Placing.{data_input, data_options, IsPlacing}
use Rattle.wl_places.specs.declared.placing.Placing.{Placing}
use Rattle.wl_lists.proofs.In.{in_map_filter, IsIn, in_split}
use Rattle.wl_lists.proofs.Once.{once_from, distinct-append, distinct-map_filter, Distinct}
use Rattle.wl_places.specs.AddressSteps.{index_of, original_of}
use Rattle.wl_places.proofs.SmallLaws.{SegmentsHaveLayouts}

-- ---- lists in which nothing stands twice

-- what passes, and what doesn't, have nothing in common
split_apart : {X Y : Type 0} (f : X → Y) (p : X → Bool) (xs : List X) (z : Y) → Distinct (map f xs)
    → IsIn (map f (filter (λ (x : X). not (p x)) xs)) z → IsIn (map f (filter p xs)) z → ⊥
split_apart f p [] z d a b = a
split_apart {X} {Y} f p (x ∷ xs) z d a b =
    let P : Y → Type 0 = λ w. IsIn (map f xs) w in
    elim (cases_Bool (p x)) [
      | inl t ↦
          let a' : IsIn (map f (filter (λ (x : X). not (p x)) xs)) z = rw t at a in
          let b' : (f x ≡ z) ⊎ IsIn (map f (filter p xs)) z = rw t at b in
          elim b' [
            | inl e ↦ d.0 (subst P (sym e) (in_map_filter f (λ (x : X). not (p x)) xs z a'))
            | inr r ↦ split_apart f p xs z d.1 a' r
          ]
      | inr g ↦
          let a' : (f x ≡ z) ⊎ IsIn (map f (filter (λ (x : X). not (p x)) xs)) z = rw g at a in
          let b' : IsIn (map f (filter p xs)) z = rw g at b in
          elim a' [
            | inl e ↦ d.0 (subst P (sym e) (in_map_filter f p xs z b'))
            | inr r ↦ split_apart f p xs z d.1 r b'
          ]
    ]

-- ---- the segments of an object that are kept

kept_least : (input : Input) (i : ℕ) (o : Object) (n : ℕ) (segments : List Segment) (z : ℕ)
    → IsIn (map original_of (kept_from input i o n segments)) z → n ≤ z
kept_least input i o n [] z h = absurd h
kept_least input i o n (s ∷ segments) z h = elim (cases_Bool (keeps input i (DataSegment n))) [
  | inl t ↦
      let h' : (n ≡ z) ⊎ IsIn (map original_of (kept_from input i o (n + 1) segments)) z =
      rw t at h in
      elim h' [
        | inl e ↦ omega (arith, e)
        | inr r ↦ let m : n + 1 ≤ z = kept_least input i o (n + 1) segments z r in omega (arith, m)
      ]
  | inr f ↦
      let h' : IsIn (map original_of (kept_from input i o (n + 1) segments)) z = rw f at h in
      let m : n + 1 ≤ z = kept_least input i o (n + 1) segments z h' in omega (arith, m)
]

distinct-kept : (input : Input) (i : ℕ) (o : Object) (n : ℕ) (segments : List Segment)
    → Distinct (map original_of (kept_from input i o n segments))
distinct-kept input i o n [] = tt
distinct-kept input i o n (s ∷ segments) = elim (cases_Bool (keeps input i (DataSegment n))) [
  | inl t ↦ rw t (
    λ h. let m : n + 1 ≤ n = kept_least input i o (n + 1) segments n h in absurd (omega (arith, m)),
    distinct-kept input i o (n + 1) segments,
  )
  | inr f ↦ rw f (distinct-kept input i o (n + 1) segments)
]

distinct-ordered : (segments : List KeptData) → Distinct (map original_of segments)
    → Distinct (map original_of (in_output_order segments))
distinct-ordered segments d =
    subst (λ (ns : List ℕ). Distinct ns)
    (sym (map-append original_of (filter (λ (s : KeptData). not s.tls) segments)
    (filter is_thread_local segments)))
    (distinct-append (map original_of (filter (λ (s : KeptData). not s.tls) segments))
    (map original_of (filter is_thread_local segments))
    (distinct-map_filter original_of (λ (s : KeptData). not s.tls) segments d)
    (distinct-map_filter original_of is_thread_local segments d)
    (λ z a b. split_apart original_of is_thread_local segments z d a b))

-- ---- their layouts

same_numbers : (o : DataOptions) (segments : List KeptData) (layouts : List SegmentLayout)
    → AllZip (HasLayout o) segments layouts → map original_of segments ≡ map index_of layouts
same_numbers o [] [] p = refl
same_numbers o [] (l ∷ layouts) p = absurd p
same_numbers o (s ∷ segments) [] p = absurd p
same_numbers o (s ∷ segments) (l ∷ layouts) p =
    ap (λ (n : ℕ). n ∷ map original_of segments) (sym p.0.segment_index)
    ∙ ap (λ (ns : List ℕ). l.segment_index ∷ ns) (same_numbers o segments layouts p.1)

in_object : (i : ℕ) (layouts : List SegmentLayout) (z : ℕ × ℕ)
    → IsIn {X = ℕ × ℕ} (map (λ (l : SegmentLayout). (i, l.segment_index)) layouts) z
    → (z.0 ≡ i) × IsIn (map index_of layouts) z.1
in_object i [] z h = absurd h
in_object i (l ∷ layouts) z h = elim h [
  | inl e ↦ (ap (λ (p : ℕ × ℕ). p.0) (sym e), inl (ap (λ (p : ℕ × ℕ). p.1) e))
  | inr r ↦ let more = in_object i layouts z r in (more.0, inr more.1)
]

distinct-object : (i : ℕ) (layouts : List SegmentLayout) → Distinct (map index_of layouts)
    → Distinct {X = ℕ × ℕ} (map (λ (l : SegmentLayout). (i, l.segment_index)) layouts)
distinct-object i [] d = tt
distinct-object i (l ∷ layouts) d = (
  λ h. d.0 (in_object i layouts (i, l.segment_index) h).1,
  distinct-object i layouts d.1,
)

numbers_least : (i : ℕ) (layouts : List (List SegmentLayout)) (z : ℕ × ℕ)
    → IsIn {X = ℕ × ℕ} (numbers_from i layouts) z → i ≤ z.0
numbers_least i [] z h = absurd h
numbers_least i (ls ∷ layouts) z h =
    elim (in_split {X = ℕ × ℕ} (map (λ (l : SegmentLayout). (i, l.segment_index)) ls) (numbers_from (i + 1) layouts) z h) [
      | inl a ↦ (let e : z.0 ≡ i = (in_object i ls z a).0 in omega (arith, e))
      | inr b ↦ (let m : i + 1 ≤ z.0 = numbers_least (i + 1) layouts z b in omega (arith, m))
    ]

distinct-numbers : (input : Input) (o : DataOptions) (i : ℕ) (objects : List Object)
    (layouts : List (List SegmentLayout))
    → AllZip (HaveLayouts o) (segments_from input i objects) layouts
    → Distinct {X = ℕ × ℕ} (numbers_from i layouts)
distinct-numbers input o i [] [] p = tt
distinct-numbers input o i [] (ls ∷ layouts) p = absurd p
distinct-numbers input o i (x ∷ objects) [] p = absurd p
distinct-numbers input o i (x ∷ objects) (ls ∷ layouts) p =
    let segments = kept_segments input i x in
    let here : Distinct (map index_of ls) =
    subst (λ (ns : List ℕ). Distinct ns) (same_numbers o (in_output_order segments) ls p.0)
    (distinct-ordered segments (distinct-kept input i x 0 x.segments)) in
    distinct-append {X = ℕ × ℕ} (map (λ (l : SegmentLayout). (i, l.segment_index)) ls)
    (numbers_from (i + 1) layouts) (distinct-object i ls here)
    (distinct-numbers input o (i + 1) objects layouts p.1)
    (λ z a b. let e : z.0 ≡ i = (in_object i ls z a).0 in
    let m : i + 1 ≤ z.0 = numbers_least (i + 1) layouts z b in absurd (omega (arith, e, m)))

pub segments_once : SegmentsHaveLayouts → (input : Input) (g : Placing) → IsPlacing input g
    → StandOnce (segment_space g)
segments_once laid input g p =
    once_from (segment_space g) (distinct-numbers input (data_options input) 0 input.link.objects
    g.places.layouts (laid (data_input input) g.places p.laid))
