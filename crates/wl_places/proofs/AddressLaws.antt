-- Which segments the output has of an object, and where they begin.
use Rattle.std.proofs.Common.{◌≡◌, ◌∙◌, ◌≤◌, ◌<◌, ◌==◌, ◌&&◌, ◌||◌, not, ℕ, zero, suc, ◌+◌, Bool, true, false, if◌then◌else◌, List, [], ◌∷◌, ◌++◌, length, map, filter, take, set, get_or, replicate, find, nat_lt, refl, sym, ap, subst, arith, inl, inr, Option, Some, None, slice_get}
use Rattle.std.specs.List.{AllZip, range_with_len, slice_index_or}
use Rattle.std.specs.Option.{option_map_or, option_and_then}
use Rattle.std.proofs.lemmas.Bool.{cases_Bool, cases_eq, eq-eqb, ne_eqb}
use Rattle.std.proofs.lemmas.List.{get_or-set_same, get_or-set_other, length-set, take_more}
use Rattle.std.proofs.lemmas.List.FromFn.{length-map-range_with_len, get_or-map-range_with_len, map-range_with_len_more, fill_by_all}
use Rattle.std.proofs.lemmas.Option.{slice_get_within, get_or_from_slice_get, slice_get_read}
use Rattle.wl_module.specs.Segments.{Segment}
use Rattle.wl_linking.specs.Fitting.{IsFitting}
use Rattle.wl_linking.specs.Object.{Object}
use Rattle.wl_linking.specs.Spaces.{spaces_of, symbol_exists, thing_exists}
use Rattle.wl_custom.specs.Symbols.{Symbol as LinkedSymbol, is_data, is_defined_data, is_undefined, is_absolute}
use Rattle.wl_custom.specs.declared.symbols.WasmSymbolKind.{WasmSymbolKind}
use Rattle.wl_custom.specs.declared.symbols.WasmSymbolKind.TheVariants.{Func, Data, Global, Section, Event, Table}
use Rattle.wl_symbols.specs.Entries.{symbol_in}
use Rattle.wl_symbols.specs.Names.{def}
use Rattle.wl_data.specs.DataPlaces.{DataInput, IsDataPlaces, HasLayout, HaveLayouts, in_output_order, is_thread_local}
use Rattle.wl_data.specs.Segments.{KeptData, SegmentLayout}
use Rattle.wl_data.specs.declared.options.DataOptions.{DataOptions}
use Rattle.wl_data.specs.declared.places.DataPlaces.{DataPlaces}
use Rattle.wl_index.specs.declared.data_address.WasmDataAddress.{WasmDataAddress}
use Rattle.wl_index.specs.declared.data_address.WasmDataAddress.TheVariants.{Missing, Placed}
use Rattle.wl_symbols.specs.declared.units.WasmGcUnit.TheVariants.{DataSegment}
use Rattle.wl_bind.specs.IndexMaps.{is_data_symbol}
use Rattle.wl_symbols.specs.Input.{Input, keeps}
use Rattle.wl_bind.specs.Parts.{AreRows}
use Rattle.wl_places.specs.Addresses.{start_of, layouts_of, segment_start, segment_starts, behind, defined_data, data_by, address_of_definition, symbol_address, IsHigh, HasHighSymbol}
use Rattle.wl_places.specs.AddressSteps.{AreOnce, starts_among, AreObjectStarts, index_of, original_of}
use Rattle.wl_places.specs.KeptData.{kept_data, kept_from, kept_segments, segments_from}
use Rattle.wl_places.specs.Placing.{data_options, IsPlacing}
use Rattle.wl_places.specs.declared.placing.Placing.{Placing}
use Rattle.wl_lists.proofs.Found.{cases_option}
use Rattle.wl_lists.proofs.Places.{test_at}
use Rattle.wl_lists.proofs.Rows.{row_found}

-- ---- lists

-- what stands among the first ones
pub taken : {X : Type 0} (xs : List X) (i k : ℕ) (x : X) → slice_get (take i xs) k ≡ Some x
    → (k < i) × (slice_get xs k ≡ Some x)
taken [] zero k x at = absurd cc
taken [] (suc i) k x at = absurd cc
taken (y ∷ xs) zero k x at = absurd cc
taken (y ∷ xs) (suc i) zero x at = (omega arith, at)
taken (y ∷ xs) (suc i) (suc k) x at =
    let rest = taken xs i k x at in (omega (arith, rest.0), rest.1)

-- one item of what a function makes of numbers is set, and the others stay
pub one_set : {X : Type 0} (f g : ℕ → X) (n i : ℕ) (x : X) → g i ≡ x
    → ((k : ℕ) → (k ≡ i → ⊥) → g k ≡ f k)
    → set (map f (range_with_len 0 n)) i x ≡ map g (range_with_len 0 n)
one_set {X} f g n i x here others =
    let xs : List X = map f (range_with_len 0 n) in
    let long : length xs ≡ n = length-map-range_with_len f 0 n in
    fill_by_all g (set xs i x) n x (length-set xs i x ∙ long) (λ k lt.
    elim (cases_eq k i) [
      | inl e ↦ (let within : i < length xs = omega (arith, long, e, lt) in
          rw e (get_or-set_same xs i x x within ∙ sym here))
      | inr ne ↦ (let same : 0 + k ≡ k = omega arith in
          get_or-set_other xs i k x x ne
          ∙ (get_or-map-range_with_len f 0 n k k x lt same ∙ sym (others k ne)))
    ])

-- nothing is found where all fail
pub find_none : {X : Type 0} (p : X → Bool) (xs : List X)
    → ((k : ℕ) (x : X) → slice_get xs k ≡ Some x → p x ≡ false) → find p xs ≡ None
find_none p [] each = refl
find_none p (x ∷ xs) each =
    rw (each zero x refl) (find_none p xs (λ k y at. each (suc k) y at))

-- the last one is found where those before it fail
pub find_last : {X : Type 0} (p : X → Bool) (xs : List X) (x : X) → find p xs ≡ None → p x ≡ true
    → find p (xs ++ x ∷ []) ≡ Some x
find_last p [] x none so = rw so refl
find_last p (y ∷ xs) x none so = elim (cases_Bool (p y)) [
  | inl holds ↦ absurd (let some : Some y ≡ None = rw holds at none in cc)
  | inr fails ↦ rw fails (find_last p xs x (rw fails at none) so)
]

-- it is passed over where it fails
pub find_pass : {X : Type 0} (p : X → Bool) (xs : List X) (x : X) → p x ≡ false
    → find p (xs ++ x ∷ []) ≡ find p xs
find_pass p [] x fails = rw fails refl
find_pass p (y ∷ xs) x fails = elim (cases_Bool (p y)) [
  | inl holds ↦ rw holds refl
  | inr other ↦ rw other (find_pass p xs x fails)
]

-- ---- rows

-- what is read at the place of an object is the object
pub same_object : (objects files : List Object) (k : ℕ) (o p : Object) → files ≡ objects
    → p ≡ get_or files k p → slice_get objects k ≡ Some o → p ≡ o
same_object objects files k o p are is here =
    is ∙ ap (λ (os : List Object). get_or os k p) are ∙ get_or_from_slice_get objects k o p here

-- ---- how often a number stands in a list

-- how many of these have that number
abbrev pub hits : {X : Type 0} → (X → ℕ) → ℕ → List X → ℕ
hits f n [] = 0
hits f n (x ∷ xs) = (if f x == n then 1 else 0) + hits f n xs

hits_append : {X : Type 0} (f : X → ℕ) (n : ℕ) (xs ys : List X)
    → hits f n (xs ++ ys) ≡ hits f n xs + hits f n ys
hits_append f n [] ys = omega arith
hits_append f n (x ∷ xs) ys = let rest = hits_append f n xs ys in omega (arith, rest)

hits_head : {X : Type 0} (f : X → ℕ) (n : ℕ) (b : Bool) (x : X) (xs ys : List X)
    → hits f n (if not b then x ∷ xs else xs) + hits f n (if b then x ∷ ys else ys)
    ≡ (if f x == n then 1 else 0) + (hits f n xs + hits f n ys)
hits_head f n true x xs ys = omega arith
hits_head f n false x xs ys = omega arith

-- the order of those that pass and those that fail doesn't matter
hits_split : {X : Type 0} (f : X → ℕ) (n : ℕ) (p : X → Bool) (xs : List X)
    → hits f n (filter (λ x. not (p x)) xs) + hits f n (filter p xs) ≡ hits f n xs
hits_split f n p [] = refl
hits_split f n p (x ∷ xs) =
    hits_head f n (p x) x (filter (λ y. not (p y)) xs) (filter p xs)
    ∙ ap (λ (m : ℕ). (if f x == n then 1 else 0) + m) (hits_split f n p xs)

-- one that has the number is counted
pub hits_at : {X : Type 0} (f : X → ℕ) (n : ℕ) (xs : List X) (k : ℕ) (x : X)
    → slice_get xs k ≡ Some x → f x ≡ n → 1 ≤ hits f n xs
hits_at f n [] k x at is = absurd cc
hits_at f n (y ∷ xs) zero x at is =
    let same : y ≡ x = cc in
    let hit : (f y == n) ≡ true = eq-eqb (f y) n (ap f same ∙ is) in
    rw hit (omega arith)
hits_at f n (y ∷ xs) (suc k) x at is =
    let rest = hits_at f n xs k x at is in omega (arith, rest)

-- where it is counted once, it stands at one place
hits_once : {X : Type 0} (f : X → ℕ) (n : ℕ) (xs : List X) (i k : ℕ) (x y : X)
    → slice_get xs i ≡ Some x → slice_get xs k ≡ Some y → f x ≡ n → f y ≡ n → hits f n xs ≤ 1
    → i ≡ k
hits_once f n [] i k x y at other is so one = absurd cc
hits_once f n (z ∷ xs) zero zero x y at other is so one = refl
hits_once f n (z ∷ xs) zero (suc k) x y at other is so one =
    let same : z ≡ x = cc in
    let hit : (f z == n) ≡ true = eq-eqb (f z) n (ap f same ∙ is) in
    let rest = hits_at f n xs k y other so in
    let two : 1 + hits f n xs ≤ 1 = rw hit at one in
    absurd (omega (arith, rest, two))
hits_once f n (z ∷ xs) (suc i) zero x y at other is so one =
    let same : z ≡ y = cc in
    let hit : (f z == n) ≡ true = eq-eqb (f z) n (ap f same ∙ so) in
    let rest = hits_at f n xs i x at is in
    let two : 1 + hits f n xs ≤ 1 = rw hit at one in
    absurd (omega (arith, rest, two))
hits_once f n (z ∷ xs) (suc i) (suc k) x y at other is so one =
    ap suc (hits_once f n xs i k x y at other is so (omega (arith, one)))

-- ---- the segments that are kept

-- the number of a segment, and that of what the output makes of one
kept_head : (n : ℕ) (b : Bool) (d : KeptData) (rest : List KeptData)
    → hits original_of n ((if b then d ∷ [] else []) ++ rest)
    ≡ (if b then (if d.original == n then 1 else 0) else 0) + hits original_of n rest
kept_head n true d rest = refl
kept_head n false d rest = omega arith

no_hit : (b c : Bool) (m : ℕ) → c ≡ false → m ≡ 0
    → (if b then (if c then 1 else 0) else 0) + m ≡ 0
no_hit true true m other none = absurd cc
no_hit true false m other none = omega (arith, none)
no_hit false c m other none = omega (arith, none)

one_hit : (b c : Bool) (m : ℕ) → c ≡ true → m ≡ 0
    → (if b then (if c then 1 else 0) else 0) + m ≡ (if b then 1 else 0)
one_hit true true m same none = omega (arith, none)
one_hit true false m same none = absurd cc
one_hit false c m same none = omega (arith, none)

past_hit : (b c : Bool) (m n : ℕ) → c ≡ false → m ≡ n
    → (if b then (if c then 1 else 0) else 0) + m ≡ n
past_hit true true m n other is = absurd cc
past_hit true false m n other is = omega (arith, is)
past_hit false c m n other is = omega (arith, is)

-- no segment has a number below the first one
kept_below : (input : Input) (object : ℕ) (o : Object) (k n : ℕ) (segments : List Segment) → n < k
    → hits original_of n (kept_from input object o k segments) ≡ 0
kept_below input object o k n [] lt = refl
kept_below input object o k n (s ∷ segments) lt =
    kept_head n (keeps input object (DataSegment k)) (kept_data o k s)
    (kept_from input object o (k + 1) segments)
    ∙ no_hit (keeps input object (DataSegment k)) (k == n)
    (hits original_of n (kept_from input object o (k + 1) segments))
    (ne_eqb k n (λ e. omega (arith, e, lt)))
    (kept_below input object o (k + 1) n segments (omega (arith, lt)))

-- nor one past the last
kept_past : (input : Input) (object : ℕ) (o : Object) (k n : ℕ) (segments : List Segment)
    → k + length segments ≤ n
    → hits original_of n (kept_from input object o k segments) ≡ 0
kept_past input object o k n [] le = refl
kept_past input object o k n (s ∷ segments) le =
    kept_head n (keeps input object (DataSegment k)) (kept_data o k s)
    (kept_from input object o (k + 1) segments)
    ∙ no_hit (keeps input object (DataSegment k)) (k == n)
    (hits original_of n (kept_from input object o (k + 1) segments))
    (ne_eqb k n (λ e. omega (arith, e, le)))
    (kept_past input object o (k + 1) n segments (omega (arith, le)))

-- one has each other number where that segment is kept
kept_here : (input : Input) (object : ℕ) (o : Object) (k n : ℕ) (segments : List Segment)
    → k ≤ n → n < k + length segments
    → hits original_of n (kept_from input object o k segments)
    ≡ (if keeps input object (DataSegment n) then 1 else 0)
kept_here input object o k n [] le lt = absurd (omega (arith, le, lt))
kept_here input object o k n (s ∷ segments) le lt =
    kept_head n (keeps input object (DataSegment k)) (kept_data o k s)
    (kept_from input object o (k + 1) segments)
    ∙ elim (cases_eq k n) [
      | inl e ↦ one_hit (keeps input object (DataSegment k)) (k == n)
          (hits original_of n (kept_from input object o (k + 1) segments)) (eq-eqb k n e)
          (kept_below input object o (k + 1) n segments (omega (arith, e)))
          ∙ ap (λ (i : ℕ). if keeps input object (DataSegment i) then 1 else 0) e
      | inr ne ↦ past_hit (keeps input object (DataSegment k)) (k == n)
          (hits original_of n (kept_from input object o (k + 1) segments))
          (if keeps input object (DataSegment n) then 1 else 0) (ne_eqb k n ne)
          (kept_here input object o (k + 1) n segments (omega (arith, le, ne)) (omega (arith, lt)))
    ]

-- what the output makes of segments has their numbers
hits_zip : (options : DataOptions) (n : ℕ) (segments : List KeptData) (layouts : List SegmentLayout)
    → AllZip (HasLayout options) segments layouts
    → hits original_of n segments ≡ hits index_of n layouts
hits_zip options n [] [] zip = refl
hits_zip options n [] (l ∷ layouts) zip = absurd zip
hits_zip options n (s ∷ segments) [] zip = absurd zip
hits_zip options n (s ∷ segments) (l ∷ layouts) zip =
    ap (λ (m : ℕ). (if m == n then 1 else 0) + hits original_of n segments) (sym zip.0.segment_index)
    ∙ ap (λ (m : ℕ). (if l.segment_index == n then 1 else 0) + m)
    (hits_zip options n segments layouts zip.1)

-- each of an object's segments that are kept has one layout
laid_hits : (options : DataOptions) (n : ℕ) (segments : List KeptData)
    (layouts : List SegmentLayout) → HaveLayouts options segments layouts
    → hits index_of n layouts ≡ hits original_of n segments
laid_hits options n segments layouts have =
    sym (hits_zip options n (in_output_order segments) layouts have)
    ∙ (hits_append original_of n (filter (λ (s : KeptData). not s.tls) segments)
    (filter is_thread_local segments)
    ∙ hits_split original_of n is_thread_local segments)

-- the law of wl_data
abbrev pub LayoutLaw : Type 0
LayoutLaw = (d : DataInput) (places : DataPlaces) → IsDataPlaces d places
    → AllZip (HaveLayouts d.options) d.objects places.layouts

-- the output has these segments of an object
abbrev pub AreLaid : Input → ℕ → Object → List SegmentLayout → Type 0
AreLaid input object o layouts =
    HaveLayouts (data_options input) (kept_segments input object o) layouts

rows_zip : (input : Input) (n : ℕ) (objects : List Object) (layouts : List (List SegmentLayout))
    → AllZip (HaveLayouts (data_options input)) (segments_from input n objects) layouts
    → AreRows (AreLaid input) n objects layouts
rows_zip input n [] [] zip = tt
rows_zip input n [] (l ∷ layouts) zip = absurd zip
rows_zip input n (o ∷ objects) [] zip = absurd zip
rows_zip input n (o ∷ objects) (l ∷ layouts) zip =
    (zip.0, rows_zip input (n + 1) objects layouts zip.1)

-- the output has a list of segments of each object
pub all_laid : (input : Input) (g : Placing) → LayoutLaw → IsPlacing input g
    → AreRows (AreLaid input) 0 input.link.objects g.places.layouts
all_laid input g law placed =
    rows_zip input 0 input.link.objects g.places.layouts (law _ g.places placed.laid)

-- how many layouts have a number
pub laid_here : (input : Input) (object : ℕ) (o : Object) (layouts : List SegmentLayout) (n : ℕ)
    → AreLaid input object o layouts → n < length o.segments
    → hits index_of n layouts ≡ (if keeps input object (DataSegment n) then 1 else 0)
laid_here input object o layouts n laid lt =
    laid_hits (data_options input) n (kept_segments input object o) layouts laid
    ∙ kept_here input object o 0 n o.segments (omega arith) (omega (arith, lt))

one_at_most : (b : Bool) (m : ℕ) → m ≡ (if b then 1 else 0) → m ≤ 1
one_at_most true m is = omega (arith, is)
one_at_most false m is = omega (arith, is)

laid_within : (input : Input) (object : ℕ) (o : Object) (layouts : List SegmentLayout) (i : ℕ)
    (l : SegmentLayout) → AreLaid input object o layouts → slice_get layouts i ≡ Some l
    → l.segment_index < length o.segments
laid_within input object o layouts i l laid at =
    let n : ℕ = l.segment_index in
    let some = hits_at index_of n layouts i l at refl in
    let all : hits index_of n layouts
    ≡ hits original_of n (kept_from input object o 0 o.segments) =
    laid_hits (data_options input) n (kept_segments input object o) layouts laid in
    elim (cases_Bool (nat_lt n (length o.segments))) [
      | inl holds ↦ grind (arith, holds)
      | inr fails ↦ absurd (let le : length o.segments ≤ n = grind (arith, fails) in
          let none = kept_past input object o 0 n o.segments (omega (arith, le)) in
          omega (arith, some, all, none))
    ]

-- no two of them are of the same segment
pub laid_once : (input : Input) (object : ℕ) (o : Object) (layouts : List SegmentLayout)
    → AreLaid input object o layouts → AreOnce (length o.segments) layouts
laid_once input object o layouts laid = record {
  within = λ i l at. laid_within input object o layouts i l laid at;
  once = λ i k l m at other same.
      hits_once index_of l.segment_index layouts i k l m at other refl (sym same)
      (one_at_most (keeps input object (DataSegment l.segment_index))
      (hits index_of l.segment_index layouts)
      (laid_here input object o layouts l.segment_index laid
      (laid_within input object o layouts i l laid at)));
}

-- ---- where segments begin

-- nothing begins anywhere without segments
pub all_missing : (a n : ℕ) → replicate n Missing ≡ map (segment_start []) (range_with_len a n)
all_missing a zero = refl
all_missing a (suc n) = ap (λ (xs : List WasmDataAddress). Missing ∷ xs) (all_missing (a + 1) n)

-- the segments before one aren't the same
pub others_before : (count : ℕ) (layouts : List SegmentLayout) (i : ℕ) (l : SegmentLayout)
    → AreOnce count layouts → slice_get layouts i ≡ Some l → (k : ℕ) (m : SegmentLayout)
    → slice_get (take i layouts) k ≡ Some m → (m.segment_index == l.segment_index) ≡ false
others_before count layouts i l once at k m among =
    let t = taken layouts i k m among in
    ne_eqb m.segment_index l.segment_index (λ e.
    let same : k ≡ i = once.once k i m l t.1 at e in
    let lt : k < i = t.0 in omega (arith, lt, same))

-- one segment more
pub start_more : (count : ℕ) (layouts : List SegmentLayout) (i : ℕ) (l : SegmentLayout)
    (old new : List WasmDataAddress) → AreOnce count layouts → i < length layouts
    → l ≡ get_or layouts i l → new ≡ set old l.segment_index (start_of l)
    → old ≡ starts_among (take i layouts) count → new ≡ starts_among (take (i + 1) layouts) count
start_more count layouts i l old new once lt is made so_far =
    let at : slice_get layouts i ≡ Some l =
    slice_get_read layouts (length layouts) i l refl lt is in
    let before : List SegmentLayout = take i layouts in
    let more : take (i + 1) layouts ≡ before ++ l ∷ [] =
    take_more layouts i l lt ∙ ap (λ (m : SegmentLayout). before ++ m ∷ []) (sym is) in
    let f = λ (k : ℕ). segment_start before k in
    let g = λ (k : ℕ). segment_start (before ++ l ∷ []) k in
    made
    ∙ (ap (λ (ys : List WasmDataAddress). set ys l.segment_index (start_of l)) so_far
    ∙ (one_set f g count l.segment_index (start_of l)
    (ap (λ (found : Option SegmentLayout). option_map_or start_of found Missing)
    (find_last (λ (m : SegmentLayout). m.segment_index == l.segment_index) before l
    (find_none (λ (m : SegmentLayout). m.segment_index == l.segment_index) before
    (others_before count layouts i l once at))
    (eq-eqb l.segment_index l.segment_index refl)))
    (λ k ne. ap (λ (found : Option SegmentLayout). option_map_or start_of found Missing)
    (find_pass (λ (m : SegmentLayout). m.segment_index == k) before l
    (ne_eqb l.segment_index k (λ e. ne (sym e)))))
    ∙ ap (λ (ls : List SegmentLayout). starts_among ls count) (sym more)))

-- there are as many as segments
pub starts_long : (layouts : List SegmentLayout) (count : ℕ) (starts : List WasmDataAddress)
    → starts ≡ starts_among layouts count → length starts ≡ count
starts_long layouts count starts are =
    ap (λ (xs : List WasmDataAddress). length xs) are
    ∙ length-map-range_with_len (segment_start layouts) 0 count

-- ---- rows of starts

-- each layout of an object is of another one of its segments
pub once_for : (input : Input) (g : Placing) (object count : ℕ) (o p : Object)
    (layouts : List SegmentLayout) → AreRows (AreLaid input) 0 input.link.objects g.places.layouts
    → slice_get input.link.objects object ≡ Some o
    → slice_get g.places.layouts object ≡ Some layouts → p ≡ o → count ≡ length p.segments
    → AreOnce count layouts
once_for input g object count o p layouts laid here at same is =
    subst (λ (n : ℕ). AreOnce n layouts)
    (sym (is ∙ ap (λ (q : Object). length q.segments) same))
    (laid_once input object o layouts
    (row_found (AreLaid input) input.link.objects g.places.layouts object o layouts laid here at))

-- where the segments of an object begin
pub starts_for : (g : Placing) (object count : ℕ) (o p : Object) (layouts : List SegmentLayout)
    (row : List WasmDataAddress) → slice_get g.places.layouts object ≡ Some layouts → p ≡ o
    → count ≡ length p.segments → row ≡ starts_among layouts count → row ≡ segment_starts g object o
starts_for g object count o p layouts row at same is are =
    are
    ∙ (ap (λ (ls : List SegmentLayout). starts_among ls count)
    (sym (get_or_from_slice_get g.places.layouts object layouts [] at))
    ∙ ap (λ (n : ℕ). starts_among (layouts_of g object) n)
    (is ∙ ap (λ (q : Object). length q.segments) same))

-- a segment of an object begins where the row says
pub start_at : (g : Placing) (object number : ℕ) (o : Object) (starts : List WasmDataAddress)
    → AreObjectStarts g object o starts → number < length o.segments
    → (number < length starts)
    × (slice_index_or starts number Missing ≡ segment_start (layouts_of g object) number)
start_at g object number o starts are lt =
    let long : length starts ≡ length o.segments =
    ap (λ (xs : List WasmDataAddress). length xs) are
    ∙ length-map-range_with_len (segment_start (layouts_of g object)) 0 (length o.segments) in
    let same : 0 + number ≡ number = omega arith in (
      omega (arith, long, lt),
      ap (λ (xs : List WasmDataAddress). slice_index_or xs number Missing) are
          ∙ get_or-map-range_with_len (segment_start (layouts_of g object)) 0 (length o.segments)
          number number Missing lt same,
    )

-- ---- symbols

data_kind : (k : WasmSymbolKind) → is_data k ≡ true → k ≡ Data
data_kind Func is = absurd cc
data_kind Data is = refl
data_kind Global is = absurd cc
data_kind Section is = absurd cc
data_kind Event is = absurd cc
data_kind Table is = absurd cc

-- both parts of that
defined_parts : (kind undefined : Bool) → (kind && not undefined) ≡ true
    → (kind ≡ true) × (undefined ≡ false)
defined_parts true false is = (refl, refl)
defined_parts true true is = absurd cc
defined_parts false undefined is = absurd cc

-- the segment of data that is defined and not absolute exists
pub segment_within : (o : Object) (number : ℕ) (s : LinkedSymbol) → IsFitting o
    → slice_get o.symbols number ≡ Some s → is_defined_data s ≡ true → is_absolute s ≡ false
    → s.index < length o.segments
segment_within o number s fit at is relative =
    let parts = defined_parts (is_data s.kind) (is_undefined s) is in
    let there : symbol_exists (spaces_of o) s ≡ true =
    test_at (symbol_exists (spaces_of o)) o.symbols number s fit.names.symbols at in
    let e : symbol_exists (spaces_of o) s ≡ nat_lt s.index (length o.segments) =
    ap (λ (b : Bool). b || thing_exists (spaces_of o) s.kind (is_undefined s) s.index) relative
    ∙ (ap (λ (k : WasmSymbolKind). thing_exists (spaces_of o) k (is_undefined s) s.index)
    (data_kind s.kind parts.0)
    ∙ ap (λ (b : Bool). b || nat_lt s.index (length o.segments)) parts.1) in
    let lt : nat_lt s.index (length o.segments) ≡ true = sym e ∙ there in
    grind (arith, lt)

-- the address of such data
pub data_found : (g : Placing) (object : ℕ) (s : LinkedSymbol) (start : WasmDataAddress)
    (index offset : ℕ) → is_defined_data s ≡ true → is_absolute s ≡ false → index ≡ s.index → offset ≡ s.offset → start ≡ segment_start (layouts_of g object) index
    → behind start offset ≡ data_by g object s
data_found g object s start index offset is relative number place begins =
    let one : data_by g object s ≡ defined_data g object s =
    ap (λ (b : Bool). if b then defined_data g object s else Missing) is in
    let at : WasmDataAddress = behind (segment_start (layouts_of g object) s.index) s.offset in
    let two : defined_data g object s ≡ at =
    ap (λ (b : Bool). if b then Placed s.offset else at) relative in
    ap (λ (a : WasmDataAddress). behind a offset) begins
    ∙ (ap (λ (i : ℕ). behind (segment_start (layouts_of g object) i) offset) number
    ∙ (ap (λ (i : ℕ). behind (segment_start (layouts_of g object) s.index) i) place
    ∙ sym (one ∙ two)))

-- one address more
pub address_more : (f : ℕ → WasmDataAddress) (i : ℕ) (a : WasmDataAddress)
    (old new : List WasmDataAddress) → a ≡ f i → new ≡ old ++ a ∷ []
    → old ≡ map f (range_with_len 0 i) → new ≡ map f (range_with_len 0 (i + 1))
address_more f i a old new is pushed so_far =
    let here : 0 + i ≡ i = omega arith in
    pushed
    ∙ (ap (λ (xs : List WasmDataAddress). xs ++ a ∷ []) so_far
    ∙ (ap (λ (x : WasmDataAddress). map f (range_with_len 0 i) ++ x ∷ []) is
    ∙ sym (map-range_with_len_more f 0 i i here)))

-- and it is none of those that aren't
pub none_more : (P : ℕ → Type 0) (i : ℕ) → (P i → ⊥) → ((n : ℕ) → n < i → P n → ⊥) → (n : ℕ)
    → n < i + 1 → P n → ⊥
none_more P i here before n lt is = elim (cases_eq n i) [
  | inl e ↦ here (subst P e is)
  | inr ne ↦ before n (omega (arith, lt, ne)) is
]

-- what is no symbol has no address
outside : (input : Input) (g : Placing) (object number : ℕ)
    → symbol_in input.link.objects object number ≡ None
    → IsHigh (symbol_address input g object number) → ⊥
outside input g object number none high =
    let no_data : is_data_symbol input object number ≡ false =
    ap (λ (o : Option LinkedSymbol). option_map_or (λ (s : LinkedSymbol). is_data s.kind) o false)
    none in
    let missing : symbol_address input g object number ≡ Missing =
    ap (λ (b : Bool). if b then address_of_definition input g (def input.link object number)
    else Missing) no_data in
    subst IsHigh missing high

-- no symbol lies past the last address where none of any object does
pub none_high : (input : Input) (g : Placing) → ((object : ℕ) (o : Object) (number : ℕ)
    → slice_get input.link.objects object ≡ Some o → number < length o.symbols
    → IsHigh (symbol_address input g object number) → ⊥) → HasHighSymbol input g → ⊥
none_high input g low h =
    elim (cases_option (slice_get input.link.objects h.object)) [
      | inl none ↦ outside input g h.object h.number
          (ap (λ (x : Option Object). option_and_then
          (λ (o : Object). slice_get o.symbols h.number) x) none) h.high
      | inr o ↦ elim (cases_option (slice_get (o.0).symbols h.number)) [
        | inl none ↦ outside input g h.object h.number
            (ap (λ (x : Option Object). option_and_then
            (λ (p : Object). slice_get p.symbols h.number) x) o.1 ∙ none) h.high
        | inr s ↦ low h.object o.0 h.number o.1
            (slice_get_within (o.0).symbols h.number s.0 s.1) h.high
      ]
    ]
