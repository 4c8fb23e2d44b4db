-- Which number each segment has in the output, and the maps of all objects.
use Rattle.std.proofs.Common.{◌≡◌, ◌∙◌, ◌≤◌, ◌<◌, ◌==◌, ℕ, zero, suc, ◌+◌, Bool, true, false, if◌then◌else◌, List, [], ◌∷◌, ◌++◌, length, map, take, set, get_or, replicate, position, refl, sym, ap, subst, arith, inl, inr, Option, Some, None, slice_get, length-take-le, length-append}
use Rattle.std.specs.List.{AllZip, range_with_len, position_from}
use Rattle.std.specs.Option.{option_map_or}
use Rattle.std.proofs.lemmas.Bool.{cases_Bool, cases_eq, eq-eqb, ne_eqb, eqb-true}
use Rattle.std.proofs.lemmas.Iterator.Adapters.{position_from-zero}
use Rattle.std.proofs.lemmas.List.{take_more, take_all, length-map}
use Rattle.std.proofs.lemmas.List.FromFn.{length-map-range_with_len}
use Rattle.std.proofs.lemmas.Option.{slice_get_read, slice_get_within, same_Some}
use Rattle.wl_linking.specs.Object.{Object}
use Rattle.wl_linking.specs.Steps.{Refuses}
use Rattle.wl_linking.specs.declared.error.LinkError.{LinkError}
use Rattle.wl_data.specs.Segments.{SegmentLayout}
use Rattle.wl_index.specs.declared.data_address.WasmDataAddress.{WasmDataAddress}
use Rattle.wl_index.specs.declared.index_map.WasmObjectIndexMap.{WasmObjectIndexMap}
use Rattle.wl_index.specs.declared.index.TheConstants.{WASM_DEAD_INDEX, MAX_ENTRIES}
use Rattle.wl_symbols.specs.declared.units.WasmGcUnit.TheVariants.{DataSegment}
use Rattle.wl_bind.specs.IndexMaps.{IsIndexMap, AreIndexMaps}
use Rattle.wl_symbols.specs.Input.{Input, keeps}
use Rattle.wl_bind.specs.Parts.{IsIndexOf, AreIndicesOf, AreRows}
use Rattle.wl_places.specs.Addresses.{numbers_from, segment_space, segment_entry, local_segments, AreSegmentIndices, symbol_addresses, HasHighSymbol}
use Rattle.wl_places.specs.AddressSteps.{AreOnce, IsHighIn, AreLowIn, index_of}
use Rattle.wl_places.specs.IndexedMaps.{IsWholeMap, AreWholeMaps}
use Rattle.wl_places.specs.IndexSteps.{number_among, numbers_among, segments_before, IsMapOf, IsWholeMapOf, AreLowOf, IsHighSymbol}
use Rattle.wl_places.specs.declared.addresses.AddressBook.{AddressBook}
use Rattle.wl_places.specs.declared.placing.Placing.{Placing}
use Rattle.wl_lists.proofs.Places.{there_is, get_in_front, get_behind, mapped_at}
use Rattle.wl_lists.proofs.Rows.{row_found, rows_length, row_more}
use Rattle.wl_places.proofs.AddressLaws.{one_set, hits, hits_at, AreLaid, laid_here, others_before, none_high}

-- ---- the first place at which a test passes

none_placed : {X : Type 0} (p : X → Bool) (n : ℕ) (xs : List X)
    → ((k : ℕ) (x : X) → slice_get xs k ≡ Some x → p x ≡ false) → position_from p n xs ≡ None
none_placed p n [] each = refl
none_placed p n (x ∷ xs) each =
    rw (each zero x refl) (none_placed p (n + 1) xs (λ k y at. each (suc k) y at))

last_placed : {X : Type 0} (p : X → Bool) (n m : ℕ) (xs : List X) (x : X)
    → position_from p n xs ≡ None → p x ≡ true → n + length xs ≡ m
    → position_from p n (xs ++ x ∷ []) ≡ Some m
last_placed p n m [] x none so is =
    let here : n ≡ m = omega (arith, is) in rw so (ap (λ (k : ℕ). Some k) here)
last_placed p n m (y ∷ xs) x none so is = elim (cases_Bool (p y)) [
  | inl holds ↦ absurd (let some : Some n ≡ None = rw holds at none in cc)
  | inr fails ↦ rw fails (last_placed p (n + 1) m xs x (rw fails at none) so (omega (arith, is)))
]

pass_placed : {X : Type 0} (p : X → Bool) (n : ℕ) (xs : List X) (x : X) → p x ≡ false
    → position_from p n (xs ++ x ∷ []) ≡ position_from p n xs
pass_placed p n [] x fails = rw fails refl
pass_placed p n (y ∷ xs) x fails = elim (cases_Bool (p y)) [
  | inl holds ↦ rw holds refl
  | inr other ↦ rw other (pass_placed p (n + 1) xs x fails)
]

no_place : {X : Type 0} (p : X → Bool) (xs : List X)
    → ((k : ℕ) (x : X) → slice_get xs k ≡ Some x → p x ≡ false) → position p xs ≡ None
no_place p xs each = position_from-zero p xs ∙ none_placed p 0 xs each

last_place : {X : Type 0} (p : X → Bool) (xs : List X) (x : X) (m : ℕ) → position p xs ≡ None
    → p x ≡ true → length xs ≡ m → position p (xs ++ x ∷ []) ≡ Some m
last_place p xs x m none so is =
    position_from-zero p (xs ++ x ∷ [])
    ∙ last_placed p 0 m xs x (sym (position_from-zero p xs) ∙ none) so (omega (arith, is))

pass_place : {X : Type 0} (p : X → Bool) (xs : List X) (x : X) → p x ≡ false
    → position p (xs ++ x ∷ []) ≡ position p xs
pass_place p xs x fails =
    position_from-zero p (xs ++ x ∷ [])
    ∙ (pass_placed p 0 xs x fails ∙ sym (position_from-zero p xs))

-- ---- numbers of the segments of an object

-- without segments there is no number
pub all_dead : (first a n : ℕ)
    → replicate n WASM_DEAD_INDEX ≡ map (number_among [] first) (range_with_len a n)
all_dead first a zero = refl
all_dead first a (suc n) =
    ap (λ (xs : List ℕ). WASM_DEAD_INDEX ∷ xs) (all_dead first (a + 1) n)

-- one segment more
pub number_more : (count first : ℕ) (layouts : List SegmentLayout) (i : ℕ) (l : SegmentLayout)
    (old new : List ℕ) → AreOnce count layouts → i < length layouts → l ≡ get_or layouts i l
    → new ≡ set old l.segment_index (first + i) → old ≡ numbers_among (take i layouts) first count
    → new ≡ numbers_among (take (i + 1) layouts) first count
number_more count first layouts i l old new once lt is made so_far =
    let at : slice_get layouts i ≡ Some l =
    slice_get_read layouts (length layouts) i l refl lt is in
    let before : List SegmentLayout = take i layouts in
    let long : length before ≡ i = length-take-le i layouts (omega (arith, lt)) in
    let more : take (i + 1) layouts ≡ before ++ l ∷ [] =
    take_more layouts i l lt ∙ ap (λ (m : SegmentLayout). before ++ m ∷ []) (sym is) in
    let f = λ (k : ℕ). number_among before first k in
    let g = λ (k : ℕ). number_among (before ++ l ∷ []) first k in
    made
    ∙ (ap (λ (ys : List ℕ). set ys l.segment_index (first + i)) so_far
    ∙ (one_set f g count l.segment_index (first + i)
    (ap (λ (found : Option ℕ). option_map_or (λ (place : ℕ). first + place) found WASM_DEAD_INDEX)
    (last_place (λ (m : SegmentLayout). m.segment_index == l.segment_index) before l i
    (no_place (λ (m : SegmentLayout). m.segment_index == l.segment_index) before
    (others_before count layouts i l once at))
    (eq-eqb l.segment_index l.segment_index refl) long))
    (λ k ne. ap (λ (found : Option ℕ). option_map_or (λ (place : ℕ). first + place) found
    WASM_DEAD_INDEX)
    (pass_place (λ (m : SegmentLayout). m.segment_index == k) before l
    (ne_eqb l.segment_index k (λ e. ne (sym e)))))
    ∙ ap (λ (ls : List SegmentLayout). numbers_among ls first count) (sym more)))

-- ---- the place of a number

record FoundAt {X : Type 0} (f : X → ℕ) (n m : ℕ) (xs : List X) : Type 0 where
  p : ℕ
  x : X
  place : position_from (λ (y : X). f y == n) m xs ≡ Some (m + p)
  at : slice_get xs p ≡ Some x
  is : f x ≡ n

found_first : {X : Type 0} (f : X → ℕ) (n m : ℕ) (y : X) (xs : List X) → (f y == n) ≡ true
    → FoundAt f n m (y ∷ xs)
found_first f n m y xs hit =
    let here : m ≡ m + 0 = omega arith in
    record {
      p = 0;
      x = y;
      place = rw hit (ap (λ (q : ℕ). Some q) here);
      at = refl;
      is = eqb-true (f y) n hit;
    }

found_behind : {X : Type 0} (f : X → ℕ) (n m : ℕ) (y : X) (xs : List X) → (f y == n) ≡ false
    → FoundAt f n (m + 1) xs → FoundAt f n m (y ∷ xs)
found_behind f n m y xs miss rest =
    let next : (m + 1) + rest.p ≡ m + suc rest.p = omega arith in
    record {
      p = suc rest.p;
      x = rest.x;
      place = rw miss (rest.place ∙ ap (λ (q : ℕ). Some q) next);
      at = rest.at;
      is = rest.is;
    }

found_at : {X : Type 0} (f : X → ℕ) (n m : ℕ) (xs : List X) → 1 ≤ hits f n xs → FoundAt f n m xs
found_at f n m [] some = absurd (omega (arith, some))
found_at f n m (y ∷ xs) some = elim (cases_Bool (f y == n)) [
  | inl hit ↦ found_first f n m y xs hit
  | inr miss ↦
      (let less : 1 ≤ 0 + hits f n xs = rw miss at some in
      found_behind f n m y xs miss (found_at f n (m + 1) xs (omega (arith, less))))
]

missed : {X : Type 0} (f : X → ℕ) (n : ℕ) (xs : List X) → hits f n xs ≡ 0
    → position (λ (y : X). f y == n) xs ≡ None
missed {X} f n xs none = no_place (λ (y : X). f y == n) xs (λ k x at.
    ne_eqb (f x) n (λ e. let some = hits_at f n xs k x at e in omega (arith, some, none)))

-- ---- the space of all segments

-- the entry of a segment
abbrev entry_for : ℕ → SegmentLayout → ℕ × ℕ
entry_for object l = (object, l.segment_index)

-- a segment stands after those of the objects before, by its place
numbers_stand : (all : List (List SegmentLayout)) (n m k p : ℕ) (layouts : List SegmentLayout)
    (l : SegmentLayout) → slice_get all k ≡ Some layouts → slice_get layouts p ≡ Some l → n + k ≡ m
    → slice_get (numbers_from n all) (segments_before all k + p) ≡ Some (m, l.segment_index)
numbers_stand [] n m k p layouts l here at is = absurd cc
numbers_stand (first ∷ all) n m zero p layouts l here at is =
    let same : first ≡ layouts = cc in
    let object : n ≡ m = omega (arith, is) in
    let place : 0 + p ≡ p = omega arith in
    rw (same, place, object)
    (get_in_front (map (entry_for m) layouts)
    (numbers_from (m + 1) all) p (m, l.segment_index)
    (mapped_at (entry_for m) layouts p l at))
numbers_stand (first ∷ all) n m (suc k) p layouts l here at is =
    let long : length (map (entry_for n) first) ≡ length first =
    length-map first (entry_for n) in
    get_behind (map (entry_for n) first) (numbers_from (n + 1) all)
    (segments_before all k + p) (length first + segments_before all k + p) (omega (arith, long))
    ∙ numbers_stand all (n + 1) m k p layouts l here at (omega (arith, is))

-- after the segments of an object those of the next one begin
pub before_more : (all : List (List SegmentLayout)) (k : ℕ) (layouts : List SegmentLayout)
    → slice_get all k ≡ Some layouts
    → segments_before all (k + 1) ≡ segments_before all k + length layouts
before_more [] k layouts here = absurd cc
before_more (first ∷ []) zero layouts here =
    let same : first ≡ layouts = cc in
    let long : length first ≡ length layouts = ap (λ (ls : List SegmentLayout). length ls) same in
    omega (arith, long)
before_more (first ∷ (second ∷ all)) zero layouts here =
    let same : first ≡ layouts = cc in
    let long : length first ≡ length layouts = ap (λ (ls : List SegmentLayout). length ls) same in
    omega (arith, long)
before_more (first ∷ all) (suc k) layouts here =
    let rest = before_more all k layouts here in
    let next : suc k + 1 ≡ suc (k + 1) = omega arith in
    rw next (omega (arith, rest))

-- all of them have room
pub before_room : (all : List (List SegmentLayout)) (n k : ℕ) (layouts : List SegmentLayout)
    → slice_get all k ≡ Some layouts
    → segments_before all k + length layouts ≤ length (numbers_from n all)
before_room [] n k layouts here = absurd cc
before_room (first ∷ all) n zero layouts here =
    let same : first ≡ layouts = cc in
    let both : length (numbers_from n (first ∷ all))
    ≡ length (map (entry_for n) first)
    + length (numbers_from (n + 1) all) =
    length-append (map (entry_for n) first)
    (numbers_from (n + 1) all) in
    let long : length (map (entry_for n) first) ≡ length first =
    length-map first (entry_for n) in
    let is : length first ≡ length layouts = ap (λ (ls : List SegmentLayout). length ls) same in
    omega (arith, both, long, is)
before_room (first ∷ all) n (suc k) layouts here =
    let rest = before_room all (n + 1) k layouts here in
    let both : length (numbers_from n (first ∷ all))
    ≡ length (map (entry_for n) first)
    + length (numbers_from (n + 1) all) =
    length-append (map (entry_for n) first)
    (numbers_from (n + 1) all) in
    let long : length (map (entry_for n) first) ≡ length first =
    length-map first (entry_for n) in
    omega (arith, both, long, rest)

-- ---- the numbers are the places

entry_is : {X : Type 0} (space : List X) (entry e : Option X) (index i : ℕ) → entry ≡ e
    → index ≡ i → IsIndexOf space e i → IsIndexOf space entry index
entry_is space entry e index i same at is = rw (same, at) is

kept_index : (input : Input) (g : Placing) (object n first p : ℕ) (layouts : List SegmentLayout)
    (l : SegmentLayout) → keeps input object (DataSegment n) ≡ true
    → slice_get g.places.layouts object ≡ Some layouts
    → first ≡ segments_before g.places.layouts object
    → position (λ (s : SegmentLayout). s.segment_index == n) layouts ≡ Some p
    → slice_get layouts p ≡ Some l → l.segment_index ≡ n
    → IsIndexOf (segment_space g) (segment_entry input object n) (number_among layouts first n)
kept_index input g object n first p layouts l kept here first_is place at is =
    let entry : segment_entry input object n ≡ Some (object, n) =
    ap (λ (b : Bool). if b then Some (object, n) else None) kept in
    let number : number_among layouts first n ≡ first + p =
    ap (λ (found : Option ℕ). option_map_or (λ (q : ℕ). first + q) found WASM_DEAD_INDEX) place in
    let stands : slice_get (segment_space g) (segments_before g.places.layouts object + p)
    ≡ Some (object, l.segment_index) =
    numbers_stand g.places.layouts 0 object object p layouts l here at (omega arith) in
    entry_is (segment_space g) (segment_entry input object n) (Some (object, n))
    (number_among layouts first n) (first + p) entry number
    (ap (λ (q : ℕ). slice_get (segment_space g) (q + p)) first_is
    ∙ (stands ∙ ap (λ (q : ℕ). Some (object, q)) is))

dead_index : (input : Input) (g : Placing) (object n first : ℕ) (layouts : List SegmentLayout)
    → keeps input object (DataSegment n) ≡ false
    → position (λ (s : SegmentLayout). s.segment_index == n) layouts ≡ None
    → IsIndexOf (segment_space g) (segment_entry input object n) (number_among layouts first n)
dead_index input g object n first layouts kept place =
    entry_is (segment_space g) (segment_entry input object n) None
    (number_among layouts first n) WASM_DEAD_INDEX
    (ap (λ (b : Bool). if b then Some (object, n) else None) kept)
    (ap (λ (found : Option ℕ). option_map_or (λ (q : ℕ). first + q) found WASM_DEAD_INDEX) place)
    refl

segment_index : (input : Input) (g : Placing) (object n first : ℕ) (o : Object)
    (layouts : List SegmentLayout) → AreLaid input object o layouts
    → slice_get g.places.layouts object ≡ Some layouts
    → first ≡ segments_before g.places.layouts object → n < length o.segments
    → IsIndexOf (segment_space g) (segment_entry input object n) (number_among layouts first n)
segment_index input g object n first o layouts laid here first_is lt =
    let count = laid_here input object o layouts n laid lt in
    elim (cases_Bool (keeps input object (DataSegment n))) [
      | inl kept ↦
          (let one : hits index_of n layouts ≡ 1 =
          count ∙ ap (λ (b : Bool). if b then 1 else 0) kept in
          let found = found_at index_of n 0 layouts (omega (arith, one)) in
          let zeroth : 0 + found.p ≡ found.p = omega arith in
          let place : position (λ (s : SegmentLayout). s.segment_index == n) layouts ≡ Some found.p =
          position_from-zero (λ (s : SegmentLayout). s.segment_index == n) layouts
          ∙ (found.place ∙ ap (λ (q : ℕ). Some q) zeroth) in
          kept_index input g object n first found.p layouts found.x kept here first_is place
          found.at found.is)
      | inr dead ↦
          (let none : hits index_of n layouts ≡ 0 =
          count ∙ ap (λ (b : Bool). if b then 1 else 0) dead in
          dead_index input g object n first layouts dead (missed index_of n layouts none))
    ]

zip_range : {A B : Type 0} (R : A → B → Type 0) (f : ℕ → A) (h : ℕ → B) (a n : ℕ)
    → ((k : ℕ) → k < a + n → R (f k) (h k))
    → AllZip R (map f (range_with_len a n)) (map h (range_with_len a n))
zip_range R f h a zero each = tt
zip_range R f h a (suc n) each =
    (each a (omega arith), zip_range R f h (a + 1) n (λ k lt. each k (omega (arith, lt))))

-- the numbers of an object's segments are their indices
pub segments_are : (input : Input) (g : Placing) (object first : ℕ) (o : Object)
    (layouts : List SegmentLayout) (numbers : List ℕ) → AreLaid input object o layouts
    → slice_get g.places.layouts object ≡ Some layouts
    → first ≡ segments_before g.places.layouts object
    → numbers ≡ numbers_among layouts first (length o.segments)
    → AreSegmentIndices input g object o numbers
segments_are input g object first o layouts numbers laid here first_is are =
    subst (λ (ns : List ℕ). AreIndicesOf (segment_space g) (local_segments input object o) ns)
    (sym are)
    (zip_range (IsIndexOf (segment_space g)) (segment_entry input object)
    (number_among layouts first) 0 (length o.segments) (λ k lt.
    segment_index input g object k first o layouts laid here first_is (omega (arith, lt))))

-- there are as many numbers as segments
pub numbers_long : (layouts : List SegmentLayout) (first count : ℕ) (numbers : List ℕ)
    → numbers ≡ numbers_among layouts first count → length numbers ≡ count
numbers_long layouts first count numbers are =
    ap (λ (xs : List ℕ). length xs) are
    ∙ length-map-range_with_len (number_among layouts first) 0 count

-- ---- maps

-- there is room for the numbers of an object
pub first_room : (g : Placing) (object first : ℕ) (layouts : List SegmentLayout)
    → slice_get g.places.layouts object ≡ Some layouts
    → first ≡ segments_before g.places.layouts object → length (segment_space g) ≤ MAX_ENTRIES
    → first + length layouts ≤ MAX_ENTRIES
first_room g object first layouts here is room =
    let all = before_room g.places.layouts 0 object layouts here in omega (arith, all, is, room)

-- a refusal for a symbol of an object is one for a symbol
pub high_symbol : (book : AddressBook) (object : ℕ) (e : LinkError)
    → Refuses (IsHighIn book object) e → Refuses (IsHighSymbol book) e
high_symbol book object e refuses = record {
  cause_is = λ other.
      let h = refuses.cause_is other in
      (h.1.0, record { object = object; number = h.0; high = h.1.1 });
}

-- the object of a number is one
pub one_object : (objects : List Object) (object : ℕ) (o p : Object)
    → slice_get objects object ≡ Some o → slice_get objects object ≡ Some p → o ≡ p
one_object objects object o p here there = same_Some o p (sym here ∙ there)

-- the map of an object, made whole
pub made_whole : (input : Input) (g : Placing) (object first : ℕ) (o p : Object)
    (m : WasmObjectIndexMap) (layouts : List SegmentLayout) (numbers : List ℕ)
    (addresses : List WasmDataAddress)
    → AreRows (AreLaid input) 0 input.link.objects g.places.layouts
    → slice_get input.link.objects object ≡ Some o → IsIndexMap input object o m
    → slice_get input.link.objects object ≡ Some p
    → slice_get g.places.layouts object ≡ Some layouts
    → first ≡ segments_before g.places.layouts object
    → numbers ≡ numbers_among layouts first (length p.segments)
    → addresses ≡ symbol_addresses input g object p
    → (q : Object) → slice_get input.link.objects object ≡ Some q
    → IsWholeMap input g object q
    (record m { segment_indices = numbers; data_addresses = addresses })
made_whole input g object first o p m layouts numbers addresses laid here is there at first_is
    numbers_are addresses_are q found =
    let same : o ≡ q = one_object input.link.objects object o q here found in
    let map_is : IsIndexMap input object q m =
    subst (λ (x : Object). IsIndexMap input object x m) same is in
    let other : p ≡ q = one_object input.link.objects object p q there found in
    record {
      types = map_is.types;
      functions = map_is.functions;
      globals = map_is.globals;
      segments = subst (λ (x : Object). AreSegmentIndices input g object x numbers) other
          (segments_are input g object first p layouts numbers
          (row_found (AreLaid input) input.link.objects g.places.layouts object p layouts laid
          there at) at first_is numbers_are);
      addresses = addresses_are ∙ ap (λ (x : Object). symbol_addresses input g object x) other;
      redirects = map_is.redirects;
      got_mem = map_is.got_mem;
      got_func = map_is.got_func;
    }

-- none of an object's symbols is high
pub low_object : (book : AddressBook) (object : ℕ) (p : Object)
    → slice_get book.input.now.link.objects object ≡ Some p → AreLowIn book object p
    → AreLowOf book object
low_object book object p there low q found =
    let same : p ≡ q = one_object book.input.now.link.objects object p q there found in
    subst (λ (x : Object). AreLowIn book object x) same low

-- what the loop over maps keeps
pub record AreDone (book : AddressBook) (k first : ℕ) (whole : List WasmObjectIndexMap)
    : Type 0 where
  pub rows : AreRows (IsWholeMap book.input.now book.placing.now) 0
      (take k book.input.now.link.objects) whole
  pub long : length whole ≡ k
  pub first_is : first ≡ segments_before book.placing.now.places.layouts k
  pub low : (object : ℕ) → object < k → AreLowOf book object

none_before : (all : List (List SegmentLayout)) → 0 ≡ segments_before all 0
none_before [] = refl
none_before (first ∷ all) = refl

-- no map is made at first
pub none_done : (book : AddressBook) → AreDone book 0 0 []
none_done book =
    record {
      rows = tt;
      long = refl;
      first_is = none_before book.placing.now.places.layouts;
      low = λ object lt. absurd (omega (arith, lt));
    }

-- one map more
pub one_done : (book : AddressBook) (k object first : ℕ) (whole new : List WasmObjectIndexMap)
    (m : WasmObjectIndexMap) (layouts : List SegmentLayout) → object ≡ k
    → k < length book.input.now.link.objects
    → slice_get book.placing.now.places.layouts object ≡ Some layouts
    → new ≡ whole ++ m ∷ [] → IsWholeMapOf book object m → AreLowOf book object
    → AreDone book k first whole → AreDone book (k + 1) (first + length layouts) new
one_done book k object first whole new m layouts at lt here pushed is low done =
    let input : Input = book.input.now in
    let one : length (whole ++ m ∷ []) ≡ length whole + 1 = length-append whole (m ∷ []) in
    let all : length new ≡ length (whole ++ m ∷ []) =
    ap (λ (ms : List WasmObjectIndexMap). length ms) pushed in
    let there : slice_get book.placing.now.places.layouts k ≡ Some layouts =
    subst (λ (i : ℕ). slice_get book.placing.now.places.layouts i ≡ Some layouts) at here in
    let more = before_more book.placing.now.places.layouts k layouts there in
    let was = done.first_is in
    let long = done.long in
    record {
      rows = row_more (IsWholeMap input book.placing.now) input.link.objects whole new k m lt
          (subst (λ (i : ℕ). IsWholeMapOf book i m) at is) pushed done.rows;
      long = omega (arith, one, all, long);
      first_is = omega (arith, more, was);
      low = λ other within. elim (cases_eq other k) [
        | inl e ↦ subst (λ (i : ℕ). AreLowOf book i) (at ∙ sym e) low
        | inr ne ↦ done.low other (omega (arith, within, ne))
      ];
    }

-- the map at a place is that of an object
pub map_of : (input : Input) (maps : List WasmObjectIndexMap) (k : ℕ) (m : WasmObjectIndexMap)
    → AreIndexMaps input maps → k < length maps → m ≡ get_or maps k m → IsMapOf input k m
map_of input maps k m are lt is =
    let long = rows_length (IsIndexMap input) 0 input.link.objects maps are in
    let o = there_is input.link.objects k (omega (arith, lt, long)) in
    record {
      o = o.0;
      here = o.1;
      is = row_found (IsIndexMap input) input.link.objects maps k o.0 m are o.1
          (slice_get_read maps (length maps) k m refl lt is);
    }

-- there is a layout for each map
pub maps_within : (input : Input) (g : Placing) (maps : List WasmObjectIndexMap) (k : ℕ)
    → AreIndexMaps input maps → AreRows (AreLaid input) 0 input.link.objects g.places.layouts
    → k < length maps
    → (k < length input.link.objects) × (k < length g.places.layouts)
maps_within input g maps k are laid lt =
    let long = rows_length (IsIndexMap input) 0 input.link.objects maps are in
    let other = rows_length (AreLaid input) 0 input.link.objects g.places.layouts laid in
    (omega (arith, lt, long), omega (arith, lt, long, other))

-- all maps are made at last
pub all_done : (book : AddressBook) (maps whole : List WasmObjectIndexMap) (k first : ℕ)
    → AreIndexMaps book.input.now maps → k ≡ length maps → AreDone book k first whole
    → AreWholeMaps book.input.now book.placing.now whole
    × (HasHighSymbol book.input.now book.placing.now → ⊥)
all_done book maps whole k first are is done =
    let input : Input = book.input.now in
    let long = rows_length (IsIndexMap input) 0 input.link.objects maps are in
    let all : take k input.link.objects ≡ input.link.objects =
    take_all k input.link.objects (omega (arith, is, long)) in (
      subst (λ (os : List Object). AreRows (IsWholeMap input book.placing.now) 0 os whole) all
          done.rows,
      none_high input book.placing.now (λ object o number here lt high.
          let within = slice_get_within input.link.objects object o here in
          done.low object (omega (arith, within, is, long)) o here number lt high),
    )
