-- Where segments end, and which are copied.
use Rattle.std.proofs.Common.{◌≡◌, ◌⊎◌, inl, inr, ℕ, zero, suc, ◌+◌, Bool, true, false, cond, not, List, [], ◌∷◌, ◌++◌, refl, sym, ◌∙◌, subst, arith, Some, None}
use Rattle.std.proofs.lemmas.Bool.{or_right, not-true, and_parts}
use Rattle.std.specs.Prelude.{slice_get}
use Rattle.std.specs.List.{AllZip}
use Rattle.wl_data.specs.declared.options.DataOptions.{DataOptions}
use Rattle.wl_data.specs.declared.places.DataPlaces.{DataPlaces}
use Rattle.wl_data.specs.Segments.{KeptData, SegmentLayout}
use Rattle.wl_data.specs.Layouts.{goes_to_block, goes_to_memory, is_shared_init}
use Rattle.wl_data.specs.DataPlaces.{in_one_row, by_object, DataInput, IsDataPlaces, lies_in_memory, is_template, HasLayout, HaveLayouts, in_output_order, segment_ranges, block_ranges, flag_of, flag_place, has_init, data_end, data_start, pass_over, AreSeparate, EndBy, IsLastWord}
use Rattle.wl_data.proofs.Multiples.{least_found}
use Rattle.wl_data.proofs.RangeLaws.{shared_in_memory, not_both}
use Rattle.wl_data.proofs.OrderLaws.{rows_in_order, block_in_order_too, end_behind}
use Rattle.wl_data.proofs.PlacesLaws.{by_object_taken, same_count, places_for}
use Rattle.wl_data.proofs.ApartLaws.{mixed_apart, mixed_end, order_ends, order_apart, separate, ends}

-- ---- each layout is that of a segment

in_append : {X : Type 0} (xs ys : List X) (i : ℕ) (x : X) → slice_get (xs ++ ys) i ≡ Some x → (slice_get xs i ≡ Some x) ⊎ ((k : ℕ) × (slice_get ys k ≡ Some x))
in_append [] ys i x e = inr (i, e)
in_append (y ∷ xs) ys zero x e = inl e
in_append (y ∷ xs) ys (suc i) x e = in_append xs ys i x e

zip_has : {A B : Type 0} (R : A → B → Type 0) (xs : List A) (ys : List B) (i : ℕ) (y : B) → AllZip R xs ys → slice_get ys i ≡ Some y → (x : A) × R x y
zip_has R [] [] i y p e = absurd cc
zip_has R [] (z ∷ ys) i y p e = absurd p
zip_has R (x ∷ xs) [] i y p e = absurd p
zip_has {A} R (x ∷ xs) (z ∷ ys) zero y p e = let same : z ≡ y = cc in subst (λ (w : _). (a : A) × R a w) same (x, p.0)
zip_has R (x ∷ xs) (z ∷ ys) (suc i) y p e = zip_has R xs ys i y p.1 e

layout_has : (o : DataOptions) (objects : List (List KeptData)) (rows : List (List SegmentLayout)) (i : ℕ) (l : SegmentLayout) → AllZip (HaveLayouts o) objects rows → slice_get (in_one_row rows) i ≡ Some l → (s : KeptData) × HasLayout o s l
layout_has o [] [] i l p e = absurd cc
layout_has o [] (r ∷ rows) i l p e = absurd p
layout_has o (x ∷ objects) [] i l p e = absurd p
layout_has o (x ∷ objects) (r ∷ rows) i l p e =
    elim (in_append r (in_one_row rows) i l e) [
      | inl here ↦ zip_has (HasLayout o) (in_output_order x) r i l p.0 here
      | inr on ↦ layout_has o objects rows on.0 l p.1 on.1
    ]

pub segment_of : (d : DataInput) (p : DataPlaces) (i : ℕ) (l : SegmentLayout) → IsDataPlaces d p → slice_get (in_one_row p.layouts) i ≡ Some l → (s : KeptData) × HasLayout d.options s l
segment_of d p i l h e = layout_has d.options d.objects p.layouts i l (places_for d p h) e

-- ---- what is copied is passive

pub shared_copied : (d : DataInput) (p : DataPlaces) (i : ℕ) (l : SegmentLayout) → IsDataPlaces d p → slice_get (in_one_row p.layouts) i ≡ Some l → l.shared_init ≡ true → (l.passive ≡ true) × (lies_in_memory l ≡ true)
shared_copied d p i l h e t =
    let one = segment_of d p i l h e in
    let s = one.0 in
    let pass = pass_over d.options s.tls in
    let shared : is_shared_init pass s ≡ true = sym one.1.shared_init ∙ t in
    let block : goes_to_block pass s ≡ false = not-true (goes_to_block pass s) (and_parts (not (goes_to_block pass s)) s.active (shared_in_memory pass s shared)).0 in
    let passive : l.passive ≡ true = one.1.passive ∙ or_right (not (goes_to_memory pass s)) (is_shared_init pass s) shared in
    let template : l.tls_template ≡ false = one.1.tls_template ∙ block in
    (passive, rw (template, passive, t) refl)

pub own_copied : (d : DataInput) (p : DataPlaces) (i : ℕ) (l : SegmentLayout) → IsDataPlaces d p → slice_get (in_one_row p.layouts) i ≡ Some l → l.tls_template ≡ true → (l.passive ≡ true) × (d.options.shared_tls ≡ true)
own_copied d p i l h e t =
    let one = segment_of d p i l h e in
    let s = one.0 in
    let pass = pass_over d.options s.tls in
    let block : goes_to_block pass s ≡ true = sym one.1.tls_template ∙ t in
    let memory : goes_to_memory pass s ≡ false = not_both pass s block in
    (one.1.passive ∙ rw memory refl, (and_parts d.options.shared_tls s.tls block).0)

-- ---- where they end

ends_in_memory : (d : DataInput) (p : DataPlaces) (h : IsDataPlaces d p) → EndBy lies_in_memory h.end.memory (in_one_row p.layouts)
ends_in_memory d p h =
    let order = rows_in_order d h.common h.own h.middle h.end h.places in
    let rows = segment_ranges (in_one_row h.common) ++ segment_ranges (in_one_row h.own) in
    let mixed = by_object_taken lies_in_memory h.common h.own (same_count d p h) in
    rw h.layouts (ends lies_in_memory h.end.memory (in_one_row (by_object h.common h.own))
    (mixed_end h.end.memory (segment_ranges (in_one_row (by_object h.common h.own))) rows mixed (order_ends (data_start d.options) rows h.end.memory order)))

pub memory_ends : (d : DataInput) (p : DataPlaces) → IsDataPlaces d p → EndBy lies_in_memory p.data_end (in_one_row p.layouts)
memory_ends d p h i l e t =
    let low = ends_in_memory d p h i l e t in
    rw h.data_end (omega (arith, low, end_behind d h.end.memory))

flagged : (d : DataInput) (m flag : ℕ) → flag_of d m ≡ Some flag → (flag ≡ flag_place m) × (data_end d m ≡ flag_place m + 4)
flagged d m flag e = at (has_init d) e
  where
    at : (b : Bool) → cond b (Some (flag_place m)) None ≡ Some flag → (flag ≡ flag_place m) × (cond b (flag_place m + 4) m ≡ flag_place m + 4)
    at true z = (let same : flag ≡ flag_place m = cc in same, refl)
    at false z = absurd cc

pub flag_last : (d : DataInput) (p : DataPlaces) (flag : ℕ) → IsDataPlaces d p → p.flag ≡ Some flag → IsLastWord flag p.data_end
flag_last d p flag h e =
    let is = flagged d h.end.memory flag (sym h.flag ∙ e) in
    let four = least_found 4 h.end.memory (omega arith) in
    record { aligned = rw is.0 four.multiple; last = rw (h.data_end, is.1, is.0) refl }

pub before_flag : (d : DataInput) (p : DataPlaces) (flag : ℕ) → IsDataPlaces d p → p.flag ≡ Some flag → EndBy lies_in_memory flag (in_one_row p.layouts)
before_flag d p flag h e i l f t =
    let is = flagged d h.end.memory flag (sym h.flag ∙ e) in
    let low = ends_in_memory d p h i l f t in
    let four = least_found 4 h.end.memory (omega arith) in
    omega (arith, low, is.0, four.past)

pub block_ends : (d : DataInput) (p : DataPlaces) → IsDataPlaces d p → EndBy is_template p.tls_size (in_one_row p.layouts)
block_ends d p h i l e t =
    let order = block_in_order_too d h.common h.own h.middle h.end h.places in
    let rows = block_ranges (in_one_row h.common) ++ block_ranges (in_one_row h.own) in
    let mixed = by_object_taken is_template h.common h.own (same_count d p h) in
    let all : EndBy is_template h.end.block (in_one_row p.layouts) =
    rw h.layouts (ends is_template h.end.block (in_one_row (by_object h.common h.own))
    (mixed_end h.end.block (block_ranges (in_one_row (by_object h.common h.own))) rows mixed (order_ends 0 rows h.end.block order))) in
    let there = (own_copied d p i l h e t).1 in
    let size : p.tls_size ≡ h.end.block = h.tls_size ∙ rw there refl in
    rw size (all i l e t)

-- ---- they lie apart

pub memory_separate : (d : DataInput) (p : DataPlaces) → IsDataPlaces d p → AreSeparate lies_in_memory (in_one_row p.layouts)
memory_separate d p h =
    let order = rows_in_order d h.common h.own h.middle h.end h.places in
    let rows = segment_ranges (in_one_row h.common) ++ segment_ranges (in_one_row h.own) in
    let mixed = by_object_taken lies_in_memory h.common h.own (same_count d p h) in
    rw h.layouts (separate lies_in_memory (in_one_row (by_object h.common h.own))
    (mixed_apart (segment_ranges (in_one_row (by_object h.common h.own))) rows mixed (order_apart (data_start d.options) rows h.end.memory order)))

pub block_separate : (d : DataInput) (p : DataPlaces) → IsDataPlaces d p → AreSeparate is_template (in_one_row p.layouts)
block_separate d p h =
    let order = block_in_order_too d h.common h.own h.middle h.end h.places in
    let rows = block_ranges (in_one_row h.common) ++ block_ranges (in_one_row h.own) in
    let mixed = by_object_taken is_template h.common h.own (same_count d p h) in
    rw h.layouts (separate is_template (in_one_row (by_object h.common h.own))
    (mixed_apart (block_ranges (in_one_row (by_object h.common h.own))) rows mixed (order_apart 0 rows h.end.block order)))
