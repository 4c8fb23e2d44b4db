-- What holds of the places of all data.
use Rattle.std.proofs.Common.{◌≡◌, ◌≢◌, ℕ, ◌+◌, ◌%◌, Bool, true, false, cond, ◌||◌, List, [], ◌∷◌, ◌++◌, length, map, refl, sym, ap, ◌∙◌, subst, arith, append_assoc, Option}
use Rattle.std.specs.Prelude.{filter, ◌==◌, IsPermutation}
use Rattle.std.specs.List.{AllZip}
use Rattle.std.proofs.lemmas.Bool.Decides.{nat_tests}
use Rattle.std.proofs.lemmas.List.Sorted.{IsPermutation-refl, IsPermutation-append_comm, IsPermutation-append_left, IsPermutation-append_right, IsPermutation-trans}
use Rattle.wl_data.specs.declared.options.DataOptions.{DataOptions}
use Rattle.wl_data.specs.declared.pass.Frontier.{Frontier}
use Rattle.wl_data.specs.declared.pass.Pass.{Pass}
use Rattle.wl_data.specs.declared.places.DataPlaces.{DataPlaces}
use Rattle.wl_data.specs.Segments.{KeptData, SegmentLayout}
use Rattle.wl_data.specs.Spans.{AreInRow}
use Rattle.wl_data.specs.Layouts.{is_chosen, goes_to_block, goes_to_memory, block_alignment, PlacedData, span_of, spans_of, memory_spans, block_spans, IsLayoutOf, AreLayoutsOf, AreLaidOut}
use Rattle.wl_data.specs.DataPlaces.{AreObjectsLaid, in_one_row, DataInput, IsDataPlaces, by_object, lies_in_memory, HasLayout, HaveLayouts, AddressRange, StandApart, segment_ranges, block_ranges, first_stack, flag_ranges, last_stack, memory_ranges, data_end, data_start, tls_start, tls_base, tls_size, flag_of, pass_over}
use Rattle.wl_lists.proofs.Beside.{zip_joined}
use Rattle.wl_data.proofs.LayoutLaws.{laid_end}
use Rattle.wl_data.proofs.RangeLaws.{lies_is, taken, taken-append}
use Rattle.wl_data.proofs.UniqueLaws.{FormsAreOne, laid_same}
use Rattle.wl_data.proofs.ObjectLaws.{objects_count}
use Rattle.wl_data.proofs.OrderLaws.{rows_in_order, all_in_order, block_in_order_too}

-- ---- there is one way

objects_one : FormsAreOne → (pass : Pass) (objects : List (List KeptData)) (a b c : Frontier) (ls ms : List (List SegmentLayout)) → AreObjectsLaid pass objects a b ls → AreObjectsLaid pass objects a c ms → (ls ≡ ms) × (b ≡ c)
objects_one forms pass [] a b c [] [] p q = (refl, p ∙ sym q)
objects_one forms pass [] a b c [] (m ∷ ms) p q = absurd q
objects_one forms pass [] a b c (l ∷ ls) ms p q = absurd p
objects_one forms pass (o ∷ objects) a b c [] ms p q = absurd p
objects_one forms pass (o ∷ objects) a b c (l ∷ ls) [] p q = absurd q
objects_one forms pass (o ∷ objects) a b c (l ∷ ls) (m ∷ ms) p q =
    let head : l ≡ m = laid_same forms pass o a p.0 q.0 l m p.1 q.1 in
    let end : p.0 ≡ q.0 = laid_end pass o a p.0 q.0 l m p.1 q.1 in
    let rest = objects_one forms pass objects q.0 b c ls ms (subst (λ (f : Frontier). AreObjectsLaid pass objects f b ls) end p.2) q.2 in
    (ap (λ (x : List SegmentLayout). x ∷ ls) head ∙ ap (λ (xs : List (List SegmentLayout)). m ∷ xs) rest.0, rest.1)

places_is : (p q : DataPlaces) → p.layouts ≡ q.layouts → p.data_start ≡ q.data_start → p.tls_base ≡ q.tls_base → p.tls_size ≡ q.tls_size → p.tls_align ≡ q.tls_align → p.flag ≡ q.flag → p.data_end ≡ q.data_end → p ≡ q
places_is p q e1 e2 e3 e4 e5 e6 e7 =
    let f : List (List SegmentLayout) → ℕ → ℕ → ℕ → ℕ → Option ℕ → ℕ → DataPlaces = λ l s b z a g e. record { layouts = l; data_start = s; tls_base = b; tls_size = z; tls_align = a; flag = g; data_end = e } in
    ap (λ (x : List (List SegmentLayout)). f x p.data_start p.tls_base p.tls_size p.tls_align p.flag p.data_end) e1
    ∙ ap (λ (x : ℕ). f q.layouts x p.tls_base p.tls_size p.tls_align p.flag p.data_end) e2
    ∙ ap (λ (x : ℕ). f q.layouts q.data_start x p.tls_size p.tls_align p.flag p.data_end) e3
    ∙ ap (λ (x : ℕ). f q.layouts q.data_start q.tls_base x p.tls_align p.flag p.data_end) e4
    ∙ ap (λ (x : ℕ). f q.layouts q.data_start q.tls_base q.tls_size x p.flag p.data_end) e5
    ∙ ap (λ (x : Option ℕ). f q.layouts q.data_start q.tls_base q.tls_size q.tls_align x p.data_end) e6
    ∙ ap (λ (x : ℕ). f q.layouts q.data_start q.tls_base q.tls_size q.tls_align q.flag x) e7

pub places_one : FormsAreOne → (d : DataInput) (p q : DataPlaces) → IsDataPlaces d p → IsDataPlaces d q → p ≡ q
places_one forms d p q h k =
    let start : Frontier = record { memory = data_start d.options; block = 0 } in
    let common = objects_one forms (pass_over d.options false) d.objects start h.middle k.middle h.common k.common h.places.common_laid k.places.common_laid in
    let there : Frontier → Frontier = λ m. record { memory = tls_start d m.memory; block = m.block } in
    let laid = subst (λ (m : Frontier). AreObjectsLaid (pass_over d.options true) d.objects (there m) h.end h.own) common.1 h.places.own_laid in
    let own = objects_one forms (pass_over d.options true) d.objects (there k.middle) h.end k.end h.own k.own laid k.places.own_laid in
    places_is p q
    (h.layouts ∙ ap (λ (x : List (List SegmentLayout)). by_object x h.own) common.0 ∙ ap (λ (x : List (List SegmentLayout)). by_object k.common x) own.0 ∙ sym k.layouts)
    (h.data_start ∙ sym k.data_start) (h.tls_base ∙ ap (λ (m : Frontier). tls_base d m.memory) common.1 ∙ sym k.tls_base) (h.tls_size ∙ ap (tls_size d) own.1 ∙ sym k.tls_size) (h.tls_align ∙ sym k.tls_align)
    (h.flag ∙ ap (λ (m : Frontier). flag_of d m.memory) own.1 ∙ sym k.flag) (h.data_end ∙ ap (λ (m : Frontier). data_end d m.memory) own.1 ∙ sym k.data_end)

-- ---- each segment has its layout, at a multiple of its alignment

head_of : (test : KeptData → Bool) (al : KeptData → ℕ) (s : PlacedData) (st : List PlacedData) (a c : ℕ) → AreInRow a (spans_of test al (s ∷ st)) c
    → (test s.segment ≡ true → s.place % al s.segment ≡ 0) × ((b : ℕ) × AreInRow b (spans_of test al st) c)
head_of test al s st a c r = at (test s.segment) refl
  where
    at : (t : Bool) → test s.segment ≡ t → (test s.segment ≡ true → s.place % al s.segment ≡ 0) × ((b : ℕ) × AreInRow b (spans_of test al st) c)
    at true e =
        let row : AreInRow a (span_of al s ∷ spans_of test al st) c = rw e at r in
        (λ z. row.0.multiple, (s.place + length s.segment.payload, row.1))
    at false e =
        let row : AreInRow a (spans_of test al st) c = rw e at r in
        (λ z. absurd (let bad : false ≡ true = sym e ∙ z in cc), (a, row))

not_zero : (n : ℕ) → n ≢ 0 → (n == 0) ≡ false
not_zero n ne = grind (arith, nat_tests)

layout_for : (o : DataOptions) (tls : Bool) (s : PlacedData) (l : SegmentLayout) → IsLayoutOf (pass_over o tls) s l → (goes_to_memory (pass_over o tls) s.segment ≡ true → s.place % s.segment.alignment ≡ 0)
    → (goes_to_block (pass_over o tls) s.segment ≡ true → s.place % block_alignment s.segment ≡ 0) → HasLayout o s.segment l
layout_for o tls s l i f g = record {
  segment_index = i.segment_index;
  payload = i.payload;
  payload_start = i.payload_start;
  output_memory_index = i.output_memory_index;
  encoded_output_size = i.encoded_output_size;
  passive = i.passive;
  tls_template = i.tls_template;
  shared_init = i.shared_init;
  nowhere = λ e n.
      let memory : goes_to_memory (pass_over o tls) s.segment ≡ false = sym (lies_is (pass_over o tls) s l i) ∙ e in
      let block : goes_to_block (pass_over o tls) s.segment ≡ false = sym i.tls_template ∙ n in
      i.output_memory_offset ∙ rw (memory, block) refl;
  memory = λ e.
      let there : goes_to_memory (pass_over o tls) s.segment ≡ true = sym (lies_is (pass_over o tls) s l i) ∙ e in
      let offset : l.output_memory_offset ≡ s.place = i.output_memory_offset ∙ rw there refl in
      rw offset (f there);
  block = λ e some.
      let there : goes_to_block (pass_over o tls) s.segment ≡ true = sym i.tls_template ∙ e in
      let offset : l.output_memory_offset ≡ s.place = i.output_memory_offset ∙ either (goes_to_memory (pass_over o tls) s.segment) (goes_to_block (pass_over o tls) s.segment) there in
      rw offset (full (length s.segment.payload) some (g there));
}
  where
    either : (m b : Bool) → b ≡ true → cond (m || b) s.place 0 ≡ s.place
    either true b h = refl
    either false b h = rw h refl

    full : (n : ℕ) → n ≢ 0 → s.place % cond (n == 0) 1 s.segment.alignment ≡ 0 → s.place % s.segment.alignment ≡ 0
    full n ne h =
        let none : (n == 0) ≡ false = not_zero n ne in
        rw none at h

laid_for : (o : DataOptions) (tls : Bool) (st : List PlacedData) (ls : List SegmentLayout) (a b c d : ℕ) → AreInRow a (memory_spans (pass_over o tls) st) b → AreInRow c (block_spans (pass_over o tls) st) d
    → AreLayoutsOf (pass_over o tls) st ls → AllZip (HasLayout o) (map (λ (s : PlacedData). s.segment) st) ls
laid_for o tls [] [] a b c d p q h = tt
laid_for o tls [] (l ∷ ls) a b c d p q h = absurd h
laid_for o tls (s ∷ st) [] a b c d p q h = absurd h
laid_for o tls (s ∷ st) (l ∷ ls) a b c d p q h =
    let memory = head_of (goes_to_memory (pass_over o tls)) (λ x. x.alignment) s st a b p in
    let block = head_of (goes_to_block (pass_over o tls)) block_alignment s st c d q in
    (layout_for o tls s l h.0 memory.0 block.0, laid_for o tls st ls memory.1.0 b block.1.0 d memory.1.1 block.1.1 h.1)

pass_for : (o : DataOptions) (tls : Bool) (segments : List KeptData) (a b : Frontier) (ls : List SegmentLayout) → AreLaidOut (pass_over o tls) segments a b ls → AllZip (HasLayout o) (filter (is_chosen (pass_over o tls)) segments) ls
pass_for o tls segments a b ls p =
    subst (λ (xs : List KeptData). AllZip (HasLayout o) xs ls) p.stand.chosen (laid_for o tls p.placed ls a.memory b.memory a.block b.block p.stand.memory p.stand.block p.laid)

objects_for : (o : DataOptions) (objects : List (List KeptData)) (a b e f : Frontier) (cs os : List (List SegmentLayout)) → AreObjectsLaid (pass_over o false) objects a b cs → AreObjectsLaid (pass_over o true) objects e f os
    → AllZip (HaveLayouts o) objects (by_object cs os)
objects_for o [] a b e f [] os p q = tt
objects_for o [] a b e f (c ∷ cs) os p q = absurd p
objects_for o (x ∷ objects) a b e f [] os p q = absurd p
objects_for o (x ∷ objects) a b e f (c ∷ cs) [] p q = absurd q
objects_for o (x ∷ objects) a b e f (c ∷ cs) (w ∷ os) p q = (
  zip_joined (HasLayout o) (filter (is_chosen (pass_over o false)) x) (filter (is_chosen (pass_over o true)) x) c w (pass_for o false x a p.0 c p.1) (pass_for o true x e q.0 w q.1),
  objects_for o objects p.0 b q.0 f cs os p.2 q.2,
)

pub places_for : (d : DataInput) (p : DataPlaces) → IsDataPlaces d p → AllZip (HaveLayouts d.options) d.objects p.layouts
places_for d p h =
    let start : Frontier = record { memory = data_start d.options; block = 0 } in
    let there : Frontier = record { memory = tls_start d h.middle.memory; block = h.middle.block } in
    rw h.layouts (objects_for d.options d.objects start h.middle there h.end h.common h.own h.places.common_laid h.places.own_laid)

-- ---- no two share an address

-- four parts, of which the two in the middle change places
four : {X : Type 0} (a b c d : List X) → IsPermutation ((a ++ b) ++ (c ++ d)) ((a ++ c) ++ (b ++ d))
four {X} a b c d =
    let left : (a ++ b) ++ (c ++ d) ≡ a ++ ((b ++ c) ++ d) = simp append_assoc in
    let right : (a ++ c) ++ (b ++ d) ≡ a ++ ((c ++ b) ++ d) = simp append_assoc in
    rw (left, right) (IsPermutation-append_right a ((b ++ c) ++ d) ((c ++ b) ++ d) (IsPermutation-append_left d (b ++ c) (c ++ b) (IsPermutation-append_comm b c)))

pub by_object_taken : (test : SegmentLayout → Bool) (cs os : List (List SegmentLayout)) → length cs ≡ length os → IsPermutation (taken test (in_one_row (by_object cs os))) (taken test (in_one_row cs) ++ taken test (in_one_row os))
by_object_taken test [] [] e = IsPermutation-refl []
by_object_taken test [] (o ∷ os) e = absurd (omega arith)
by_object_taken test (c ∷ cs) [] e = absurd (omega arith)
by_object_taken test (c ∷ cs) (o ∷ os) e =
    let rest = by_object_taken test cs os (omega arith) in
    let left : taken test (in_one_row (by_object (c ∷ cs) (o ∷ os))) ≡ (taken test c ++ taken test o) ++ taken test (in_one_row (by_object cs os)) =
    taken-append test (c ++ o) (in_one_row (by_object cs os)) ∙ ap (λ (x : List AddressRange). x ++ taken test (in_one_row (by_object cs os))) (taken-append test c o) in
    let one = IsPermutation-append_right (taken test c ++ taken test o) (taken test (in_one_row (by_object cs os))) (taken test (in_one_row cs) ++ taken test (in_one_row os)) rest in
    let two = four (taken test c) (taken test o) (taken test (in_one_row cs)) (taken test (in_one_row os)) in
    rw (left, taken-append test c (in_one_row cs), taken-append test o (in_one_row os)) (IsPermutation-trans _ _ _ one two)

pub same_count : (d : DataInput) (p : DataPlaces) (h : IsDataPlaces d p) → length h.common ≡ length h.own
same_count d p h =
    objects_count (pass_over d.options false) d.objects (record { memory = data_start d.options; block = 0 }) h.middle h.common h.places.common_laid
    ∙ sym (objects_count (pass_over d.options true) d.objects (record { memory = tls_start d h.middle.memory; block = h.middle.block }) h.end h.own h.places.own_laid)

pub memory_stands_apart : (d : DataInput) (p : DataPlaces) → IsDataPlaces d p → StandApart (memory_ranges d.options (in_one_row p.layouts) p.flag p.data_end)
memory_stands_apart d p h =
    let m = h.end.memory in
    let front = first_stack d.options in
    let flags = flag_ranges (flag_of d m) in
    let last = last_stack d.options (data_end d m) in
    let rows = segment_ranges (in_one_row h.common) ++ segment_ranges (in_one_row h.own) in
    let order = all_in_order d m rows (rows_in_order d h.common h.own h.middle h.end h.places) in
    let mixed = by_object_taken lies_in_memory h.common h.own (same_count d p h) in
    let row = segment_ranges (in_one_row (by_object h.common h.own)) in
    let one = IsPermutation-append_right front row rows mixed in
    let two = IsPermutation-append_left flags (front ++ row) (front ++ rows) one in
    let three = IsPermutation-append_left last (front ++ row ++ flags) (front ++ rows ++ flags) two in
    (front ++ rows ++ flags ++ last, order.0, rw (h.layouts, h.flag, h.data_end) three, order.1)

pub block_stands_apart : (d : DataInput) (p : DataPlaces) → IsDataPlaces d p → StandApart (block_ranges (in_one_row p.layouts))
block_stands_apart d p h =
    let rows = block_ranges (in_one_row h.common) ++ block_ranges (in_one_row h.own) in
    let mixed = by_object_taken (λ (l : SegmentLayout). l.tls_template) h.common h.own (same_count d p h) in
    (rows, h.end.block, rw h.layouts mixed, block_in_order_too d h.common h.own h.middle h.end h.places)
