-- The memories of objects, the steps of placing, and how many segments there are.
use Rattle.std.proofs.Common.{◌≡◌, ◌∙◌, ℕ, suc, ◌+◌, ◌*◌, ◌^◌, ◌<◌, ◌≤◌, max, Bool, true, false, cond, not, ◌||◌, ◌==◌, List, [], ◌∷◌, ◌++◌, length, map, fold, filter, drop, get_or, Option, Some, None, is_some, Result, Ok, Err, IfOk, refl, sym, ap, subst, arith, inl, inr, length-append, sum_by}
use Rattle.std.specs.List.{AllByRecursion, AllZip, cons_option, flat_map, list_any}
use Rattle.std.proofs.lemmas.Bool.{cases_lt, ne_eqb}
use Rattle.std.proofs.lemmas.List.{length-map, map-append}
use Rattle.wl_module.specs.Imports.{Imported}
use Rattle.wl_module.specs.declared.limits.MemoryType.{MemoryType}
use Rattle.wl_linking.specs.Bounds.{IsSmallMemory, memories_of, memory_in}
use Rattle.wl_linking.specs.Fitting.{IsWhole}
use Rattle.wl_linking.specs.Object.{Object}
use Rattle.wl_linking.specs.Steps.{Clear, NoStep, Refuses, Step, behind, here}
use Rattle.wl_linking.specs.declared.error.LinkError.{LinkError}
use Rattle.wl_linking.specs.declared.error.LinkError.TheVariants.{TooLarge}
use Rattle.wl_linking.specs.declared.error.Quantity.TheVariants.{Space}
use Rattle.wl_index.specs.declared.index.TheConstants.{MAX_ENTRIES}
use Rattle.wl_data.specs.DataPlaces.{DataInput, HasLayout, HaveLayouts, IsDataPlaces, IsPastMemory, data_of, in_output_order, is_thread_local}
use Rattle.wl_data.specs.MemorySize.{memory_fault, needs_of}
use Rattle.wl_data.specs.Segments.{KeptData, SegmentLayout}
use Rattle.wl_index.specs.Memory.{stack_start}
use Rattle.wl_data.specs.Stack.{IsBadStackSize, IsStackTooHigh}
use Rattle.wl_data.specs.declared.options.DataOptions.{DataOptions}
use Rattle.wl_data.specs.declared.places.DataPlaces.{DataPlaces}
use Rattle.wl_words.specs.declared.args.WasmArgs.{WasmArgs}
use Rattle.wl_symbols.specs.Input.{Input}
use Rattle.wl_bind.specs.Made.{greatest}
use Rattle.wl_places.specs.Addresses.{numbers_from, segment_space}
use Rattle.wl_places.specs.KeptData.{all_segments}
use Rattle.wl_places.specs.Placing.{AreTooManySegments, IsHeapTooHigh, IsMemoryFault, data_input, data_options, first_pages, least_pages, memory_needs, memory_pages, memory_steps, place_fault, placing_of, stack_pointer}
use Rattle.wl_places.specs.steps.Placing.{imported_memories, is_memory_import, most_pages}
use Rattle.wl_places.specs.declared.placing.Placing.{Placing}
use Rattle.wl_linking.proofs.StepLaws.{clear_end, clear_step, refuses_here, refuses_behind}
use Rattle.wl_lists.proofs.Beside.{zip_length}
use Rattle.wl_places.proofs.KeptDataLaws.{split_at}

-- ---- the greatest of numbers

-- of those of two lists
pub greatest-append : (ms ns : List ℕ) → greatest (ms ++ ns) ≡ max (greatest ms) (greatest ns)
greatest-append [] ns = omega arith
greatest-append (m ∷ ms) ns = omega (arith, greatest-append ms ns)

pub objects_one : (o : Object) (os : List Object) → greatest (flat_map least_pages (o ∷ os)) ≡ max (greatest (least_pages o)) (greatest (flat_map least_pages os))
objects_one o os = greatest-append (least_pages o) (flat_map least_pages os)

-- one more of a row
pub greatest_more : {X : Type 0} (most : List X → ℕ) (one : X → ℕ) → ((x : X) (xs : List X) → most (x ∷ xs) ≡ max (one x) (most xs))
    → (xs : List X) (k : ℕ) (x : X) (before after all : ℕ) → k < length xs → x ≡ get_or xs k x → after ≡ max before (one x)
    → max before (most (drop k xs)) ≡ all → max after (most (drop (k + 1) xs)) ≡ all
greatest_more most one step xs k x before after all within is more so_far =
    omega (arith, ap most (split_at xs k x within is), step x (drop (k + 1) xs), more, so_far)

-- of the memories that an object imports and defines
pub both_pages : (o : Object) → greatest (least_pages o) ≡ max (most_pages (imported_memories o.imports)) (most_pages o.memories)
both_pages o =
    ap greatest (map-append (λ (m : MemoryType). m.initial) (imported_memories o.imports) o.memories)
    ∙ greatest-append (map (λ (m : MemoryType). m.initial) (imported_memories o.imports)) (map (λ (m : MemoryType). m.initial) o.memories)

-- ---- there is a memory

one_has : (o : Option MemoryType) (ms memories : List MemoryType) (any : Bool) → (any || not (length memories == 0)) ≡ not (length (ms ++ memories) == 0)
    → ((is_some o || any) || not (length memories == 0)) ≡ not (length (cons_option o ms ++ memories) == 0)
one_has None ms memories any h = h
one_has (Some m) ms memories any h = sym (ap not (ne_eqb (suc (length (ms ++ memories))) 0 (λ e. absurd (omega (arith, e)))))

-- an object imports one, or defines one
pub has_either : (imports : List Imported) (memories : List MemoryType) → (list_any is_memory_import imports || not (length memories == 0)) ≡ not (length (imported_memories imports ++ memories) == 0)
has_either [] memories = refl
has_either (i ∷ is) memories = one_has (memory_in i.entity) (imported_memories is) memories (list_any is_memory_import is) (has_either is memories)

-- ---- how many pages there are

pages_below : (ms : List MemoryType) → AllByRecursion IsSmallMemory ms → most_pages ms ≤ 65536
pages_below [] h = omega arith
pages_below (m ∷ ms) h = omega (arith, h.0, pages_below ms h.1)

-- the memories of whole objects begin with no more pages than a memory can have
pub objects_below : ((o : Object) → IsWhole o → AllByRecursion IsSmallMemory (memories_of o)) → (os : List Object) → AllByRecursion IsWhole os → greatest (flat_map least_pages os) ≤ 65536
objects_below small [] h = omega arith
objects_below small (o ∷ os) h = omega (arith, objects_one o os, pages_below (memories_of o) (small o h.0), objects_below small os h.1)

-- ---- how many segments there are

-- how many all rows have
abbrev total : {X : Type 0} → List (List X) → ℕ
total [] = 0
total (row ∷ rows) = length row + total rows

total_from : {X : Type 0} (a : ℕ) (rows : List (List X)) → fold (λ (n : ℕ) (row : List X). n + length row) a rows ≡ a + total rows
total_from a [] = omega arith
total_from a (row ∷ rows) = total_from (a + length row) rows ∙ omega arith

numbers_total : (k : ℕ) (rows : List (List SegmentLayout)) → length (numbers_from k rows) ≡ total rows
numbers_total k [] = refl
numbers_total k (row ∷ rows) =
    let f : SegmentLayout → ℕ × ℕ = λ l. (k, l.segment_index) in
    omega (
      arith,
      length-append (map f row) (numbers_from (k + 1) rows),
      length-map row f,
      numbers_total (k + 1) rows,
    )

one_splits : (b : Bool) (s : KeptData) (xs ys : List KeptData) (n : ℕ) → length xs + length ys ≡ n → length (cond (not b) (s ∷ xs) xs) + length (cond b (s ∷ ys) ys) ≡ suc n
one_splits true s xs ys n h = omega (arith, h)
one_splits false s xs ys n h = omega (arith, h)

order_splits : (ss : List KeptData) → length (filter (λ (s : KeptData). not s.tls) ss) + length (filter is_thread_local ss) ≡ length ss
order_splits [] = omega arith
order_splits (s ∷ ss) = one_splits s.tls s (filter (λ (x : KeptData). not x.tls) ss) (filter is_thread_local ss) (length ss) (order_splits ss)

layouts_length : (o : DataOptions) (ss : List KeptData) (ls : List SegmentLayout) → HaveLayouts o ss ls → length ss ≡ length ls
layouts_length o ss ls h =
    omega (arith, order_splits ss, length-append (filter (λ (s : KeptData). not s.tls) ss) (filter is_thread_local ss), zip_length (HasLayout o) (in_output_order ss) ls h)

layouts_total : (o : DataOptions) (rows : List (List KeptData)) (laid : List (List SegmentLayout)) → AllZip (HaveLayouts o) rows laid → total laid ≡ total rows
layouts_total o [] [] h = refl
layouts_total o [] (ls ∷ laid) h = absurd h
layouts_total o (ss ∷ rows) [] h = absurd h
layouts_total o (ss ∷ rows) (ls ∷ laid) h = omega (arith, layouts_length o ss ls h.0, layouts_total o rows laid h.1)

-- no more than a space may have, where those that are kept aren't too many
pub numbers_few : (input : Input) (o : DataOptions) (laid : List (List SegmentLayout)) → Clear (AreTooManySegments input) → AllZip (HaveLayouts o) (all_segments input) laid → length (numbers_from 0 laid) ≤ MAX_ENTRIES
numbers_few input o laid clear h =
    elim (cases_lt MAX_ENTRIES (sum_by length (all_segments input))) [
      | inl many ↦ absurd (clear.none (TooLarge Space) (refl, many))
      | inr few ↦ omega (arith, few, total_from 0 (all_segments input), numbers_total 0 laid, layouts_total o (all_segments input) laid h)
    ]

-- ---- the memory

-- its faults, where the options and the pages are these
pub memory_clear : (input : Input) (places : DataPlaces) (o : DataOptions) (a : WasmArgs) (n : ℕ) → o ≡ data_options input → a ≡ input.link.args → n ≡ first_pages input.link.objects
    → Clear (memory_fault (needs_of places.data_end o.memory_base o.stack_size o.stack_first) a.initial_memory a.max_memory n)
    → Clear (memory_fault (memory_needs input places) input.link.args.initial_memory input.link.args.max_memory (first_pages input.link.objects))
memory_clear input places o a n options args pages clear =
    let one = subst (λ (x : DataOptions). Clear (memory_fault (needs_of places.data_end x.memory_base x.stack_size x.stack_first) a.initial_memory a.max_memory n)) options clear in
    let two = subst (λ (x : WasmArgs). Clear (memory_fault (memory_needs input places) x.initial_memory x.max_memory n)) args one in
    subst (λ (x : ℕ). Clear (memory_fault (memory_needs input places) input.link.args.initial_memory input.link.args.max_memory x)) pages two

-- what is judged of the stack, where its size is no bad one
abbrev pub StackSteps : DataPlaces → DataOptions → LinkError → Type 0
StackSteps places o = Step (IsBadStackSize o.stack_size) (Step (IsStackTooHigh (stack_start places.data_end o.stack_size o.stack_first)) NoStep)

pub stack_clear : (input : Input) (places : DataPlaces) (o : DataOptions) → o ≡ data_options input → Clear (IsBadStackSize o.stack_size) → Clear (StackSteps places o)
    → Clear (IsStackTooHigh (stack_pointer input places))
stack_clear input places o options sized clear =
    subst (λ (x : DataOptions). Clear (IsStackTooHigh (stack_start places.data_end x.stack_size x.stack_first))) options
    (record { none = λ e h. clear.none e (behind sized (here h)) })

too_high : (places : DataPlaces) (o : DataOptions) (e : LinkError) → Clear (IsBadStackSize o.stack_size) → StackSteps places o e → IsStackTooHigh (stack_start places.data_end o.stack_size o.stack_first) e
too_high places o e sized (here h) = absurd (sized.none e h)
too_high places o e sized (behind clear (here h)) = h
too_high places o e sized (behind clear (behind more h)) = absurd h

pub stack_refused : (input : Input) (places : DataPlaces) (o : DataOptions) → o ≡ data_options input → Clear (IsBadStackSize o.stack_size) → (e : LinkError) → StackSteps places o e
    → memory_steps input places e
stack_refused input places o options sized e cause =
    here (subst (λ (x : DataOptions). IsStackTooHigh (stack_start places.data_end x.stack_size x.stack_first) e) options (too_high places o e sized cause))

-- the heap, where it ends there
pub heap_clear : (input : Input) (places : DataPlaces) (pages : ℕ) → pages ≡ memory_pages input places → pages * 65536 < 2 ^ 32 → Clear (IsHeapTooHigh input places)
heap_clear input places pages is low =
    let less : memory_pages input places * 65536 < 2 ^ 32 = subst (λ (n : ℕ). n * 65536 < 2 ^ 32) is low in
    record { none = λ e h. absurd (omega (arith, less, h.1)) }

-- all of it
pub memory_steps_clear : (input : Input) (places : DataPlaces) → Clear (IsStackTooHigh (stack_pointer input places))
    → Clear (memory_fault (memory_needs input places) input.link.args.initial_memory input.link.args.max_memory (first_pages input.link.objects))
    → Clear (IsHeapTooHigh input places) → Clear (memory_steps input places)
memory_steps_clear input places stack memory heap = clear_step _ _ stack (clear_step _ _ memory (clear_step _ _ heap clear_end))

-- ---- all steps

-- the memory, where data lies in one way
pub fault_clear : (input : Input) (places : DataPlaces) → ((d : DataInput) (p q : DataPlaces) → IsDataPlaces d p → IsDataPlaces d q → p ≡ q)
    → IsDataPlaces (data_input input) places → Clear (memory_steps input places) → Clear (IsMemoryFault input)
fault_clear input places one laid clear = record {
  none = λ e h. clear.none e (subst (λ (p : DataPlaces). memory_steps input p e) (one (data_input input) h.laid places h.places laid) h.fault);
}

-- the data, where the segments and the options are these
pub past_clear : (input : Input) (segments : List (List KeptData)) (o : DataOptions) → segments ≡ all_segments input → o ≡ data_options input
    → Clear (IsPastMemory (data_of segments o)) → Clear (IsPastMemory (data_input input))
past_clear input segments o same options clear =
    subst (λ (x : DataOptions). Clear (IsPastMemory (data_of (all_segments input) x))) options
    (subst (λ (xs : List (List KeptData)). Clear (IsPastMemory (data_of xs o))) same clear)

-- the size of the stack, where the options are these
pub size_clear : (input : Input) (o : DataOptions) → o ≡ data_options input → Clear (IsBadStackSize o.stack_size) → Clear (IsBadStackSize input.link.args.z_stack_size)
size_clear input o options clear = subst (λ (x : DataOptions). Clear (IsBadStackSize x.stack_size)) options clear

-- the data would end past the last address, and nothing before that refuses
pub past_refused : (input : Input) (segments : List (List KeptData)) (o : DataOptions) (e : LinkError) → segments ≡ all_segments input → o ≡ data_options input
    → Clear (AreTooManySegments input) → Clear (IsBadStackSize o.stack_size) → Refuses (IsPastMemory (data_of segments o)) e → Refuses (place_fault input) e
past_refused input segments o e same options count size refuses =
    let past : Refuses (IsPastMemory (data_input input)) e =
    subst (λ (x : DataOptions). Refuses (IsPastMemory (data_of (all_segments input) x)) e) options
    (subst (λ (xs : List (List KeptData)). Refuses (IsPastMemory (data_of xs o)) e) same refuses) in
    refuses_behind _ _ e count (refuses_behind _ _ e (size_clear input o options size) (refuses_here _ _ e past))

pub place_clear : (input : Input) → Clear (AreTooManySegments input) → Clear (IsBadStackSize input.link.args.z_stack_size) → Clear (IsPastMemory (data_input input)) → Clear (IsMemoryFault input)
    → Clear (place_fault input)
place_clear input count size past memory = clear_step _ _ count (clear_step _ _ size (clear_step _ _ past (clear_step _ _ memory clear_end)))

-- how many segments an answer has
pub few_if : {E : Type 0} (r : Result Placing E) (input : Input) (places : DataPlaces) → IfOk r (λ (g : Placing). g ≡ placing_of input places) → length (numbers_from 0 places.layouts) ≤ MAX_ENTRIES
    → IfOk r (λ (g : Placing). length (segment_space g) ≤ MAX_ENTRIES)
few_if (Ok g) input places is few = subst (λ (x : Placing). length (segment_space x) ≤ MAX_ENTRIES) (sym is) few
few_if (Err e) input places is few = is
