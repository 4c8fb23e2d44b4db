-- What lies in the memory comes in order.
use Rattle.std.proofs.Common.{ℕ, ◌+◌, ◌≤◌, Bool, true, false, cond, not, ◌&&◌, List, [], ◌∷◌, ◌++◌, arith, Some, None}
use Rattle.std.specs.Int.{next_multiple_of}
use Rattle.wl_data.specs.declared.options.DataOptions.{DataOptions}
use Rattle.wl_data.specs.declared.pass.Frontier.{Frontier}
use Rattle.wl_data.specs.declared.pass.Pass.{Pass}
use Rattle.wl_data.specs.Segments.{KeptData, SegmentLayout}
use Rattle.wl_index.specs.Memory.{behind_data, stack_top}
use Rattle.wl_data.specs.DataPlaces.{AreObjectsLaid, in_one_row, DataInput, ArePlaces, AddressRange, ComeInOrder, lies_in_memory, memory_ranges, block_ranges, segment_ranges, first_stack, last_stack, flag_ranges, data_start, tls_start, has_tls, has_init, data_end, flag_of, flag_place, pass_over, greatest_alignment, tls_segments}
use Rattle.wl_data.proofs.LayoutLaws.{objects_laid}
use Rattle.wl_data.proofs.RangeLaws.{order_append, laid_in_order, block_in_order, taken-append}

up : (m a : ℕ) → m ≤ next_multiple_of m a
up m a = omega arith

-- ---- each part

pub objects_in_order : (pass : Pass) (objects : List (List KeptData)) (a b : Frontier) (layouts : List (List SegmentLayout)) → AreObjectsLaid pass objects a b layouts → ComeInOrder a.memory (segment_ranges (in_one_row layouts)) b.memory
objects_in_order pass objects a b layouts p = laid_in_order pass (in_one_row objects) a b (in_one_row layouts) (objects_laid pass objects a b layouts p)

first_in_order : (o : DataOptions) → ComeInOrder 0 (first_stack o) (data_start o)
first_in_order o = at o.stack_first
  where
    at : (first : Bool) → ComeInOrder 0 (cond first (record { first = 0; behind = o.stack_size } ∷ []) []) (cond first o.stack_size o.memory_base)
    at true = (omega arith, omega arith, omega arith)
    at false = omega arith

pub tls_behind : (d : DataInput) (m : ℕ) → m ≤ tls_start d m
tls_behind d m = at (has_tls d && not d.options.shared_tls)
  where
    at : (b : Bool) → m ≤ cond b (next_multiple_of m (greatest_alignment (tls_segments d))) m
    at true = up m (greatest_alignment (tls_segments d))
    at false = omega arith

pub end_behind : (d : DataInput) (m : ℕ) → m ≤ data_end d m
end_behind d m = at (has_init d)
  where
    at : (b : Bool) → m ≤ cond b (flag_place m + 4) m
    at true = omega (arith, up m 4)
    at false = omega arith

flag_in_order : (d : DataInput) (m : ℕ) → ComeInOrder m (flag_ranges (flag_of d m)) (data_end d m)
flag_in_order d m = at (has_init d)
  where
    at : (b : Bool) → ComeInOrder m (flag_ranges (cond b (Some (flag_place m)) None)) (cond b (flag_place m + 4) m)
    at true = (up m 4, omega arith, omega arith)
    at false = omega arith

last_in_order : (o : DataOptions) (m : ℕ) → (top : ℕ) × ComeInOrder m (last_stack o m) top
last_in_order o m = at o.stack_first
  where
    at : (first : Bool) → (top : ℕ) × ComeInOrder m (cond first [] (record { first = behind_data m; behind = stack_top m o.stack_size } ∷ [])) top
    at true = (m, omega arith)
    at false = (stack_top m o.stack_size, (up m 16, omega arith, omega arith))

lower : (a b : ℕ) (rs : List AddressRange) (c : ℕ) → a ≤ b → ComeInOrder b rs c → ComeInOrder a rs c
lower a b [] c le p = omega (arith, le, p)
lower a b (r ∷ rs) c le p = (omega (arith, le, p.0), p.1, p.2)

-- ---- the whole

-- the segments come in order, from the start of all data on
pub rows_in_order : (d : DataInput) (common own : List (List SegmentLayout)) (middle end : Frontier) → ArePlaces d common own middle end → ComeInOrder (data_start d.options) (segment_ranges (in_one_row common) ++ segment_ranges (in_one_row own)) end.memory
rows_in_order d common own middle end p =
    let start = data_start d.options in
    let common_order = objects_in_order (pass_over d.options false) d.objects (record { memory = start; block = 0 }) middle common p.common_laid in
    let own_order = lower middle.memory (tls_start d middle.memory) (segment_ranges (in_one_row own)) end.memory (tls_behind d middle.memory) (objects_in_order (pass_over d.options true) d.objects (record { memory = tls_start d middle.memory; block = middle.block }) end own p.own_laid) in
    order_append start (segment_ranges (in_one_row common)) (segment_ranges (in_one_row own)) middle.memory end.memory common_order own_order

-- what comes in order after the stack and before the flag, with these
pub all_in_order : (d : DataInput) (m : ℕ) (ranges : List AddressRange) → ComeInOrder (data_start d.options) ranges m → (top : ℕ) × ComeInOrder 0 (first_stack d.options ++ ranges ++ flag_ranges (flag_of d m) ++ last_stack d.options (data_end d m)) top
all_in_order d m ranges p =
    let first = first_stack d.options in
    let flags = flag_ranges (flag_of d m) in
    let end = data_end d m in
    let last = last_in_order d.options end in
    let two = order_append 0 first ranges (data_start d.options) m (first_in_order d.options) p in
    let three = order_append 0 (first ++ ranges) flags m end two (flag_in_order d m) in
    (last.0, order_append 0 (first ++ ranges ++ flags) (last_stack d.options end) end last.0 three last.1)

pub places_in_order : (d : DataInput) (common own : List (List SegmentLayout)) (middle end : Frontier) → ArePlaces d common own middle end
    → (top : ℕ) × ComeInOrder 0 (memory_ranges d.options (in_one_row common ++ in_one_row own) (flag_of d end.memory) (data_end d end.memory)) top
places_in_order d common own middle end p =
    rw (taken-append lies_in_memory (in_one_row common) (in_one_row own)) (all_in_order d end.memory (segment_ranges (in_one_row common) ++ segment_ranges (in_one_row own)) (rows_in_order d common own middle end p))

pub block_in_order_too : (d : DataInput) (common own : List (List SegmentLayout)) (middle end : Frontier) → ArePlaces d common own middle end → ComeInOrder 0 (block_ranges (in_one_row common) ++ block_ranges (in_one_row own)) end.block
block_in_order_too d common own middle end p =
    let start : Frontier = record { memory = data_start d.options; block = 0 } in
    let there : Frontier = record { memory = tls_start d middle.memory; block = middle.block } in
    let one = block_in_order (pass_over d.options false) (in_one_row d.objects) start middle (in_one_row common) (objects_laid (pass_over d.options false) d.objects start middle common p.common_laid) in
    let two = block_in_order (pass_over d.options true) (in_one_row d.objects) there end (in_one_row own) (objects_laid (pass_over d.options true) d.objects there end own p.own_laid) in
    order_append 0 (block_ranges (in_one_row common)) (block_ranges (in_one_row own)) middle.block end.block one two
