-- Where the data of all objects lies.
use Rattle.std.specs.Prelude.{◌≡◌, ◌≢◌, ◌≤◌, ◌<◌, ℕ, ◌+◌, ◌%◌, ◌&&◌, ◌||◌, not, max, Bool, true, false, if◌then◌else◌, List, [], ◌∷◌, ◌++◌, length, filter, map, Option, Some, None, slice_get, ◌⊎◌, ◌^◌, IsPermutation}
use Rattle.std.specs.Int.{next_multiple_of}
use Rattle.std.specs.List.{list_any, flat_map, AllByRecursion, AllZip}
use Rattle.wl_linking.specs.declared.error.LinkError.{LinkError}
use Rattle.wl_linking.specs.declared.error.LinkError.TheVariants.{TooLarge}
use Rattle.wl_linking.specs.declared.error.Quantity.TheVariants.{Address}
use Rattle.wl_data.specs.declared.places.DataPlaces.{DataPlaces}
use Rattle.wl_data.specs.declared.options.DataOptions.{DataOptions}
use Rattle.wl_data.specs.declared.pass.Frontier.{Frontier}
use Rattle.wl_data.specs.declared.pass.Pass.{Pass}
use Rattle.wl_data.specs.Segments.{KeptData, SegmentLayout}
use Rattle.wl_data.specs.Sizes.{HasSegmentSize}
use Rattle.wl_data.specs.Layouts.{CanBePlaced, goes_to_block, PlacedData, ArePlaced, is_common, is_shared_init, is_passive, destination_of, AreLaidOut}
use Rattle.wl_index.specs.Memory.{behind_data, stack_top}

-- the segments of all objects in a row
abbrev pub in_one_row : {X : Type 0} → List (List X) → List X
in_one_row {X} objects = flat_map (λ (o : List X). o) objects

-- the segments of each object by itself, from frontier to frontier
abbrev pub AreObjectsLaid : Pass → List (List KeptData) → Frontier → Frontier
    → List (List SegmentLayout) → Type 0
AreObjectsLaid pass [] start end [] = end ≡ start
AreObjectsLaid pass (segments ∷ objects) start end (layouts ∷ rest) =
    (middle : Frontier) × AreLaidOut pass segments start middle layouts
    × AreObjectsLaid pass objects middle end rest
AreObjectsLaid pass _ start end _ = ⊥

-- all segments of an object can be placed
abbrev pub AllCanBePlaced : List KeptData → Type 0
AllCanBePlaced segments = AllByRecursion CanBePlaced segments

-- what places rest on: the kept segments, object by object, and what is asked for
pub record DataInput : Type 0 where
  pub objects : List (List KeptData)
  pub options : DataOptions

-- these objects and options together
abbrev pub data_of : List (List KeptData) → DataOptions → DataInput
data_of objects options = record { objects = objects; options = options }

-- ---- where data begins

-- where all data begins: after the stack where that stands first
abbrev pub data_start : DataOptions → ℕ
data_start o = if o.stack_first then o.stack_size else o.memory_base

-- the greatest alignment, 1 without any
abbrev pub greatest_alignment : List KeptData → ℕ
greatest_alignment [] = 1
greatest_alignment (s ∷ segments) = max s.alignment (greatest_alignment segments)

-- each thread has its own of it
abbrev pub is_thread_local : KeptData → Bool
is_thread_local s = s.tls

-- the kept segments of which each thread has its own
abbrev pub tls_segments : DataInput → List KeptData
tls_segments d = filter is_thread_local (in_one_row d.objects)

-- each thread has its own of some of them
abbrev pub any_is_thread_local : List KeptData → Bool
any_is_thread_local segments = list_any is_thread_local segments

-- each thread has its own of some kept segment
abbrev pub has_tls : DataInput → Bool
has_tls d = list_any any_is_thread_local d.objects

-- where those begin that follow the other data: at a multiple of all their alignments
abbrev pub tls_start : DataInput → ℕ → ℕ
tls_start d end =
    if has_tls d && not d.options.shared_tls
    then next_multiple_of end (greatest_alignment (tls_segments d)) else end

-- where the data of the thread begins; the start of all data where there is none
abbrev pub tls_base : DataInput → ℕ → ℕ
tls_base d end =
    if has_tls d then (if d.options.shared_tls then 0 else tls_start d end)
    else data_start d.options

-- ---- where data ends

-- a pass over the data that threads have in common, or over that of each thread
abbrev pub pass_over : DataOptions → Bool → Pass
pass_over o tls = record { tls = tls; shared_init = o.shared_memory; has_block = o.shared_tls }

-- all threads have some of them in common, which has bytes in the memory
abbrev pub any_is_common : List KeptData → Bool
any_is_common segments = list_any is_common segments

-- the first thread has segments to copy
abbrev pub has_init : DataInput → Bool
has_init d = d.options.shared_memory && list_any any_is_common d.objects

-- where the word stands that says whether they are copied
abbrev pub flag_place : ℕ → ℕ
flag_place end = next_multiple_of end 4

-- that place, where there is the word
abbrev pub flag_of : DataInput → ℕ → Option ℕ
flag_of d end = if has_init d then Some (flag_place end) else None

-- where all data ends, of which the segments end there
abbrev pub data_end : DataInput → ℕ → ℕ
data_end d end = if has_init d then flag_place end + 4 else end

-- how many bytes the block of each thread has
abbrev pub tls_size : DataInput → Frontier → ℕ
tls_size d end = if d.options.shared_tls then end.block else 0

-- and its alignment
abbrev pub tls_align : DataInput → ℕ
tls_align d = if d.options.shared_tls then greatest_alignment (tls_segments d) else 0

-- ---- the whole

-- the layouts of all objects: those of the data that all threads have in common, up to a middle,
-- and after that those of the data of which each thread has its own
pub record ArePlaces (d : DataInput) (common own : List (List SegmentLayout))
    (middle end : Frontier) : Type 0 where
  pub common_laid : AreObjectsLaid (pass_over d.options false) d.objects
      (record { memory = data_start d.options; block = 0 }) middle common
  pub own_laid : AreObjectsLaid (pass_over d.options true) d.objects
      (record { memory = tls_start d middle.memory; block = middle.block }) end own

-- the layouts of each object: those of the first list, and after them those of the second
abbrev pub by_object : {X : Type 0} → List (List X) → List (List X) → List (List X)
by_object [] _ = []
by_object (xs ∷ fronts) [] = xs ∷ fronts
by_object (xs ∷ fronts) (ys ∷ backs) = (xs ++ ys) ∷ by_object fronts backs

-- each object's list grows by layouts that are so
abbrev pub GrowByObject : (List (List SegmentLayout) → Type 0) → List (List SegmentLayout)
    → List (List SegmentLayout) → Type 0
GrowByObject Laid old new =
    (more : List (List SegmentLayout)) × Laid more × (new ≡ by_object old more)

-- where the data of these objects lies
pub record IsDataPlaces (d : DataInput) (p : DataPlaces) : Type 0 where
  pub common : List (List SegmentLayout)
  pub own : List (List SegmentLayout)
  pub middle : Frontier
  pub end : Frontier
  pub places : ArePlaces d common own middle end
  pub layouts : p.layouts ≡ by_object common own
  pub data_start : p.data_start ≡ data_start d.options
  pub tls_base : p.tls_base ≡ tls_base d middle.memory
  pub tls_size : p.tls_size ≡ tls_size d end
  pub tls_align : p.tls_align ≡ tls_align d
  pub flag : p.flag ≡ flag_of d end.memory
  pub data_end : p.data_end ≡ data_end d end.memory

-- The data ends past the last address, in the memory or in the block of a thread. All that comes
-- before the end lies below it, so this is so where any address is past the last one.
pub record EndsPastMemory (d : DataInput) : Type 0 where
  pub common : List PlacedData
  pub own : List PlacedData
  pub middle : Frontier
  pub end : Frontier
  pub common_stand : ArePlaced (pass_over d.options false) (in_one_row d.objects)
      (record { memory = data_start d.options; block = 0 }) middle common
  pub own_stand : ArePlaced (pass_over d.options true) (in_one_row d.objects)
      (record { memory = tls_start d middle.memory; block = middle.block }) end own
  pub past : (2 ^ 32 ≤ data_end d end.memory) ⊎ (2 ^ 32 ≤ end.block)

-- the data would end past the last address
abbrev pub IsPastMemory : DataInput → LinkError → Type 0
IsPastMemory d e = (e ≡ TooLarge Address) × EndsPastMemory d

-- ---- what lies where

-- a segment whose bytes are in the memory: put there when a module starts, or by the first thread
abbrev pub lies_in_memory : SegmentLayout → Bool
lies_in_memory l = not l.tls_template && (not l.passive || l.shared_init)

-- the layout is that of the segment, at a multiple of its alignment where it has an address
pub record HasLayout (o : DataOptions) (s : KeptData) (l : SegmentLayout) : Type 0 where
  pub segment_index : l.segment_index ≡ s.original
  pub payload : l.payload ≡ s.payload
  pub payload_start : l.payload_start ≡ s.payload_start
  pub output_memory_index : l.output_memory_index ≡ 0
  pub encoded_output_size :
      HasSegmentSize (destination_of l) (length l.payload) l.encoded_output_size
  pub passive : l.passive ≡ is_passive (pass_over o s.tls) s
  pub tls_template : l.tls_template ≡ goes_to_block (pass_over o s.tls) s
  pub shared_init : l.shared_init ≡ is_shared_init (pass_over o s.tls) s
  pub nowhere : lies_in_memory l ≡ false → l.tls_template ≡ false → l.output_memory_offset ≡ 0
  pub memory : lies_in_memory l ≡ true → l.output_memory_offset % s.alignment ≡ 0
  pub block : l.tls_template ≡ true → length s.payload ≢ 0
      → l.output_memory_offset % s.alignment ≡ 0

-- an object's segments as the output has them: those that all threads have in common come first
abbrev pub in_output_order : List KeptData → List KeptData
in_output_order segments =
    filter (λ (s : KeptData). not s.tls) segments ++ filter is_thread_local segments

-- each of them has its layout
abbrev pub HaveLayouts : DataOptions → List KeptData → List SegmentLayout → Type 0
HaveLayouts o segments layouts = AllZip (HasLayout o) (in_output_order segments) layouts

-- the addresses from a first one on, up to the one after the last
pub record AddressRange : Type 0 where
  pub first : ℕ
  pub behind : ℕ

-- each of them begins where the one before ends, or later, between start and end
abbrev pub ComeInOrder : ℕ → List AddressRange → ℕ → Type 0
ComeInOrder start [] end = start ≤ end
ComeInOrder start (r ∷ ranges) end =
    (start ≤ r.first) × (r.first ≤ r.behind) × ComeInOrder r.behind ranges end

-- in some order they do
abbrev pub StandApart : List AddressRange → Type 0
StandApart ranges =
    (row : List AddressRange) × (end : ℕ) × IsPermutation ranges row × ComeInOrder 0 row end

-- each ends where or before a later one begins
abbrev pub ShareNothing : List AddressRange → Type 0
ShareNothing ranges =
    (i k : ℕ) (r s : AddressRange) → i < k → slice_get ranges i ≡ Some r
    → slice_get ranges k ≡ Some s → r.behind ≤ s.first

-- the addresses of a segment's bytes
abbrev pub addresses_of : SegmentLayout → AddressRange
addresses_of l = record {
  first = l.output_memory_offset;
  behind = l.output_memory_offset + length l.payload;
}

-- what segments take of the memory
abbrev pub segment_ranges : List SegmentLayout → List AddressRange
segment_ranges layouts = map addresses_of (filter lies_in_memory layouts)

-- what they take of the block of each thread
abbrev pub block_ranges : List SegmentLayout → List AddressRange
block_ranges layouts = map addresses_of (filter (λ (l : SegmentLayout). l.tls_template) layouts)

-- what the word takes that says whether segments were copied
abbrev pub flag_ranges : Option ℕ → List AddressRange
flag_ranges None = []
flag_ranges (Some place) = record { first = place; behind = place + 4 } ∷ []

-- what the stack takes that stands first, or after the data, which ends there
abbrev pub first_stack : DataOptions → List AddressRange
first_stack o = if o.stack_first then record { first = 0; behind = o.stack_size } ∷ [] else []

abbrev pub last_stack : DataOptions → ℕ → List AddressRange
last_stack o end =
    if o.stack_first then []
    else record { first = behind_data end; behind = stack_top end o.stack_size } ∷ []

-- all that is taken of the memory: by the stack, by these segments, and by the word at that place,
-- where there is one; the data ends there
abbrev pub memory_ranges : DataOptions → List SegmentLayout → Option ℕ → ℕ → List AddressRange
memory_ranges o layouts flag end =
    first_stack o ++ segment_ranges layouts ++ flag_ranges flag ++ last_stack o end

-- ---- each segment by its place in the output

-- one of the two ends where the other begins, or before it
abbrev pub LieApart : AddressRange → AddressRange → Type 0
LieApart r s = (r.behind ≤ s.first) ⊎ (s.behind ≤ r.first)

-- those of the segments that pass the test lie apart, whichever comes first
abbrev pub AreSeparate : (SegmentLayout → Bool) → List SegmentLayout → Type 0
AreSeparate test layouts =
    (i k : ℕ) (l m : SegmentLayout) → i ≢ k → slice_get layouts i ≡ Some l
    → slice_get layouts k ≡ Some m → test l ≡ true → test m ≡ true
    → LieApart (addresses_of l) (addresses_of m)

-- they end there or before
abbrev pub EndBy : (SegmentLayout → Bool) → ℕ → List SegmentLayout → Type 0
EndBy test end layouts =
    (i : ℕ) (l : SegmentLayout) → slice_get layouts i ≡ Some l → test l ≡ true
    → l.output_memory_offset + length l.payload ≤ end

-- a segment of the block of each thread
abbrev pub is_template : SegmentLayout → Bool
is_template l = l.tls_template

-- the word at that place is the last of the data
pub record IsLastWord (place end : ℕ) : Type 0 where
  pub aligned : place % 4 ≡ 0
  pub last : place + 4 ≡ end
