-- What operators on globals, memory and segments do (core specification, "Variable Instructions"
-- and "Memory Instructions"; the threads text for those with the prefix 0xfe).
use Rattle.std.specs.Prelude.{ℕ, ◌+◌, ◌-◌, ◌*◌, ◌^◌, ◌/◌, ◌%◌, ◌==◌, nat_le, Bool, true, false, if◌then◌else◌, List, [], ◌++◌, length, replicate, slice_get, slice_set, Result, Ok, Err}
use Rattle.wl_bytes.specs.Parse.{◌>>=◌}
use Rattle.wl_module.specs.declared.limits.TheConstants.{WASM_PAGE_SIZE}
use Rattle.wl_ops.specs.Standing.{window}
use Rattle.wl_numeric.specs.declared.value.Value.{Value}
use Rattle.wl_numeric.specs.declared.value.Value.TheVariants.{I32}
use Rattle.wl_numeric.specs.declared.value.TrapKind.{TrapKind}
use Rattle.wl_numeric.specs.declared.value.TrapKind.TheVariants.{OutOfBounds, Unaligned, Unshared}
use Rattle.wl_numeric.specs.Memory.{overlay, little_endian, little_endian_of}
use Rattle.wl_load.specs.declared.stop.Stop.{Stop}
use Rattle.wl_load.specs.declared.stop.Stop.TheVariants.{Invalid, Trap, Waits}
use Rattle.wl_load.specs.Values.{same_width}
use Rattle.wl_load.specs.declared.program.Program.{Program}
use Rattle.wl_load.specs.declared.store.Store.{Store}
use Rattle.wl_load.specs.Images.{page_limit}
use Rattle.wl_load.specs.States.{Calls, Machine, popped, popped_word, popped_long, pushed}
use Rattle.wl_load.specs.Control.{found}

-- unless it holds, a trap
abbrev pub unless_trap : Bool → TrapKind → Result (Unit {0}) Stop
unless_trap true kind = Ok tt
unless_trap false kind = Err (Trap kind)

-- n bytes at a place lie within so many
abbrev pub within : ℕ → ℕ → ℕ → Result (Unit {0}) Stop
within place n size = unless_trap (nat_le (place + n) size) OutOfBounds

abbrev pub machine : Calls → Store → Machine
machine calls store = record { calls = calls; store = store }

abbrev pub with_memory : List ℕ → Store → Store
with_memory memory store = record store { memory = memory }

-- ---- globals

abbrev pub global_get : ℕ → Machine → Result Machine Stop
global_get i m =
    found (slice_get m.store.globals i) >>= λ v. Ok (machine (pushed v m.calls) m.store)

-- a value of the global's width
abbrev pub global_put : ℕ → Value → Value → Store → Result Store Stop
global_put i v old store =
    if same_width v old then Ok (record store { globals = slice_set store.globals i v })
    else Err Invalid

abbrev pub global_set : ℕ → Machine → Result Machine Stop
global_set i m =
    popped m.calls >>= λ q. found (slice_get m.store.globals i) >>= λ old.
    global_put i q.0 old m.store >>= λ store. Ok (machine q.1 store)

-- ---- the size of memory, in pages

abbrev pub page_count : List ℕ → ℕ
page_count memory = length memory / WASM_PAGE_SIZE

-- memory grows by so many pages, which are zeros, unless it would pass the limit; the old size is
-- left, or -1
abbrev pub grown : ℕ → ℕ → Calls → Store → Machine
grown limit n calls store =
    if nat_le (page_count store.memory + n) limit
    then machine (pushed (I32 (page_count store.memory)) calls)
    (with_memory (store.memory ++ replicate (n * WASM_PAGE_SIZE) 0) store)
    else machine (pushed (I32 (2 ^ 32 - 1)) calls) store

abbrev pub memory_size : Machine → Result Machine Stop
memory_size m = Ok (machine (pushed (I32 (page_count m.store.memory)) m.calls) m.store)

abbrev pub memory_grow : Program → Machine → Result Machine Stop
memory_grow p m = popped_word m.calls >>= λ q. Ok (grown (page_limit p) q.0 q.1 m.store)

-- ---- many bytes

-- n bytes of some, from a place on, are put at a place in memory
abbrev pub copied : ℕ → ℕ → ℕ → List ℕ → Store → Result Store Stop
copied to from n bytes store =
    within from n (length bytes) >>= λ _. within to n (length store.memory) >>= λ _.
    Ok (with_memory (overlay to (window from n bytes) store.memory) store)

-- n bytes are filled with the lowest byte of a number
abbrev pub filled : ℕ → ℕ → ℕ → Store → Result Store Stop
filled to value n store =
    within to n (length store.memory) >>= λ _.
    Ok (with_memory (overlay to (replicate n (value % 256)) store.memory) store)

-- three numbers, the topmost last
abbrev pub popped_words : Calls → Result ((ℕ × ℕ × ℕ) × Calls) Stop
popped_words s =
    popped_word s >>= λ c. popped_word c.1 >>= λ b. popped_word b.1 >>= λ a.
    Ok ((a.0, b.0, c.0), a.1)

abbrev pub memory_init : ℕ → Machine → Result Machine Stop
memory_init k m =
    popped_words m.calls >>= λ q. found (slice_get m.store.segments k) >>= λ bytes.
    copied q.0.0 q.0.1 q.0.2 bytes m.store >>= λ store. Ok (machine q.1 store)

-- without the bytes of a segment
abbrev pub without_segment : ℕ → Store → Result Store Stop
without_segment k store =
    found (slice_get store.segments k) >>= λ _.
    Ok (record store { segments = slice_set store.segments k [] })

abbrev pub data_drop : ℕ → Machine → Result Machine Stop
data_drop k m = without_segment k m.store >>= λ store. Ok (machine m.calls store)

abbrev pub memory_copy : Machine → Result Machine Stop
memory_copy m =
    popped_words m.calls >>= λ q.
    copied q.0.0 q.0.1 q.0.2 m.store.memory m.store >>= λ store. Ok (machine q.1 store)

abbrev pub memory_fill : Machine → Result Machine Stop
memory_fill m =
    popped_words m.calls >>= λ q.
    filled q.0.0 q.0.1 q.0.2 m.store >>= λ store. Ok (machine q.1 store)

-- ---- threads

-- four bytes at a multiple of 4 that lie in memory
abbrev pub at_word : ℕ → List ℕ → Result (Unit {0}) Stop
at_word place memory =
    within place 4 (length memory) >>= λ _. unless_trap (place % 4 == 0) Unaligned

-- the number that stands at a place
abbrev pub word_at : ℕ → List ℕ → ℕ
word_at place memory = little_endian_of (window place 4 memory)

abbrev pub with_word : ℕ → ℕ → List ℕ → List ℕ
with_word place n memory = overlay place (little_endian 4 n) memory

-- none waits, so none is woken
abbrev pub notify : ℕ → Machine → Result Machine Stop
notify offset m =
    popped_word m.calls >>= λ count. popped_word count.1 >>= λ a.
    at_word (a.0 + offset) m.store.memory >>= λ _. Ok (machine (pushed (I32 0) a.1) m.store)

-- waits where the expected number stands, whatever the timeout, and else leaves 1
abbrev pub waits_unless : Bool → Calls → Store → Result Machine Stop
waits_unless true calls store = Ok (machine (pushed (I32 1) calls) store)
waits_unless false calls store = Err Waits

abbrev pub differs : ℕ → ℕ → Bool
differs a b = if a == b then false else true

abbrev pub wait : Program → ℕ → Machine → Result Machine Stop
wait p offset m =
    popped_long m.calls >>= λ timeout. popped_word timeout.1 >>= λ expected.
    popped_word expected.1 >>= λ a. at_word (a.0 + offset) m.store.memory >>= λ _.
    unless_trap p.is_shared Unshared >>= λ _.
    waits_unless (differs (word_at (a.0 + offset) m.store.memory) expected.0) a.1 m.store

abbrev pub atomic_store : ℕ → Machine → Result Machine Stop
atomic_store offset m =
    popped_word m.calls >>= λ n. popped_word n.1 >>= λ a.
    at_word (a.0 + offset) m.store.memory >>= λ _.
    Ok (machine a.1 (with_memory (with_word (a.0 + offset) n.0 m.store.memory) m.store))

-- where the expected number stands the new one is written, and what stood there is left
abbrev pub exchanged : ℕ → ℕ → ℕ → List ℕ → List ℕ
exchanged place expected new memory =
    if word_at place memory == expected then with_word place new memory else memory

abbrev pub compare_exchange : ℕ → Machine → Result Machine Stop
compare_exchange offset m =
    popped_words m.calls >>= λ q. at_word (q.0.0 + offset) m.store.memory >>= λ _.
    Ok (machine (pushed (I32 (word_at (q.0.0 + offset) m.store.memory)) q.1)
    (with_memory (exchanged (q.0.0 + offset) q.0.1 q.0.2 m.store.memory) m.store))
