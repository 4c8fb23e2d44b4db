-- A sink in memory.
use Rattle.std.specs.Prelude.{◌≡◌, ◌==◌, ◌<◌, ◌≤◌, ◌+◌, ◌-◌, ℕ, List, [], Bool, length, min, Some}
use Rattle.std.specs.List.{list_any}
use Rattle.wl_files.specs.Causes.{one_more}
use Rattle.wl_files.specs.Sink.{SinkState}
use Rattle.wl_files.specs.declared.sink.MemSink.{MemSink}

-- the bytes that it took
abbrev pub sink_bytes : MemSink → List ℕ
sink_bytes s = s.bytes.items

-- the calls that are to fail, counted from 1
abbrev pub failing_writes : MemSink → List ℕ
failing_writes s = s.fails.items

-- how many calls were made
abbrev pub writes_made : MemSink → ℕ
writes_made s = s.calls

-- the next call is one of those that are to fail
abbrev pub write_is_to_fail : MemSink → Bool
write_is_to_fail s = list_any (λ call. call == one_more (writes_made s)) (failing_writes s)

-- how many bytes a call takes at most
abbrev pub write_limit : MemSink → ℕ
write_limit s = s.piece

-- how many bytes it has room for, those that it took among them
abbrev pub whole_room : MemSink → ℕ
whole_room s = s.room

-- how many bytes a call takes of a piece of this length
abbrev pub write_count : MemSink → ℕ → ℕ
write_count s piece_length =
    min (min piece_length (write_limit s)) (whole_room s - length (sink_bytes s))

-- it says which bytes it took
abbrev pub sink_state : MemSink → SinkState
sink_state s = record { taken = Some (sink_bytes s); faults = s.faults }

-- no call is to fail, each takes something, and there is room
abbrev pub TakesMore : MemSink → ℕ → Type 0
TakesMore s n =
    (failing_writes s ≡ []) × (0 < write_limit s) × (length (sink_bytes s) + n ≤ whole_room s)

-- it took nothing, no call was made, and none is to fail
pub record IsNewSink (room piece : ℕ) (s : MemSink) : Type 0 where
  pub state : sink_state s ≡ record { taken = Some []; faults = 0 }
  pub failing : failing_writes s ≡ []
  pub calls : writes_made s ≡ 0
  pub whole : whole_room s ≡ room
  pub limit : write_limit s ≡ piece

-- all but the calls that are to fail is as before
pub record IsSameSink (old new : MemSink) : Type 0 where
  pub state : sink_state new ≡ sink_state old
  pub calls : writes_made new ≡ writes_made old
  pub whole : whole_room new ≡ whole_room old
  pub limit : write_limit new ≡ write_limit old

-- a call was made, and what was set for the calls stays
pub record IsOneWrite (old new : MemSink) : Type 0 where
  pub made : writes_made new ≡ one_more (writes_made old)
  pub failing : failing_writes new ≡ failing_writes old
  pub whole : whole_room new ≡ whole_room old
  pub limit : write_limit new ≡ write_limit old
