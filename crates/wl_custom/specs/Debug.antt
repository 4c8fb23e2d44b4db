-- Debug sections: custom sections whose names begin with .debug_.
use Rattle.std.specs.Prelude.{ℕ, List}

-- a debug section: its name, its bytes, and the number of its object in a plan, 0 until it has one
pub record DebugInput : Type 0 where
  pub name : List ℕ
  pub payload : List ℕ
  pub object_index : ℕ

-- the debug section of a name and a payload
abbrev pub debug_of : List ℕ → List ℕ → DebugInput
debug_of name payload = record { name = name; payload = payload; object_index = 0 }
