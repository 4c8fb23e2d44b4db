-- Where stack and heap lie after the data.
use Rattle.std.specs.Prelude.{◌≡◌, ◌≤◌, ℕ, ◌+◌, ◌^◌, Bool, if◌then◌else◌, Option, Some, None}
use Rattle.std.specs.Int.{next_multiple_of}
use Rattle.wl_index.specs.declared.memory.TheConstants.{STACK_ALIGNMENT}

-- the first place for the stack or the heap after the data
abbrev pub behind_data : ℕ → ℕ
behind_data data_end = next_multiple_of data_end STACK_ALIGNMENT

-- where the stack ends that follows the data
abbrev pub stack_top : ℕ → ℕ → ℕ
stack_top data_end stack_size = behind_data data_end + stack_size

-- where the stack begins: it grows downwards
abbrev pub stack_start : ℕ → ℕ → Bool → ℕ
stack_start data_end stack_size stack_first =
    if stack_first then stack_size else stack_top data_end stack_size

-- where the heap begins: after the data, or after the stack where that follows the data
abbrev pub heap_start : ℕ → ℕ → Bool → ℕ
heap_start data_end stack_size stack_first =
    if stack_first then behind_data data_end else stack_top data_end stack_size

-- the answer is the place where that fits 32 bits, and else there is none
abbrev pub IsAddress : ℕ → Option ℕ → Type 0
IsAddress place (Some address) = address ≡ place
IsAddress place None = 2 ^ 32 ≤ place
