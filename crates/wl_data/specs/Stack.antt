-- Places of the stack and the heap that are no addresses.
use Rattle.std.specs.Prelude.{◌≡◌, ◌≢◌, ◌≤◌, ◌<◌, ℕ, ◌%◌, ◌^◌, Result, Ok, Err}
use Rattle.wl_linking.specs.declared.error.LinkError.{LinkError}
use Rattle.wl_linking.specs.declared.error.LinkError.TheVariants.{TooLarge, BadStackSize}
use Rattle.wl_linking.specs.declared.error.Quantity.{Quantity}
use Rattle.wl_linking.specs.declared.error.Quantity.TheVariants.{Address}
use Rattle.wl_index.specs.declared.memory.TheConstants.{STACK_ALIGNMENT}

-- the answer is the value where that fits 32 bits, and else that quantity is reported as too large
abbrev pub AnswersUpTo : Quantity → ℕ → Result ℕ LinkError → Type 0
AnswersUpTo quantity value (Ok answer) = (answer ≡ value) × (value < 2 ^ 32)
AnswersUpTo quantity value (Err e) = (e ≡ TooLarge quantity) × (2 ^ 32 ≤ value)

-- the size of the stack is no multiple of its alignment
abbrev pub IsBadStackSize : ℕ → LinkError → Type 0
IsBadStackSize stack_size e = (e ≡ BadStackSize stack_size) × (stack_size % STACK_ALIGNMENT ≢ 0)

-- the stack begins past the last address
abbrev pub IsStackTooHigh : ℕ → LinkError → Type 0
IsStackTooHigh start e = (e ≡ TooLarge Address) × (2 ^ 32 ≤ start)
