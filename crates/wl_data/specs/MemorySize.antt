-- The size of the output's memory.
use Rattle.std.specs.Prelude.{◌≡◌, ◌≢◌, ◌⊎◌, ◌<◌, ℕ, ◌*◌, ◌/◌, ◌%◌, ◌==◌, ◌||◌, max, Bool, if◌then◌else◌, Option, Some, None, unwrap_or}
use Rattle.std.specs.Int.{div_ceil}
use Rattle.wl_linking.specs.declared.error.LinkError.{LinkError}
use Rattle.wl_linking.specs.declared.error.LinkError.TheVariants.{BadMemorySize}
use Rattle.wl_linking.specs.declared.error.MemoryBound.TheVariants.{Initial, Maximum}
use Rattle.wl_linking.specs.Steps.{Step, NoStep}
use Rattle.wl_module.specs.declared.limits.TheConstants.{WASM_PAGE_SIZE}
use Rattle.wl_data.specs.declared.memory.TheConstants.{MAX_INITIAL_BYTES, MAX_BYTES}
use Rattle.wl_index.specs.Memory.{stack_top}
use Rattle.wl_data.specs.Stack.{IsStackTooHigh}

-- ---- what the memory has to hold

-- where the data ends, the address from which it counts, and the stack
pub record MemoryNeeds : Type 0 where
  pub data_end : ℕ
  pub memory_base : ℕ
  pub stack_size : ℕ
  pub stack_first : Bool

-- these four together
abbrev pub needs_of : ℕ → ℕ → ℕ → Bool → MemoryNeeds
needs_of data_end memory_base stack_size stack_first = record {
  data_end = data_end;
  memory_base = memory_base;
  stack_size = stack_size;
  stack_first = stack_first;
}

-- the top of the stack, where it follows the data and has any byte
abbrev pub stack_need : ℕ → ℕ → Bool → ℕ
stack_need data_end stack_size stack_first =
    if stack_first || (stack_size == 0) then 0 else stack_top data_end stack_size

-- the bytes that the data, the address from which it counts and the stack need
abbrev pub needed_bytes : MemoryNeeds → ℕ
needed_bytes n =
    max (max n.data_end n.memory_base) (stack_need n.data_end n.stack_size n.stack_first)

-- ---- what it becomes

-- the pages that so many bytes take up, and at least as many as were there and are asked for
abbrev pub raised_pages : ℕ → ℕ → Option ℕ → ℕ
raised_pages initial needed asked =
    max (max initial (div_ceil needed WASM_PAGE_SIZE)) (unwrap_or asked 0 / WASM_PAGE_SIZE)

-- the maximum: the one that is asked for; else with shared memory one that the initial size doesn't
-- pass; else the one that was there
abbrev pub new_maximum : Option ℕ → Option ℕ → Bool → ℕ → Option ℕ
new_maximum given (Some bytes) shared pages = Some (bytes / WASM_PAGE_SIZE)
new_maximum given None shared pages = if shared then Some (max (unwrap_or given 0) pages) else given

-- ---- refusals

-- so many bytes were asked for at first, and that is no whole number of pages, too many, or fewer
-- than are needed
pub record IsBadInitial (asked : Option ℕ) (needed requested : ℕ) : Type 0 where
  pub asked_for : asked ≡ Some requested
  pub bad : (requested % WASM_PAGE_SIZE ≢ 0) ⊎ (MAX_INITIAL_BYTES < requested) ⊎ (requested < needed)

-- so many bytes were asked for at most, and that is no whole number of pages, too many, or fewer
-- than the memory has at first
pub record IsBadMaximum (asked : Option ℕ) (needed requested : ℕ) : Type 0 where
  pub asked_for : asked ≡ Some requested
  pub bad : (requested % WASM_PAGE_SIZE ≢ 0) ⊎ (MAX_BYTES < requested) ⊎ (requested < needed)

-- the size at first is refused, and so many bytes are needed
abbrev pub IsInitialRefused : Option ℕ → ℕ → LinkError → Type 0
IsInitialRefused asked needed e =
    (requested : ℕ) × IsBadInitial asked needed requested
    × (e ≡ BadMemorySize Initial requested needed)

-- the greatest size is refused, and so many bytes are needed
abbrev pub IsMaximumRefused : Option ℕ → ℕ → LinkError → Type 0
IsMaximumRefused asked needed e =
    (requested : ℕ) × IsBadMaximum asked needed requested
    × (e ≡ BadMemorySize Maximum requested needed)

-- why a memory of so many pages can't be made to hold what is needed and to have the sizes that are
-- asked for at first and at most: the first of these that is the case
abbrev pub memory_fault : MemoryNeeds → Option ℕ → Option ℕ → ℕ → LinkError → Type 0
memory_fault n asked most initial =
    Step (IsStackTooHigh (stack_need n.data_end n.stack_size n.stack_first))
    (Step (IsInitialRefused asked (needed_bytes n))
    (Step (IsMaximumRefused most (raised_pages initial (needed_bytes n) asked * WASM_PAGE_SIZE))
    NoStep))
