-- The addresses of the data names that the linker makes.
use Rattle.std.specs.Prelude.{ℕ, ◌^◌, ◌≤◌, Bool, Option, Some, None}
use Rattle.wl_index.specs.Memory.{heap_start}
use Rattle.wl_module.specs.declared.limits.TheConstants.{WASM_PAGE_SIZE}
use Rattle.wl_symbols.specs.declared.linker_symbol.WasmLinkerSymbol.{WasmLinkerSymbol}
use Rattle.wl_symbols.specs.declared.linker_symbol.WasmLinkerSymbol.TheVariants.{DataEnd, GlobalBase, HeapBase, HeapEnd, WasmFirstPageEnd, DsoHandle}

-- where the data begins and ends, the bytes of the stack, the heap's end if it is known, and
-- whether the stack comes before the data
pub record DataPlaces : Type 0 where
  pub data_start : ℕ
  pub data_end : ℕ
  pub stack_size : ℕ
  pub heap_end : Option ℕ
  pub stack_first : Bool

-- these five together
abbrev pub data_places : ℕ → ℕ → ℕ → Option ℕ → Bool → DataPlaces
data_places data_start data_end stack_size heap_end stack_first = record {
  data_start = data_start;
  data_end = data_end;
  stack_size = stack_size;
  heap_end = heap_end;
  stack_first = stack_first;
}

-- the address of a data name; other names have none
abbrev pub address_of : WasmLinkerSymbol → DataPlaces → Option ℕ
address_of DataEnd at = Some at.data_end
address_of GlobalBase at = Some at.data_start
address_of HeapBase at = Some (heap_start at.data_end at.stack_size at.stack_first)
address_of HeapEnd at = at.heap_end
address_of WasmFirstPageEnd at = Some WASM_PAGE_SIZE
address_of DsoHandle at = Some at.data_start
address_of _ at = None

-- an address is above the last one of memory
abbrev pub IsTooHigh : Option ℕ → Type 0
IsTooHigh None = ⊥
IsTooHigh (Some address) = 2 ^ 32 ≤ address
