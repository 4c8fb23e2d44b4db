-- The size of memory, in pages (core specification, "Memory Instances").
use Rattle.std.specs.Prelude.{◌≡◌, ◌≤◌, ℕ, ◌*◌, ◌%◌, List, length}
use Rattle.wl_module.specs.declared.limits.TheConstants.{WASM_PAGE_SIZE}
use Rattle.wl_load.specs.declared.memory.TheConstants.{MAX_IMAGE_PAGES}

-- whole pages, and not more than an image may have
pub record AreWholePages (memory : List ℕ) : Type 0 where
  pub whole : length memory % WASM_PAGE_SIZE ≡ 0
  pub few : length memory ≤ MAX_IMAGE_PAGES * WASM_PAGE_SIZE
