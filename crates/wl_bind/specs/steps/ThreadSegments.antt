-- How the segments that hold data of a thread are marked.
use Rattle.std.specs.Prelude.{Bool, true, List, if◌then◌else◌, slice_set}
use Rattle.wl_custom.specs.Symbols.{Symbol, is_thread_data}

-- the marks, where one more symbol is seen
abbrev pub marked : List Bool → Symbol → List Bool
marked marks s = if is_thread_data s then slice_set marks s.index true else marks
