-- While the globals of the symbols of an object are found.
use Rattle.std.specs.Prelude.{◌&&◌, ℕ, Bool, true, List, if◌then◌else◌, Option, None, slice_set}
use Rattle.std.specs.Option.{option_map}
use Rattle.wl_custom.specs.RelocationTypes.{is_global_index}
use Rattle.wl_symbols.specs.Input.{Input}
use Rattle.wl_bind.specs.GlobalSpace.{GlobalEntry, GlobalOf}
use Rattle.wl_bind.specs.IndexMaps.{is_data_symbol, mem_place, func_place}
use Rattle.wl_bind.specs.declared.binding.GlobalTarget.TheVariants.{GotMem, GotFunc}
use Rattle.wl_symbols.specs.declared.relocated.Relocated.{Relocated}

-- the marks of the symbols, where one more relocation is seen
abbrev pub marked : List Bool → Relocated → List Bool
marked marks r =
    if is_global_index r.relocation.ty then slice_set marks r.relocation.index true else marks

-- the global of a symbol, if it is data that is marked
abbrev pub mem_global_if : Input → ℕ → ℕ → Bool → Option GlobalEntry
mem_global_if input object number mark =
    if is_data_symbol input object number && mark
    then option_map (λ k. GlobalOf (GotMem k)) (mem_place input object number) else None

-- the global of a symbol, if it is a function's that is marked
abbrev pub func_global_if : Input → ℕ → ℕ → Bool → Option GlobalEntry
func_global_if input object number mark =
    if mark then option_map (λ k. GlobalOf (GotFunc k)) (func_place input object number) else None
