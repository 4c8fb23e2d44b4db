-- The indices of what objects define, by the first index of each object.
use Rattle.std.specs.Prelude.{ℕ, ◌+◌, List, [], ◌∷◌, length, unwrap_or, slice_get}
use Rattle.std.specs.List.{filter, range_with_len}
use Rattle.std.specs.Option.{option_map_or}
use Rattle.wl_custom.specs.declared.symbols.WasmSymbolKind.{WasmSymbolKind}
use Rattle.wl_custom.specs.declared.symbols.WasmSymbolKind.TheVariants.{Func, Global}
use Rattle.wl_linking.specs.Object.{Object}
use Rattle.wl_symbols.specs.Live.{ordinal_of}
use Rattle.wl_symbols.specs.declared.units.WasmGcUnit.{WasmGcUnit}
use Rattle.wl_symbols.specs.declared.units.WasmGcUnit.TheVariants.{DefinedFunction, DefinedGlobal}
use Rattle.wl_index.specs.declared.index.TheConstants.{WASM_DEAD_INDEX}
use Rattle.wl_symbols.specs.Input.{Input, keeps}
use Rattle.wl_bind.specs.FunctionSpace.{function_parts, function_space}
use Rattle.wl_bind.specs.GlobalSpace.{global_parts, global_space}
use Rattle.wl_bind.specs.Parts.{lengths_of, total}
use Rattle.wl_bind.specs.declared.own_indices.Own.{Own}
use Rattle.wl_bind.specs.declared.own_indices.Own.TheVariants.{Functions, Globals}

-- the kind of the slots and symbols of these
abbrev pub own_kind : Own → WasmSymbolKind
own_kind Functions = Func
own_kind Globals = Global

-- the unit of that number
abbrev pub own_unit : Own → ℕ → WasmGcUnit
own_unit Functions number = DefinedFunction number
own_unit Globals number = DefinedGlobal number

-- how many an object defines
abbrev pub own_count : Own → Object → ℕ
own_count Functions o = length o.functions
own_count Globals o = length o.globals

-- the numbers of those that are kept
abbrev pub kept_own : Input → Own → ℕ → Object → List ℕ
kept_own input own object o =
    filter (λ k. keeps input object (own_unit own k)) (range_with_len 0 (own_count own o))

-- the first index of each of these objects, the first of which has that number, and takes that
-- index
abbrev pub firsts_from : Input → Own → ℕ → ℕ → List Object → List ℕ
firsts_from input own index object [] = []
firsts_from input own index object (o ∷ objects) =
    index ∷ firsts_from input own (index + length (kept_own input own object o)) (object + 1)
    objects

-- how many are kept of these objects, the first of which has that number
abbrev pub kept_count : Input → Own → ℕ → List Object → ℕ
kept_count input own object [] = 0
kept_count input own object (o ∷ objects) =
    length (kept_own input own object o) + kept_count input own (object + 1) objects

-- how many entries of the space no object defines; they come first
abbrev pub own_start : Input → Own → ℕ
own_start input Functions = total (lengths_of (function_parts input))
own_start input Globals = total (lengths_of (global_parts input))

-- the first index of each object, after what no object defines
abbrev pub own_firsts : Input → Own → List ℕ
own_firsts input own = firsts_from input own (own_start input own) 0 input.link.objects

-- how many entries the space has
abbrev pub space_length : Input → Own → ℕ
space_length input Functions = length (function_space input)
space_length input Globals = length (global_space input)

-- the index of a kept one: so many past the first of its object
abbrev pub own_index : Input → List ℕ → ℕ → WasmGcUnit → ℕ
own_index input firsts object unit =
    option_map_or (λ n. unwrap_or (slice_get firsts object) 0 + n)
    (ordinal_of input.live (record { object = object; unit = unit })) WASM_DEAD_INDEX
