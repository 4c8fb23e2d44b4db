-- The types of the output: the live types of the objects, and those of what the linker makes, each
-- once, by first occurrence.
use Rattle.std.specs.Prelude.{◌≡◌, ℕ, ◌+◌, ◌==◌, ◌&&◌, ◌||◌, Bool, false, List, [], ◌∷◌, ◌++◌, filter_map, if◌then◌else◌, Option, Some, None, slice_index}
use Rattle.std.specs.List.{list_any}
use Rattle.std.specs.Option.{option_map_or}
use Rattle.wl_module.specs.Types.{FunctionType}
use Rattle.wl_linking.specs.Object.{Object}
use Rattle.wl_custom.specs.RelocationTypes.{names_a_type}
use Rattle.wl_custom.specs.declared.symbols.WasmSymbolKind.TheVariants.{Func}
use Rattle.wl_symbols.specs.declared.linker_symbol.WasmLinkerSymbol.{WasmLinkerSymbol}
use Rattle.wl_symbols.specs.declared.linker_symbol.WasmLinkerSymbol.TheVariants.{CallCtors, InitTls}
use Rattle.wl_symbols.specs.ImportSlots.{ImportSlot, object_slots}
use Rattle.wl_types.specs.Types.{output_list}
use Rattle.wl_symbols.specs.Input.{Input}
use Rattle.wl_bind.specs.FunctionTypes.{type_number, type_of_made, stub_types}
use Rattle.wl_bind.specs.FunctionSpace.{kept_functions}
use Rattle.wl_bind.specs.Made.{is_made, has_init_memory}
use Rattle.wl_bind.specs.Parts.{by_object, AreRows, AreIndicesOf}
use Rattle.wl_symbols.specs.Relocations.{object_relocations}
use Rattle.wl_bind.specs.Undefined.{is_host_slot}
use Rattle.wl_bind.specs.declared.merging.MergedTypes.{MergedTypes}
use Rattle.wl_symbols.specs.declared.relocated.Relocated.{Relocated}

-- ---- live types of an object, by their numbers there

-- a kept function of the object has the type
abbrev pub is_type_of_function : Input → ℕ → Object → ℕ → Bool
is_type_of_function input object o ty =
    list_any (λ k. slice_index o.functions k == ty) (kept_functions input object o)

-- the slot is left to the host, and has the type
abbrev pub is_type_of_host : Input → ℕ → ImportSlot → Bool
is_type_of_host input ty t =
    is_host_slot input Func t && option_map_or (λ n. n == ty) (type_number t.item.entity) false

-- the relocation names the type
abbrev pub names_type : ℕ → Relocated → Bool
names_type ty r = names_a_type r.relocation.ty && (r.relocation.index == ty)

-- the type is live: a kept function has it, or a slot that is left to the host, or a kept
-- relocation of the object names it
abbrev pub is_live_type : Input → ℕ → Object → ℕ → Bool
is_live_type input object o ty =
    is_type_of_function input object o ty
    || list_any (is_type_of_host input ty) (object_slots object Func o)
    || list_any (names_type ty) (object_relocations input.live object o)

-- those of these types that pass, the first of which has that number; nothing for the others
abbrev pub types_if : (ℕ → Bool) → ℕ → List FunctionType → List (Option FunctionType)
types_if passes n [] = []
types_if passes n (ty ∷ types) =
    (if passes n then Some ty else None) ∷ types_if passes (n + 1) types

-- the types of an object, nothing for those that aren't live
abbrev pub local_types : Input → ℕ → Object → List (Option FunctionType)
local_types input object o = types_if (is_live_type input object o) 0 o.types

-- the live ones, in order
abbrev pub live_types : Input → ℕ → Object → List FunctionType
live_types input object o =
    filter_map (λ (ty : Option FunctionType). ty) (local_types input object o)

-- ---- types of what the linker makes

-- that of a function of that name, where the output has it
abbrev pub made_type : Input → WasmLinkerSymbol → List FunctionType
made_type input m =
    if is_made input m then filter_map type_of_made (m ∷ []) else []

-- the function that copies data for all threads takes nothing
abbrev pub init_memory_type : Input → List FunctionType
init_memory_type input =
    if has_init_memory input then record { params = []; results = [] } ∷ [] else []

-- those of all that it makes, in the order of the function space
abbrev pub made_types : Input → List FunctionType
made_types input =
    made_type input CallCtors ++ made_type input InitTls ++ init_memory_type input
    ++ stub_types input

-- ---- the types of the output

abbrev pub output_types : Input → List FunctionType
output_types input =
    output_list (by_object (live_types input) 0 input.link.objects ++ made_types input)

-- the indices of an object's types
abbrev pub AreTypeIndices : Input → ℕ → Object → List ℕ → Type 0
AreTypeIndices input object o indices =
    AreIndicesOf (output_types input) (local_types input object o) indices

-- the types of the output, and the indices of the types of each object
pub record IsMerged (input : Input) (m : MergedTypes) : Type 0 where
  pub types : m.types ≡ output_types input
  pub indices : AreRows (AreTypeIndices input) 0 input.link.objects m.indices
