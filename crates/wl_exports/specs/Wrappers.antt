-- Which exports are wrapped: the constructors run before each call.
use Rattle.std.specs.Prelude.{ℕ, ◌&&◌, ◌||◌, Bool, true, false, not, List, [], if◌then◌else◌}
use Rattle.std.specs.List.{filter, list_any}
use Rattle.std.specs.Str.{bytes_eq}
use Rattle.wl_module.specs.Exports.{Exported}
use Rattle.wl_module.specs.Imports.{Imported}
use Rattle.wl_module.specs.declared.imports.ExternalKind.TheVariants as external
use Rattle.wl_linking.specs.Object.{Object}
use Rattle.wl_linking.specs.Spaces.{is_of_kind}
use Rattle.wl_symbols.specs.LinkerNames.{name_of}
use Rattle.wl_symbols.specs.declared.linker_symbol.WasmLinkerSymbol.TheVariants.{CallCtors, InitTls}
use Rattle.wl_bind.specs.FunctionSpace.{FunctionEntry, FunctionOf, InitMemory}
use Rattle.wl_symbols.specs.Input.{Input}
use Rattle.wl_bind.specs.Made.{has_init_functions}
use Rattle.wl_bind.specs.declared.binding.FunctionTarget.TheVariants.{Defined, Made, Host, Stub}
use Rattle.wl_exports.specs.Exports.{ExportEntry, Entity, OfFunction, OfGlobal, OfTable, OfMemory, exports}

-- the name is that of what calls the constructors
abbrev pub is_ctors_name : List ℕ → Bool
is_ctors_name = bytes_eq (name_of CallCtors)

-- the object calls the constructors itself: it imports a function of that name, or exports
-- something
abbrev pub calls_ctors : Object → Bool
calls_ctors o =
    list_any (λ (i : Imported). is_of_kind external.Func i.entity && is_ctors_name i.name) o.imports
    || list_any (λ (e : Exported). is_ctors_name e.name) o.exports

-- functions that run at the start are called around each export: there are some, no object calls
-- them itself, and no export has their name
abbrev pub wraps : Input → Bool
wraps input =
    has_init_functions input && not (list_any calls_ctors input.link.objects)
    && not (list_any (λ (e : ExportEntry). is_ctors_name e.name) (exports input))

-- a function that isn't imported
abbrev pub is_own : FunctionEntry → Bool
is_own (FunctionOf (Defined object function)) = true
is_own (FunctionOf (Made m)) = true
is_own (FunctionOf (Host object slot)) = false
is_own (FunctionOf (Stub object slot)) = true
is_own InitMemory = true

abbrev pub is_own_function : Entity → Bool
is_own_function (OfFunction f) = is_own f
is_own_function (OfGlobal g) = false
is_own_function OfTable = false
is_own_function OfMemory = false

-- an export of such a function, but for what fills the block of a thread
abbrev pub can_wrap : ExportEntry → Bool
can_wrap e = is_own_function e.entity && not (bytes_eq (name_of InitTls) e.name)

-- the exports that are wrapped, in order
abbrev pub wrapped : Input → List ExportEntry
wrapped input = if wraps input then filter can_wrap (exports input) else []
