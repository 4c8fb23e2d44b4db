-- While the functions are found that function symbols lead to.
use Rattle.std.specs.Prelude.{ℕ, ◌==◌, ◌||◌, not, List, map, length, if◌then◌else◌, Option, Some, None, unwrap_or, slice_get}
use Rattle.std.specs.List.{range_with_len}
use Rattle.std.specs.Option.{option_and_then}
use Rattle.wl_linking.specs.Object.{Object}
use Rattle.wl_custom.specs.Symbols.{Symbol as LinkedSymbol, is_undefined, is_weak, is_function}
use Rattle.wl_symbols.specs.Entries.{symbol_in}
use Rattle.wl_symbols.specs.Link.{Link}
use Rattle.wl_symbols.specs.Names.{def}
use Rattle.wl_symbols.specs.declared.entry.Definition.{Definition}
use Rattle.wl_symbols.specs.declared.entry.Definition.TheVariants.{Symbol, Made}
use Rattle.wl_custom.specs.Symbols.{is_defined_function}
use Rattle.wl_index.specs.declared.index.TheConstants.{WASM_DEAD_INDEX}
use Rattle.wl_bind.specs.declared.redirects.LocalFunction.{LocalFunction}

-- 4294967295 is the index of nothing
abbrev pub as_place : ℕ → Option ℕ
as_place index = if index == WASM_DEAD_INDEX then None else Some index

-- the index of a function of an object, where the output has it
abbrev pub row_place : List (List ℕ) → LocalFunction → Option ℕ
row_place rows f =
    option_and_then
    (λ row. option_and_then as_place (slice_get row f.index))
    (slice_get rows f.object)

-- the function of an object that has the index of the symbol
abbrev pub at_index : ℕ → LinkedSymbol → LocalFunction
at_index object s = record { object = object; index = s.index }

-- the function that an object defines, where this is its definition
abbrev pub definition_function : List Object → Definition → Option LocalFunction
definition_function objects (Symbol object number) =
    option_and_then
    (λ (s : LinkedSymbol). if is_defined_function s then Some (at_index object s) else None)
    (symbol_in objects object number)
definition_function objects (Made m) = None

-- the function of an object that a function symbol leads to
abbrev pub leads_to : Link → ℕ → ℕ → LinkedSymbol → LocalFunction
leads_to link object number s =
    if is_undefined s || not (is_weak s) then at_index object s
    else unwrap_or (definition_function link.objects (def link object number)) (at_index object s)

-- the index of the function that the symbol of those numbers leads to
abbrev pub redirect_of : Link → List (List ℕ) → ℕ → ℕ → Option ℕ
redirect_of link rows object number =
    option_and_then
    (λ (s : LinkedSymbol).
    if is_function s.kind then row_place rows (leads_to link object number s) else None)
    (symbol_in link.objects object number)

-- those of the symbols of an object
abbrev pub redirects_of : Link → List (List ℕ) → ℕ → Object → List (Option ℕ)
redirects_of link rows object o =
    map (redirect_of link rows object) (range_with_len 0 (length o.symbols))
