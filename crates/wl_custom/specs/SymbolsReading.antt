-- Reading a symbol table, on lists.
use Rattle.std.specs.Prelude.{ℕ, Bool, List, Result}
use Rattle.wl_bytes.specs.Cursor.{Cursor}
use Rattle.wl_bytes.specs.Grammar.{then_at, map_at}
use Rattle.wl_bytes.specs.Lists.{number_at, one_byte_at, list_at, whole_of}
use Rattle.wl_bytes.specs.Checks.{when_at}
use Rattle.wl_bytes.specs.Words.{placed_name_at}
use Rattle.wl_bytes.specs.declared.read_error.ReadError.{ReadError}
use Rattle.wl_custom.specs.Verdict.{judged_at}
use Rattle.wl_custom.specs.Symbols.{Symbol, SymbolDetails, SymbolContext, symbol_context, SymbolParts, symbol_of, symbol_kind_verdict, based_name, name_or_none, extent_or_none, is_named, has_extent, numbered_from, located_from, sectioned_from}
use Rattle.wl_custom.specs.declared.symbols.WasmSymbolKind.{WasmSymbolKind}
use Rattle.wl_custom.specs.declared.symbols.WasmSymbolKind.TheVariants.{Func, Data, Global, Section, Event, Table}

-- a name with its range, read from a place
abbrev pub based_name_at : ℕ → Cursor → Result ((List ℕ × (ℕ × ℕ)) × Cursor) ReadError
based_name_at base c = map_at (based_name base) placed_name_at c

-- a name where there is to be one, read from a place
unfoldable pub name_where_at : ℕ → Bool → Cursor → Result ((List ℕ × (ℕ × ℕ)) × Cursor) ReadError
name_where_at base named c = map_at name_or_none (when_at (based_name_at base) named) c

-- three numbers, read from a place
abbrev pub extent_at : Cursor → Result ((ℕ × (ℕ × ℕ)) × Cursor) ReadError
extent_at c = then_at number_at (λ _. then_at number_at (λ _. number_at)) c

-- three numbers where they are to be, read from a place
unfoldable pub extent_where_at : Bool → Cursor → Result ((ℕ × (ℕ × ℕ)) × Cursor) ReadError
extent_where_at defined c = map_at extent_or_none (when_at extent_at defined) c

-- an index and perhaps a name, read from a place
unfoldable pub numbered_at : ℕ → ℕ → Cursor → Result (SymbolDetails × Cursor) ReadError
numbered_at base flags c =
    map_at numbered_from (then_at number_at (λ _. name_where_at base (is_named flags))) c

-- a name and perhaps where data lies, read from a place
unfoldable pub located_at : ℕ → ℕ → Cursor → Result (SymbolDetails × Cursor) ReadError
located_at base flags c =
    map_at located_from (then_at (based_name_at base) (λ _. extent_where_at (has_extent flags))) c

-- the number of a section, read from a place
unfoldable pub sectioned_at : Cursor → Result (SymbolDetails × Cursor) ReadError
sectioned_at c = map_at sectioned_from number_at c

-- what follows the flags, read from a place
abbrev pub details_at : WasmSymbolKind → SymbolContext → Cursor
    → Result (SymbolDetails × Cursor) ReadError
details_at Func context c = numbered_at context.base context.flags c
details_at Data context c = located_at context.base context.flags c
details_at Global context c = numbered_at context.base context.flags c
details_at Section context c = sectioned_at c
details_at Event context c = sectioned_at c
details_at Table context c = numbered_at context.base context.flags c

-- the parts of a symbol, read from a place
abbrev pub parts_at : ℕ → Cursor → Result (SymbolParts × Cursor) ReadError
parts_at base c =
    then_at one_byte_at (λ byte. then_at (judged_at (symbol_kind_verdict byte))
    (λ kind. then_at number_at (λ flags. details_at kind (symbol_context base flags)))) c

-- a symbol, read from a place
unfoldable pub symbol_at : ℕ → Cursor → Result (Symbol × Cursor) ReadError
symbol_at base c = map_at symbol_of (parts_at base) c

-- a symbol table, read from its payload
abbrev pub symbols_of : ℕ → List ℕ → Result (List Symbol) ReadError
symbols_of base payload = whole_of (list_at (symbol_at base)) payload
