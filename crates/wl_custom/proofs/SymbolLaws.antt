-- The laws of symbol tables.
use Rattle.std.specs.Prelude.{ℕ, Bool}
use Rattle.wl_bytes.proofs.Readings.{IsReading}
use Rattle.wl_bytes.specs.Lists.{NumberFault, WordFault, Listed, ListedFault, list_at}
use Rattle.wl_bytes.specs.Checks.{WhenFault}
use Rattle.wl_bytes.proofs.ReadingLaws.{both, seen}
use Rattle.wl_bytes.proofs.ListLaws.{number_reading, one_byte_reading, list_reading, whole_reading, IsWholeReading}
use Rattle.wl_bytes.proofs.CheckLaws.{when_reading, placed_name_reading}
use Rattle.wl_custom.specs.Symbols.{symbol_of, symbol_kind_verdict, based_name, IsBasedName, name_or_none, extent_or_none, is_named, has_extent, numbered_from, located_from, sectioned_from, IsNameWhere, IsExtent, ExtentFault, IsExtentWhere, IsNumbered, IsLocated, SymbolContext, symbol_context, IsDetails, NumberedFault, LocatedFault, DetailsFault, AreParts, IsSymbol, SymbolFault, AreSymbols, SymbolsFault}
use Rattle.wl_custom.specs.SymbolsReading.{based_name_at, name_where_at, extent_at, extent_where_at, numbered_at, located_at, sectioned_at, details_at, parts_at, symbol_at, symbols_of}
use Rattle.wl_custom.specs.declared.symbols.WasmSymbolKind.{WasmSymbolKind}
use Rattle.wl_custom.specs.declared.symbols.WasmSymbolKind.TheVariants.{Func, Data, Global, Section, Event, Table}
use Rattle.wl_custom.proofs.Exact.{judged_reading}

-- ---- the parts of what follows the flags

based_name_reading : (base : ℕ) → IsReading (IsBasedName base) WordFault (based_name_at base)
based_name_reading base = seen (based_name base) placed_name_reading

name_where_reading : (base : ℕ) (named : Bool) → IsReading (IsNameWhere base named) (WhenFault WordFault named) (name_where_at base named)
unfolding name_where_at
name_where_reading base named = seen name_or_none (when_reading _ _ _ (based_name_reading base) named)

extent_reading : IsReading IsExtent ExtentFault extent_at
extent_reading = both number_reading (λ _. both number_reading (λ _. number_reading))

extent_where_reading : (defined : Bool) → IsReading (IsExtentWhere defined) (WhenFault ExtentFault defined) (extent_where_at defined)
unfolding extent_where_at
extent_where_reading defined = seen extent_or_none (when_reading _ _ _ extent_reading defined)

numbered_reading : (base flags : ℕ) → IsReading (IsNumbered base flags) (NumberedFault flags) (numbered_at base flags)
unfolding numbered_at
numbered_reading base flags = seen numbered_from (both number_reading (λ _. name_where_reading base (is_named flags)))

located_reading : (base flags : ℕ) → IsReading (IsLocated base flags) (LocatedFault base flags) (located_at base flags)
unfolding located_at
located_reading base flags = seen located_from (both (based_name_reading base) (λ _. extent_where_reading (has_extent flags)))

section_reading : (context : SymbolContext) → IsReading (IsDetails Section context) NumberFault sectioned_at
unfolding sectioned_at
section_reading context = seen sectioned_from number_reading

pub details_reading : (kind : WasmSymbolKind) (context : SymbolContext) → IsReading (IsDetails kind context) (DetailsFault kind context) (details_at kind context)
details_reading Func context = numbered_reading context.base context.flags
details_reading Data context = located_reading context.base context.flags
details_reading Global context = numbered_reading context.base context.flags
details_reading Section context = section_reading context
details_reading Event context = section_reading context
details_reading Table context = numbered_reading context.base context.flags

-- ---- symbols

parts_reading : (base : ℕ) → IsReading (AreParts base) (SymbolFault base) (parts_at base)
parts_reading base = both one_byte_reading (λ byte. both (judged_reading (symbol_kind_verdict byte)) (λ kind. both number_reading (λ flags. details_reading kind (symbol_context base flags))))

pub symbol_reading : (base : ℕ) → IsReading (IsSymbol base) (SymbolFault base) (symbol_at base)
unfolding symbol_at
symbol_reading base = seen symbol_of (parts_reading base)

pub symbols_reading : (base : ℕ) → IsWholeReading (AreSymbols base) (SymbolsFault base) (symbols_of base)
symbols_reading base = whole_reading (Listed (IsSymbol base)) (ListedFault (IsSymbol base) (SymbolFault base)) (list_at (symbol_at base)) (list_reading (IsSymbol base) (SymbolFault base) (symbol_at base) (symbol_reading base))
