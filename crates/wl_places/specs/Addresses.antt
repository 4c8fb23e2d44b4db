-- Where data symbols lie, and which number each segment has in the output.
use Rattle.std.specs.Prelude.{◌≡◌, ◌⊎◌, ◌≤◌, ℕ, ◌+◌, ◌==◌, ◌^◌, List, [], ◌∷◌, ◌++◌, map, length, if◌then◌else◌, Option, Some, None, find, Contains}
use Rattle.std.specs.List.{range_with_len, slice_index_or}
use Rattle.std.specs.Option.{option_map_or}
use Rattle.wl_linking.specs.Object.{Object}
use Rattle.wl_custom.specs.Symbols.{Symbol as LinkedSymbol, is_defined_data, is_absolute}
use Rattle.wl_linking.specs.declared.error.LinkError.{LinkError}
use Rattle.wl_linking.specs.declared.error.LinkError.TheVariants.{TooLarge}
use Rattle.wl_linking.specs.declared.error.Quantity.TheVariants.{Address}
use Rattle.wl_symbols.specs.Entries.{symbol_in}
use Rattle.wl_symbols.specs.LinkerAddresses.{address_of, data_places, IsTooHigh}
use Rattle.wl_symbols.specs.Names.{def}
use Rattle.wl_symbols.specs.declared.entry.Definition.{Definition}
use Rattle.wl_symbols.specs.declared.entry.Definition.TheVariants.{Symbol, Made}
use Rattle.wl_symbols.specs.declared.linker_symbol.WasmLinkerSymbol.{WasmLinkerSymbol}
use Rattle.wl_data.specs.DataPlaces.{lies_in_memory}
use Rattle.wl_data.specs.Segments.{SegmentLayout}
use Rattle.wl_index.specs.declared.data_address.WasmDataAddress.{WasmDataAddress}
use Rattle.wl_index.specs.declared.data_address.WasmDataAddress.TheVariants.{Missing, Placed, Passive, TlsOffset}
use Rattle.wl_symbols.specs.declared.units.WasmGcUnit.TheVariants.{DataSegment}
use Rattle.wl_bind.specs.ExportedAddresses.{exported_addresses}
use Rattle.wl_bind.specs.IndexMaps.{is_data_symbol}
use Rattle.wl_symbols.specs.Input.{Input, keeps}
use Rattle.wl_bind.specs.Parts.{AreIndicesOf}
use Rattle.wl_places.specs.declared.placing.Placing.{Placing}

-- ---- segments

-- where a segment of the output begins
abbrev pub start_of : SegmentLayout → WasmDataAddress
start_of l =
    if lies_in_memory l then Placed l.output_memory_offset
    else if l.tls_template then TlsOffset l.output_memory_offset else Passive

-- the segments that the output has of the object of that number
abbrev pub layouts_of : Placing → ℕ → List SegmentLayout
layouts_of g object = slice_index_or g.places.layouts object []

-- the one of that number among these
abbrev pub segment_among : List SegmentLayout → ℕ → Option SegmentLayout
segment_among layouts number = find (λ (l : SegmentLayout). l.segment_index == number) layouts

-- where it begins; nowhere where the output doesn't have it
abbrev pub segment_start : List SegmentLayout → ℕ → WasmDataAddress
segment_start layouts number = option_map_or start_of (segment_among layouts number) Missing

-- those of an object, by their numbers there
abbrev pub segment_starts : Placing → ℕ → Object → List WasmDataAddress
segment_starts g object o =
    map (segment_start (layouts_of g object)) (range_with_len 0 (length o.segments))

-- ---- numbers of segments

-- the segments of the output by object and number, those of these objects, the first of which has
-- that number
abbrev pub numbers_from : ℕ → List (List SegmentLayout) → List (ℕ × ℕ)
numbers_from object [] = []
numbers_from object (layouts ∷ objects) =
    map (λ (l : SegmentLayout). (object, l.segment_index)) layouts
    ++ numbers_from (object + 1) objects

-- all of them: the number of a segment in the output is its place
abbrev pub segment_space : Placing → List (ℕ × ℕ)
segment_space g = numbers_from 0 g.places.layouts

-- the segment of that number of an object, where it is kept
abbrev pub segment_entry : Input → ℕ → ℕ → Option (ℕ × ℕ)
segment_entry input object number =
    if keeps input object (DataSegment number) then Some (object, number) else None

-- those of an object
abbrev pub local_segments : Input → ℕ → Object → List (Option (ℕ × ℕ))
local_segments input object o =
    map (segment_entry input object) (range_with_len 0 (length o.segments))

-- the numbers of an object's segments in the output
abbrev pub AreSegmentIndices : Input → Placing → ℕ → Object → List ℕ → Type 0
AreSegmentIndices input g object o indices =
    AreIndicesOf (segment_space g) (local_segments input object o) indices

-- ---- data

-- so many bytes past an address
abbrev pub behind : WasmDataAddress → ℕ → WasmDataAddress
behind Missing offset = Missing
behind (Placed place) offset = Placed (place + offset)
behind Passive offset = Passive
behind (TlsOffset place) offset = TlsOffset (place + offset)

-- the address of data that an object defines: on its segment, or the one that it gives itself
abbrev pub defined_data : Placing → ℕ → LinkedSymbol → WasmDataAddress
defined_data g object s =
    if is_absolute s then Placed s.offset
    else behind (segment_start (layouts_of g object) s.index) s.offset

-- the address of what a symbol of an object defines, if that is data
abbrev pub data_by : Placing → ℕ → LinkedSymbol → WasmDataAddress
data_by g object s =
    if is_defined_data s then defined_data g object s else Missing

-- the address of data that the linker makes; other things have none
abbrev pub linker_address : Input → Placing → WasmLinkerSymbol → Option ℕ
linker_address input g m =
    address_of m (data_places g.places.data_start g.places.data_end input.link.args.z_stack_size
    (Some g.heap_end) input.link.args.stack_first)

-- the address of a definition
abbrev pub address_of_definition : Input → Placing → Definition → WasmDataAddress
address_of_definition input g (Symbol object number) =
    option_map_or (data_by g object) (symbol_in input.link.objects object number) Missing
address_of_definition input g (Made m) = option_map_or Placed (linker_address input g m) Missing

-- the address of a data symbol: that of what it stands for; other symbols have none
abbrev pub symbol_address : Input → Placing → ℕ → ℕ → WasmDataAddress
symbol_address input g object number =
    if is_data_symbol input object number
    then address_of_definition input g (def input.link object number) else Missing

-- those of the symbols of an object
abbrev pub symbol_addresses : Input → Placing → ℕ → Object → List WasmDataAddress
symbol_addresses input g object o =
    map (symbol_address input g object) (range_with_len 0 (length o.symbols))

-- ---- addresses that are none

-- it is past the last one
abbrev pub IsHigh : WasmDataAddress → Type 0
IsHigh Missing = ⊥
IsHigh (Placed place) = 2 ^ 32 ≤ place
IsHigh Passive = ⊥
IsHigh (TlsOffset place) = 2 ^ 32 ≤ place

-- a data symbol lies past the last address
pub record HasHighSymbol (input : Input) (g : Placing) : Type 0 where
  pub object : ℕ
  pub number : ℕ
  pub high : IsHigh (symbol_address input g object number)

-- exported data of the linker's does
pub record HasHighExport (input : Input) (g : Placing) : Type 0 where
  pub made : WasmLinkerSymbol
  pub exported : Contains (exported_addresses input.link.args) made
  pub high : IsTooHigh (linker_address input g made)

-- one of the two is the case
abbrev pub IsAddressTooHigh : Input → Placing → LinkError → Type 0
IsAddressTooHigh input g e =
    (e ≡ TooLarge Address) × (HasHighSymbol input g ⊎ HasHighExport input g)
