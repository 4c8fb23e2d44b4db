-- What the numbers of segments are computed from.
use Rattle.std.specs.Prelude.{◌≡◌, ℕ, zero, suc, ◌+◌, ◌==◌, List, [], ◌∷◌, map, length, Some, position, slice_get}
use Rattle.std.specs.List.{range_with_len}
use Rattle.std.specs.Option.{option_map_or}
use Rattle.wl_linking.specs.Object.{Object}
use Rattle.wl_linking.specs.declared.error.LinkError.{LinkError}
use Rattle.wl_linking.specs.declared.error.LinkError.TheVariants.{TooLarge}
use Rattle.wl_linking.specs.declared.error.Quantity.TheVariants.{Address}
use Rattle.wl_data.specs.Segments.{SegmentLayout}
use Rattle.wl_index.specs.declared.index_map.WasmObjectIndexMap.{WasmObjectIndexMap}
use Rattle.wl_index.specs.declared.index.TheConstants.{WASM_DEAD_INDEX}
use Rattle.wl_bind.specs.IndexMaps.{IsIndexMap}
use Rattle.wl_symbols.specs.Input.{Input}
use Rattle.wl_places.specs.Addresses.{HasHighSymbol}
use Rattle.wl_places.specs.AddressSteps.{AreLowIn}
use Rattle.wl_places.specs.IndexedMaps.{IsWholeMap}
use Rattle.wl_places.specs.declared.addresses.AddressBook.{AddressBook}

-- the number of a segment in the output, which has these of its object, from that number on
abbrev pub number_among : List SegmentLayout → ℕ → ℕ → ℕ
number_among layouts first number =
    option_map_or (λ (place : ℕ). first + place)
    (position (λ (l : SegmentLayout). l.segment_index == number) layouts) WASM_DEAD_INDEX

-- those of so many segments
abbrev pub numbers_among : List SegmentLayout → ℕ → ℕ → List ℕ
numbers_among layouts first count = map (number_among layouts first) (range_with_len 0 count)

-- how many segments the output has of the objects before that one
abbrev pub segments_before : List (List SegmentLayout) → ℕ → ℕ
segments_before [] object = 0
segments_before (layouts ∷ objects) zero = 0
segments_before (layouts ∷ objects) (suc object) = length layouts + segments_before objects object

-- the map is that of the object of that number
pub record IsMapOf (input : Input) (object : ℕ) (m : WasmObjectIndexMap) : Type 0 where
  pub o : Object
  pub here : slice_get input.link.objects object ≡ Some o
  pub is : IsIndexMap input object o m

-- the whole map is
abbrev pub IsWholeMapOf : AddressBook → ℕ → WasmObjectIndexMap → Type 0
IsWholeMapOf book object m =
    (o : Object) → slice_get book.input.now.link.objects object ≡ Some o
    → IsWholeMap book.input.now book.placing.now object o m

-- no symbol of the object of that number lies past the last address
abbrev pub AreLowOf : AddressBook → ℕ → Type 0
AreLowOf book object =
    (o : Object) → slice_get book.input.now.link.objects object ≡ Some o → AreLowIn book object o

-- a data symbol lies past the last address, and that is reported
abbrev pub IsHighSymbol : AddressBook → LinkError → Type 0
IsHighSymbol book e = (e ≡ TooLarge Address) × HasHighSymbol book.input.now book.placing.now
