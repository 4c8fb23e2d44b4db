-- What addresses are computed from.
use Rattle.std.specs.Prelude.{◌≡◌, ◌<◌, ℕ, List, map, length, Some, slice_get}
use Rattle.std.specs.List.{range_with_len}
use Rattle.wl_linking.specs.Object.{Object}
use Rattle.wl_custom.specs.Symbols.{Symbol as LinkedSymbol}
use Rattle.wl_linking.specs.declared.error.LinkError.{LinkError}
use Rattle.wl_linking.specs.declared.error.LinkError.TheVariants.{TooLarge}
use Rattle.wl_linking.specs.declared.error.Quantity.TheVariants.{Address}
use Rattle.wl_data.specs.Segments.{KeptData, SegmentLayout}
use Rattle.wl_index.specs.declared.data_address.WasmDataAddress.{WasmDataAddress}
use Rattle.wl_symbols.specs.Input.{Input}
use Rattle.wl_bind.specs.Parts.{AreRows}
use Rattle.wl_places.specs.Addresses.{segment_start, segment_starts, symbol_address, IsHigh}
use Rattle.wl_places.specs.Placing.{IsPlacing}
use Rattle.wl_places.specs.declared.addresses.AddressBook.{AddressBook}
use Rattle.wl_places.specs.declared.placing.Placing.{Placing}

-- the number that a segment has in its object, as it is kept and as it is laid out
abbrev pub original_of : KeptData → ℕ
original_of s = s.original

abbrev pub index_of : SegmentLayout → ℕ
index_of l = l.segment_index

-- each of these segments is one of so many, and no other one of them is the same
pub record AreOnce (count : ℕ) (layouts : List SegmentLayout) : Type 0 where
  pub within : (i : ℕ) (l : SegmentLayout) → slice_get layouts i ≡ Some l → l.segment_index < count
  pub once : (i k : ℕ) (l m : SegmentLayout) → slice_get layouts i ≡ Some l
      → slice_get layouts k ≡ Some m → l.segment_index ≡ m.segment_index → i ≡ k

-- where each of so many segments begins, of which the output has these
abbrev pub starts_among : List SegmentLayout → ℕ → List WasmDataAddress
starts_among layouts count = map (segment_start layouts) (range_with_len 0 count)

-- where the segments of an object begin
abbrev pub AreObjectStarts : Placing → ℕ → Object → List WasmDataAddress → Type 0
AreObjectStarts g object o starts = starts ≡ segment_starts g object o

-- where those of all objects begin
abbrev pub AreStarts : Input → Placing → List (List WasmDataAddress) → Type 0
AreStarts input g starts = AreRows (AreObjectStarts g) 0 input.link.objects starts

-- the book is that of the link, where things lie there
pub record IsBook (book : AddressBook) : Type 0 where
  pub placed : IsPlacing book.input.now book.placing.now
  pub starts : AreStarts book.input.now book.placing.now book.starts.now

-- the object of that number has a segment of that number
pub record HasSegment (objects : List Object) (object number : ℕ) : Type 0 where
  pub o : Object
  pub here : slice_get objects object ≡ Some o
  pub within : number < length o.segments

-- the object has the symbol
pub record HasSymbol (o : Object) (s : LinkedSymbol) : Type 0 where
  pub number : ℕ
  pub at : slice_get o.symbols number ≡ Some s

-- the object of that number has it under that number
pub record IsSymbolAt (objects : List Object) (object number : ℕ) (s : LinkedSymbol) : Type 0 where
  pub o : Object
  pub here : slice_get objects object ≡ Some o
  pub at : slice_get o.symbols number ≡ Some s

-- the address is past the last one, and that is reported
abbrev pub IsHighAt : WasmDataAddress → LinkError → Type 0
IsHighAt address e = (e ≡ TooLarge Address) × IsHigh address

-- a symbol of the object lies past the last address, and that is reported
abbrev pub IsHighIn : AddressBook → ℕ → LinkError → Type 0
IsHighIn book object e =
    (number : ℕ) × IsHighAt (symbol_address book.input.now book.placing.now object number) e

-- none of the symbols of the object does
abbrev pub AreLowIn : AddressBook → ℕ → Object → Type 0
AreLowIn book object o =
    (number : ℕ) → number < length o.symbols
    → IsHigh (symbol_address book.input.now book.placing.now object number) → ⊥
