-- How many bytes the output takes for what it holds.
use Rattle.std.specs.Prelude.{◌≡◌, ◌≤◌, ℕ, ◌+◌, ◌^◌, Bool, true, false, List, [], ◌∷◌, ◌++◌, length, sum_by, suc, zero}
use Rattle.std.specs.Int.{w32, cast_signed}
use Rattle.std.specs.List.{list_any}
use Rattle.wl_bytes.specs.Leb.{IsShortest, IsShortestSleb}
use Rattle.wl_module.specs.Bodies.{Body}
use Rattle.wl_linking.specs.declared.error.LinkError.{LinkError}
use Rattle.wl_linking.specs.declared.error.LinkError.TheVariants.{TooLarge}
use Rattle.wl_linking.specs.declared.error.Quantity.TheVariants.{Size}
use Rattle.wl_data.specs.Segments.{SegmentLayout}

-- ---- a segment (core specification, "Data Section")

-- the flag at the start of an active segment, with the memory's number where that isn't 0
abbrev pub IsMemoryName : ℕ → List ℕ → Type 0
IsMemoryName zero text = text ≡ 0 ∷ []
IsMemoryName (suc n) text = (index : List ℕ) × IsShortest (suc n) index × (text ≡ 2 ∷ index)

-- where a segment goes: nowhere by itself, or to an address of a memory
pub record Destination : Type 0 where
  pub passive : Bool
  pub memory : ℕ
  pub offset : ℕ

-- the address in a memory, as a constant: a signed number of 32 bits
abbrev pub IsMemoryPlace : ℕ → ℕ → List ℕ → Type 0
IsMemoryPlace memory offset text = (name : List ℕ) × (place : List ℕ) × IsMemoryName memory name
    × IsShortestSleb (cast_signed w32 offset) place × (text ≡ name ++ 0x41 ∷ (place ++ 0x0b ∷ []))

-- how that is spelled, by whether the segment goes nowhere
abbrev pub IsDestinationAs : Bool → Destination → List ℕ → Type 0
IsDestinationAs true to text = text ≡ 1 ∷ []
IsDestinationAs false to text = IsMemoryPlace to.memory to.offset text

-- how it is spelled where a segment goes
abbrev pub IsDestination : Destination → List ℕ → Type 0
IsDestination to text = IsDestinationAs to.passive to text

-- what comes before the bytes of a segment: where it goes, and how many they are
pub record IsSegmentHead (to : Destination) (len : ℕ) (text : List ℕ) : Type 0 where
  pub target : List ℕ
  pub count : List ℕ
  pub goes : IsDestination to target
  pub counts : IsShortest len count
  pub parts : text ≡ target ++ count

-- a segment of so many bytes takes so many in the output
abbrev pub HasSegmentSize : Destination → ℕ → ℕ → Type 0
HasSegmentSize to len size =
    (head : List ℕ) × IsSegmentHead to len head × (size ≡ length head + len)

-- the size of a segment passes 32 bits
abbrev pub IsHugeSegment : Destination → ℕ → LinkError → Type 0
IsHugeSegment to len e =
    (e ≡ TooLarge Size) × ((size : ℕ) × HasSegmentSize to len size × (2 ^ 32 ≤ size))

-- ---- a section

-- A section of so many items, which take so many bytes: its number, its size and the number of its
-- items come first. Without an item there is none.
abbrev pub HasSectionSize : ℕ → ℕ → ℕ → Type 0
HasSectionSize zero bytes size = size ≡ 0
HasSectionSize (suc n) bytes size =
    (count : List ℕ) × (len : List ℕ) × IsShortest (suc n) count
    × IsShortest (length count + bytes) len × (size ≡ 1 + length len + length count + bytes)

-- the bodies as they stand in a code section: each after the number of its bytes
abbrev pub AreBodiesText : List Body → List ℕ → Type 0
AreBodiesText [] text = text ≡ []
AreBodiesText (b ∷ bodies) text =
    (head : List ℕ) × (rest : List ℕ) × IsShortest (length b.bytes) head × AreBodiesText bodies rest
    × (text ≡ head ++ (b.bytes ++ rest))

-- a body after the number of its bytes takes so many
abbrev pub HasEntrySize : Body → ℕ → Type 0
HasEntrySize b size =
    (head : List ℕ) × IsShortest (length b.bytes) head × (size ≡ length head + length b.bytes)

-- how many bytes the bodies have
abbrev pub body_bytes : List Body → ℕ
body_bytes bodies = sum_by (λ (b : Body). length b.bytes) bodies

-- ---- the segments of all objects

-- how many there are
abbrev pub segment_count : List (List SegmentLayout) → ℕ
segment_count objects = sum_by length objects

-- one of those of an object is passive
abbrev pub any_is_passive : List SegmentLayout → Bool
any_is_passive layouts = list_any (λ (l : SegmentLayout). l.passive) layouts

-- one of them is passive
abbrev pub has_passive : List (List SegmentLayout) → Bool
has_passive objects = list_any any_is_passive objects

-- how many bytes those of one object take
abbrev pub encoded_bytes : List SegmentLayout → ℕ
encoded_bytes layouts = sum_by (λ (l : SegmentLayout). l.encoded_output_size) layouts

-- how many bytes all of them take
abbrev pub all_encoded_bytes : List (List SegmentLayout) → ℕ
all_encoded_bytes objects = sum_by encoded_bytes objects
