-- The table of operators (core specification, "Instructions", with the vector and the thread
-- operators).
use Rattle.std.specs.Prelude.{ℕ, ◌==◌, ◌||◌, ◌&&◌, nat_le, Bool, if◌then◌else◌, List, [], ◌∷◌, replicate, Option, Some, None}
use Rattle.wl_ops.specs.declared.table.Single.TheVariants.{Number, Alignment, BlockType, Signed32, Signed64, Byte, ReferenceType, ValueType}
use Rattle.wl_ops.specs.declared.table.Immediate.{Immediate}
use Rattle.wl_ops.specs.declared.table.Immediate.TheVariants.{One, ListOf, Catches}
use Rattle.wl_ops.specs.declared.table.Shape.{Shape}
use Rattle.wl_ops.specs.declared.table.Shape.TheVariants.{Nothing, Block, Index, Indices, Branches, Typed, Try, Memory, MemoryLane, Lane, Int32, Int64, Float32, Float64, Vector, Null}
use Rattle.wl_ops.specs.declared.table.Row.{Row}

-- ---- what follows an operator

-- the immediates of a shape, in their order
abbrev pub immediates : Shape → List Immediate
immediates Nothing = []
immediates Block = One BlockType ∷ []
immediates Index = One Number ∷ []
immediates Indices = One Number ∷ One Number ∷ []
immediates Branches = ListOf Number ∷ One Number ∷ []
immediates Typed = ListOf ValueType ∷ []
immediates Try = One BlockType ∷ Catches ∷ []
immediates Memory = One Alignment ∷ One Number ∷ []
immediates MemoryLane = One Alignment ∷ One Number ∷ One Byte ∷ []
immediates Lane = One Byte ∷ []
immediates Int32 = One Signed32 ∷ []
immediates Int64 = One Signed64 ∷ []
immediates Float32 = replicate 4 (One Byte)
immediates Float64 = replicate 8 (One Byte)
immediates Vector = replicate 16 (One Byte)
immediates Null = One ReferenceType ∷ []

-- ---- the rows

-- the operators from a to b
abbrev row : ℕ → ℕ → Shape → Row
row a b shape = record { 0 = a; 1 = b; 2 = shape }

-- one operator
abbrev one : ℕ → Shape → Row
one a shape = record { 0 = a; 1 = a; 2 = shape }

-- by the first byte
abbrev pub plain : List Row
plain =
    row 0x00 0x01 Nothing
    ∷ row 0x02 0x04 Block
    ∷ one 0x05 Nothing
    ∷ one 0x06 Block
    ∷ row 0x07 0x09 Index
    ∷ row 0x0a 0x0b Nothing
    ∷ row 0x0c 0x0d Index
    ∷ one 0x0e Branches
    ∷ one 0x0f Nothing
    ∷ one 0x10 Index
    ∷ one 0x11 Indices
    ∷ one 0x12 Index
    ∷ one 0x13 Indices
    ∷ one 0x18 Index
    ∷ row 0x19 0x1b Nothing
    ∷ one 0x1c Typed
    ∷ one 0x1f Try
    ∷ row 0x20 0x26 Index
    ∷ row 0x28 0x3e Memory
    ∷ row 0x3f 0x40 Index
    ∷ one 0x41 Int32
    ∷ one 0x42 Int64
    ∷ one 0x43 Float32
    ∷ one 0x44 Float64
    ∷ row 0x45 0xc4 Nothing
    ∷ one 0xd0 Null
    ∷ one 0xd1 Nothing
    ∷ one 0xd2 Index
    ∷ []

-- by the number after 0xfc
abbrev pub bulk : List Row
bulk =
    row 0 7 Nothing
    ∷ one 8 Indices
    ∷ one 9 Index
    ∷ one 10 Indices
    ∷ one 11 Index
    ∷ one 12 Indices
    ∷ one 13 Index
    ∷ one 14 Indices
    ∷ row 15 17 Index
    ∷ []

-- by the number after 0xfd
abbrev pub vector : List Row
vector =
    row 0x00 0x0b Memory
    ∷ row 0x0c 0x0d Vector
    ∷ row 0x0e 0x14 Nothing
    ∷ row 0x15 0x22 Lane
    ∷ row 0x23 0x53 Nothing
    ∷ row 0x54 0x5b MemoryLane
    ∷ row 0x5c 0x5d Memory
    ∷ row 0x5e 0x113 Nothing
    ∷ []

-- by the number after 0xfe
abbrev pub thread : List Row
thread =
    row 0x00 0x02 Memory
    ∷ one 0x03 Lane
    ∷ row 0x10 0x4e Memory
    ∷ []

-- ---- looking up

-- what follows each operator of the row that holds the key
abbrev pub shape_in : List Row → ℕ → Option Shape
shape_in [] key = None
shape_in (r ∷ rows) key = if nat_le r.0 key && nat_le key r.1 then Some r.2 else shape_in rows key

-- the first bytes after which a number gives the operator
abbrev pub is_prefix : ℕ → Bool
is_prefix code = code == 0xfc || code == 0xfd || code == 0xfe

-- what follows the operator, where there is one
unfoldable pub shape_of : ℕ → ℕ → Option Shape
shape_of code sub =
    if code == 0xfc then shape_in bulk sub
    else if code == 0xfd then shape_in vector sub
    else if code == 0xfe then shape_in thread sub
    else shape_in plain code

-- the first bytes of operators that are known and not taken
abbrev pub is_untaken : ℕ → Bool
is_untaken code =
    is_prefix code || code == 0x14 || code == 0x15 || (nat_le 0xd3 code && nat_le code 0xd6)
    || code == 0xfb

-- the two operators on element segments
abbrev pub is_element : ℕ → ℕ → Bool
is_element code sub = (code == 0xfc) && (sub == 12 || sub == 13)
