-- What follows an operator, and the values that it spells (core specification,
-- "Instructions").
use Rattle.std.specs.Prelude.{ℕ, ℤ, pos, negsuc, int_le, ◌||◌, ◌&&◌, nat_lt, Bool, false, if◌then◌else◌, List, [], ◌∷◌, ◌++◌, Option, Some, None, is_some, Result}
use Rattle.std.specs.List.{flat_map}
use Rattle.wl_bytes.specs.Cursor.{Cursor}
use Rattle.wl_bytes.specs.Leb.{s32_form, s33_form, s64_form, IsU32, IsSigned}
use Rattle.wl_bytes.specs.Items.{IsByte}
use Rattle.wl_bytes.specs.Grammar.{Then, ThenFault, then_at, Times, TimesFault, times_at, map_at}
use Rattle.wl_bytes.specs.declared.read_error.Why.TheVariants.{BadByte}
use Rattle.wl_bytes.specs.declared.read_error.Form.TheVariants.{Operator}
use Rattle.wl_bytes.specs.declared.read_error.ReadError.{ReadError}
use Rattle.wl_bytes.specs.declared.read_error.ReadError.TheVariants.{Malformed, Unsupported}
use Rattle.wl_bytes.specs.Lists.{NumberFault, number_at, ByteFault, one_byte_at}
use Rattle.wl_bytes.specs.Checks.{Where, WhereFault, unless, where_at, IsNothing, NoFault, nothing_at, Seen}
use Rattle.wl_module.specs.declared.types.ValType.{ValType}
use Rattle.wl_module.specs.Types.{value_type_of, is_reference}
use Rattle.wl_bytes.specs.Lists.{SignedNumberFault, signed_number_at}
use Rattle.wl_ops.specs.declared.table.Single.{Single}
use Rattle.wl_ops.specs.declared.table.Single.TheVariants.{Number, Alignment, BlockType, Signed32, Signed64, Byte, ReferenceType, ValueType}
use Rattle.wl_ops.specs.declared.table.Immediate.{Immediate}
use Rattle.wl_ops.specs.declared.table.Immediate.TheVariants.{One, ListOf, Catches}

-- ---- single values

-- the exponent of an alignment, without the bits that mean something else
abbrev pub is_alignment : ℕ → Bool
is_alignment n = nat_lt n 0x40

-- the index of a type from 0 on, a value type (-1 to -5, -16, -17), or nothing (-64)
abbrev pub is_block_type : ℤ → Bool
is_block_type z =
    int_le (negsuc 4) z || (int_le (negsuc 16) z && int_le z (negsuc 15))
    || (int_le (negsuc 63) z && int_le z (negsuc 63))

-- the byte of a type of values
abbrev pub is_value_type : ℕ → Bool
is_value_type b = is_some (value_type_of b)

-- there is such a type, and it is one of references
abbrev pub is_some_reference : Option ValType → Bool
is_some_reference None = false
is_some_reference (Some t) = is_reference t

-- the byte of a type of references
abbrev pub is_reference_type : ℕ → Bool
is_reference_type b = is_some_reference (value_type_of b)

-- what spells a value
abbrev pub IsSingle : Single → ℕ → ℤ → List ℕ → Type 0
IsSingle Number = Seen IsU32 (λ n. pos n)
IsSingle Alignment = Seen (Where IsU32 is_alignment) (λ n. pos n)
IsSingle BlockType = Where (IsSigned s33_form) is_block_type
IsSingle Signed32 = IsSigned s32_form
IsSingle Signed64 = IsSigned s64_form
IsSingle Byte = Seen IsByte (λ b. pos b)
IsSingle ReferenceType = Seen (Where IsByte is_reference_type) (λ b. pos b)
IsSingle ValueType = Seen (Where IsByte is_value_type) (λ b. pos b)

-- what is wrong with it
abbrev pub SingleFault : Single → ReadError → Cursor → Type 0
SingleFault Number = NumberFault
SingleFault Alignment = WhereFault IsU32 NumberFault (unless is_alignment (Unsupported Operator))
SingleFault BlockType =
    WhereFault (IsSigned s33_form) (SignedNumberFault s33_form)
    (unless is_block_type (Unsupported Operator))
SingleFault Signed32 = SignedNumberFault s32_form
SingleFault Signed64 = SignedNumberFault s64_form
SingleFault Byte = ByteFault
SingleFault ReferenceType =
    WhereFault IsByte ByteFault (unless is_reference_type (Unsupported Operator))
SingleFault ValueType = WhereFault IsByte ByteFault (unless is_value_type (Malformed BadByte))

-- the next value
unfoldable pub single_at : Single → Cursor → Result (ℤ × Cursor) ReadError
single_at Number c = map_at (λ n. pos n) number_at c
single_at Alignment c =
    map_at (λ n. pos n) (where_at number_at is_alignment (Unsupported Operator)) c
single_at BlockType c = where_at (signed_number_at s33_form) is_block_type (Unsupported Operator) c
single_at Signed32 c = signed_number_at s32_form c
single_at Signed64 c = signed_number_at s64_form c
single_at Byte c = map_at (λ b. pos b) one_byte_at c
single_at ReferenceType c =
    map_at (λ b. pos b) (where_at one_byte_at is_reference_type (Unsupported Operator)) c
single_at ValueType c =
    map_at (λ b. pos b) (where_at one_byte_at is_value_type (Malformed BadByte)) c

-- ---- catches

-- the kinds of catches
abbrev pub is_catch : ℕ → Bool
is_catch k = nat_lt k 4

-- a tag and a label, or a label alone
abbrev pub catch_numbers : ℕ → ℕ
catch_numbers k = if nat_lt k 2 then 2 else 1

-- a number, and the values after it
abbrev pub counted : ℕ × List ℤ → List ℤ
counted p = pos p.0 ∷ p.1

-- the kind of a catch
abbrev pub IsCatchKind : ℕ → ℕ → List ℕ → Type 0
IsCatchKind = Where IsByte is_catch

abbrev pub CatchKindFault : ReadError → Cursor → Type 0
CatchKindFault = WhereFault IsByte ByteFault (unless is_catch (Malformed BadByte))

unfoldable pub catch_kind_at : Cursor → Result (ℕ × Cursor) ReadError
catch_kind_at c = where_at one_byte_at is_catch (Malformed BadByte) c

-- a catch: its kind, and its numbers
abbrev pub IsCatch : ℕ → List ℤ → List ℕ → Type 0
IsCatch = Seen (Then IsCatchKind (λ k. Times (IsSingle Number) (catch_numbers k))) counted

abbrev pub CatchFault : ReadError → Cursor → Type 0
CatchFault =
    ThenFault IsCatchKind CatchKindFault
    (λ k. TimesFault (IsSingle Number) (SingleFault Number) (catch_numbers k))

unfoldable pub catch_at : Cursor → Result (List ℤ × Cursor) ReadError
catch_at c =
    map_at counted (then_at catch_kind_at (λ k. times_at (single_at Number) (catch_numbers k))) c

-- ---- immediates

-- how many lists, and their values
abbrev pub counted_lists : ℕ × List (List ℤ) → List ℤ
counted_lists p = pos p.0 ∷ flat_map (λ zs. zs) p.1

-- the values of so many lists
abbrev pub flat_at : (Cursor → Result (List ℤ × Cursor) ReadError) → ℕ → Cursor
    → Result (List ℤ × Cursor) ReadError
flat_at item n c = map_at (flat_map (λ zs. zs)) (times_at item n) c

-- what spells these values
abbrev pub IsImmediate : Immediate → ℕ → List ℤ → List ℕ → Type 0
IsImmediate (One s) = Seen (IsSingle s) (λ z. z ∷ [])
IsImmediate (ListOf s) = Seen (Then IsU32 (Times (IsSingle s))) counted
IsImmediate Catches = Seen (Then IsU32 (Times IsCatch)) counted_lists

abbrev pub ImmediateFault : Immediate → ReadError → Cursor → Type 0
ImmediateFault (One s) = SingleFault s
ImmediateFault (ListOf s) = ThenFault IsU32 NumberFault (TimesFault (IsSingle s) (SingleFault s))
ImmediateFault Catches = ThenFault IsU32 NumberFault (TimesFault IsCatch CatchFault)

unfoldable pub immediate_at : Immediate → Cursor → Result (List ℤ × Cursor) ReadError
immediate_at (One s) c = map_at (λ z. z ∷ []) (single_at s) c
immediate_at (ListOf s) c = map_at counted (then_at number_at (times_at (single_at s))) c
immediate_at Catches c = map_at counted_lists (then_at number_at (times_at catch_at)) c

-- ---- one after the other

-- the values of one immediate, and after them those of the others
abbrev pub joined : List ℤ × List ℤ → List ℤ
joined p = p.0 ++ p.1

-- all immediates, in their order
abbrev pub AreImmediates : List Immediate → ℕ → List ℤ → List ℕ → Type 0
AreImmediates [] = Seen IsNothing (λ _. [])
AreImmediates (i ∷ is) = Seen (Then (IsImmediate i) (λ _. AreImmediates is)) joined

-- the first of them that is at fault
abbrev pub ImmediatesFault : List Immediate → ReadError → Cursor → Type 0
ImmediatesFault [] = NoFault
ImmediatesFault (i ∷ is) = ThenFault (IsImmediate i) (ImmediateFault i) (λ _. ImmediatesFault is)

unfoldable pub immediates_at : List Immediate → Cursor → Result (List ℤ × Cursor) ReadError
immediates_at [] c = map_at (λ _. []) nothing_at c
immediates_at (i ∷ is) c = map_at joined (then_at (immediate_at i) (λ _. immediates_at is)) c
