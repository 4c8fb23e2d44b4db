-- Lists, single bytes with a meaning, and whole payloads.
use Rattle.std.specs.Prelude.{◌≡◌, ◌≢◌, ◌⊎◌, ℕ, ◌+◌, ◌≤◌, ◌==◌, if◌then◌else◌, List, [], ◌∷◌, ◌++◌, length, Option, Some, None, Result, Ok, Err, ℤ}
use Rattle.std.specs.List.{find}
use Rattle.wl_bytes.specs.Cursor.{Cursor}
use Rattle.wl_bytes.specs.Parse.{Takes, ◌>>=◌}
use Rattle.wl_bytes.specs.Leb.{IsU32, U32Fault, NumberForm, SignedFault}
use Rattle.wl_bytes.specs.Items.{IsByte, EndsBefore, NameFault}
use Rattle.wl_bytes.specs.Reading.{u32_at, byte_at, name_at}
use Rattle.wl_bytes.specs.Grammar.{Items, TimesFault, then_at, times_at, map_at, error_of, FaultOf}
use Rattle.wl_bytes.specs.declared.read_error.Why.TheVariants.{Trailing}
use Rattle.wl_bytes.specs.declared.read_error.ReadError.{ReadError}
use Rattle.wl_bytes.specs.declared.read_error.ReadError.TheVariants.{Malformed}
use Rattle.wl_bytes.specs.Error.{read_error}
use Rattle.wl_bytes.specs.Reading as bytes
use Rattle.wl_bytes.specs.Reading as bytes

-- ---- numbers and bytes

-- what is wrong where no number stands
abbrev pub NumberFault : ReadError → Cursor → Type 0
NumberFault = FaultOf read_error U32Fault

-- the next number
abbrev pub number_at : Cursor → Result (ℕ × Cursor) ReadError
number_at c = error_of read_error (u32_at c)

-- there is no byte
abbrev pub ByteFault : ReadError → Cursor → Type 0
ByteFault = FaultOf read_error (EndsBefore 1)

-- the next byte
abbrev pub one_byte_at : Cursor → Result (ℕ × Cursor) ReadError
one_byte_at c = error_of read_error (byte_at c)

-- what is wrong where no name stands
abbrev pub WordFault : ReadError → Cursor → Type 0
WordFault = FaultOf read_error NameFault

-- the next name
abbrev pub word_at : Cursor → Result (List ℕ × Cursor) ReadError
word_at c = error_of read_error (name_at c)

-- ---- a byte that stands for something

-- the byte of x
abbrev pub IsCoded : {X : Type 0} → (X → ℕ) → ℕ → X → List ℕ → Type 0
IsCoded code place x text = text ≡ code x ∷ []

-- there is no byte, or one that stands for nothing, which other reports
abbrev pub CodedFault : {X : Type 0} → (X → ℕ) → (ℕ → ReadError) → ReadError → Cursor → Type 0
CodedFault {X} code other e from =
    ByteFault e from
    ⊎ ((b : ℕ) × (mid : Cursor) × Takes IsByte b from mid × (e ≡ other b) × ((x : X) → code x ≢ b))

-- which of all of them has that byte
abbrev pub with_code : {X : Type 0} → (X → ℕ) → List X → ℕ → Option X
with_code code all b = find (λ x. code x == b) all

-- what was found, with the place, or the error
abbrev pub chosen_or : {X E : Type 0} → Option X → E → Cursor → Result (X × Cursor) E
chosen_or (Some x) e c = Ok (x, c)
chosen_or None e c = Err e

-- which of all of them the next byte stands for
abbrev pub coded_at : {X : Type 0} → (X → ℕ) → List X → (ℕ → ReadError) → Cursor
    → Result (X × Cursor) ReadError
coded_at code all other c =
    one_byte_at c >>= λ p. chosen_or (with_code code all p.0) (other p.0) p.1

-- ---- a list: how many items, and the items

-- the number of items, and then they, one after the other
abbrev pub Listed : {X : Type 0} → (ℕ → X → List ℕ → Type 0) → ℕ → List X → List ℕ → Type 0
Listed item place xs text = (head : List ℕ) × (body : List ℕ) × (text ≡ head ++ body)
    × IsU32 place (length xs) head × Items item (place + length head) xs body

-- the count is at fault, or after fewer items than it says there is one at fault
abbrev pub ListedFault : {X : Type 0} → (ℕ → X → List ℕ → Type 0) → (ReadError → Cursor → Type 0)
    → ReadError → Cursor → Type 0
ListedFault item wrong e from =
    NumberFault e from
    ⊎ ((n : ℕ) × (mid : Cursor) × Takes IsU32 n from mid × TimesFault item wrong n e mid)

-- the next list
abbrev pub list_at : {X : Type 0} → (Cursor → Result (X × Cursor) ReadError) → Cursor
    → Result (List X × Cursor) ReadError
list_at item c = map_at (λ p. p.1) (then_at number_at (times_at item)) c

-- ---- what stands from a place to the end, and in a whole payload

-- all bytes that are left spell x
abbrev pub ToEnd : {X : Type 0} → (ℕ → X → List ℕ → Type 0) → X → Cursor → Type 0
ToEnd spells x from = (to : Cursor) × Takes spells x from to × (to.rest ≡ [])

-- something in them is at fault, or bytes are left after it
abbrev pub ToEndFault : {X : Type 0} → (ℕ → X → List ℕ → Type 0) → (ReadError → Cursor → Type 0)
    → ReadError → Cursor → Type 0
ToEndFault {X} spells wrong e from =
    wrong e from ⊎ ((x : X) × (to : Cursor) × Takes spells x from to × (to.rest ≢ [])
    × (e ≡ Malformed Trailing))

-- no bytes are left
abbrev pub nothing_left : Cursor → Result (Unit {0}) ReadError
nothing_left c = if length c.rest == 0 then Ok tt else Err (Malformed Trailing)

-- what all bytes that are left spell
abbrev pub to_end_at : {X : Type 0} → (Cursor → Result (X × Cursor) ReadError) → Cursor
    → Result X ReadError
to_end_at read c = read c >>= λ p. nothing_left p.1 >>= λ _. Ok p.0

-- the place before all bytes
abbrev pub start : List ℕ → Cursor
start bytes = record { position = 0; rest = bytes }

-- all bytes of the payload spell x
abbrev pub Whole : {X : Type 0} → (ℕ → X → List ℕ → Type 0) → X → List ℕ → Type 0
Whole spells x payload = spells 0 x payload

-- what is wrong with a payload that spells nothing
abbrev pub WholeFault : {X : Type 0} → (ℕ → X → List ℕ → Type 0) → (ReadError → Cursor → Type 0)
    → ReadError → List ℕ → Type 0
WholeFault spells wrong e payload = ToEndFault spells wrong e (start payload)

-- what all bytes of the payload spell
abbrev pub whole_of : {X : Type 0} → (Cursor → Result (X × Cursor) ReadError) → List ℕ
    → Result X ReadError
whole_of read payload = to_end_at read (start payload)

-- ---- the same seen otherwise

-- the payload spells something that f sees as y
abbrev pub SeenAs : {X Y : Type 0} → (X → Y) → (X → List ℕ → Type 0) → Y → List ℕ → Type 0
SeenAs {X} f spells y payload = (x : X) × spells x payload × (f x ≡ y)

-- what a whole payload spells, seen by f
abbrev pub seen_of : {X Y : Type 0} → (X → Y) → (List ℕ → Result X ReadError) → List ℕ
    → Result Y ReadError
seen_of f read payload = read payload >>= λ x. Ok (f x)

-- ---- how long a list is

-- a list that some bytes spell has no more items than there are bytes
abbrev pub AreFew : {X : Type 0} → (List X → List ℕ → Type 0) → Type 0
AreFew {X} spells =
    (xs : List X) (payload : List ℕ) → spells xs payload → length xs ≤ length payload

-- fewer bytes than so many are left
abbrev pub StretchFault : ℕ → ReadError → Cursor → Type 0
StretchFault n = FaultOf read_error (EndsBefore n)

-- the next so many bytes
abbrev pub stretch_at : ℕ → Cursor → Result (List ℕ × Cursor) ReadError
stretch_at n c = error_of read_error (bytes.take_at n c)

-- what is wrong where no signed number stands
abbrev pub SignedNumberFault : NumberForm → ReadError → Cursor → Type 0
SignedNumberFault form = FaultOf read_error (SignedFault form)

-- the next signed number
abbrev pub signed_number_at : NumberForm → Cursor → Result (ℤ × Cursor) ReadError
signed_number_at form c = error_of read_error (bytes.signed_at form c)
