-- How the pieces of a line are read from the front of a text: the value, and what is left.
use Rattle.std.specs.Prelude.{◌≡◌, ℕ, zero, suc, ℤ, pos, neg_ℤ, ◌+◌, ◌-◌, ◌*◌, ◌^◌, ◌==◌, ◌&&◌, nat_lt, nat_le, Bool, true, false, if◌then◌else◌, List, [], ◌∷◌, length, Option, Some, None, Result, Ok, Err, ⊤, codes}
use Rattle.std.specs.Char.{is_ascii_digit}
use Rattle.wl_module.specs.Types.{value_types}
use Rattle.wl_module.specs.declared.types.ValType.{ValType}
use Rattle.wl_text.specs.Names.{value_type_name}
use Rattle.wl_text.specs.Pieces.{is_escaped}
use Rattle.wl_check.specs.declared.pieces.Stop.{Stop}
use Rattle.wl_check.specs.declared.pieces.Stop.TheVariants.{OutOfMemory, NoLine}

-- ---- what a call has answered

-- reading fails so, unless memory ran out
abbrev pub Fails : {Y : Type 0} → Stop → Option Y → Type 0
Fails OutOfMemory read = ⊤
Fails NoLine read = read ≡ None

-- what was answered, seen by view, and what is left then, is what reading gives, unless memory ran
-- out
abbrev pub Yields : {X Y : Type 0} → (X → Y) → Result X Stop → List ℕ → Option (Y × List ℕ) → Type 0
Yields view (Ok x) new read = read ≡ Some (view x, new)
Yields view (Err e) new read = Fails e read

-- a word stands there, and what is left follows it; or it doesn't
abbrev pub Passes : Result (Unit {0}) Stop → List ℕ → Option (List ℕ) → Type 0
Passes (Ok u) new read = read ≡ Some new
Passes (Err OutOfMemory) new read = ⊥
Passes (Err NoLine) new read = read ≡ None

-- ---- one piece after another

infixl 10 ◌>>=◌
-- go on with the value, if there is one
abbrev pub ◌>>=◌ : {A B : Type 0} → Option A → (A → Option B) → Option B
None >>= f = None
(Some x) >>= f = f x

-- one, and then another
abbrev pub then_at : {X Y : Type 0} → (List ℕ → Option (X × List ℕ)) → (List ℕ → Option (Y × List ℕ))
    → List ℕ → Option ((X × Y) × List ℕ)
then_at first second bytes = first bytes >>= λ p. second p.1 >>= λ q. Some ((p.0, q.0), q.1)

-- what is read, seen by f
abbrev pub seen_at : {X Y : Type 0} → (X → Y) → (List ℕ → Option (X × List ℕ)) → List ℕ
    → Option (Y × List ℕ)
seen_at f read bytes = read bytes >>= λ p. Some (f p.0, p.1)

-- ---- words

-- what is left after a word at the start
unfoldable pub strip : List ℕ → List ℕ → Option (List ℕ)
strip [] bytes = Some bytes
strip (w ∷ word) [] = None
strip (w ∷ word) (b ∷ bytes) = if w == b then strip word bytes else None

-- a word, and nothing else
abbrev pub word_at : List ℕ → List ℕ → Option (Unit {0} × List ℕ)
word_at word bytes = strip word bytes >>= λ rest. Some (tt, rest)

-- a word, and what follows it
abbrev pub behind_at : {X : Type 0} → List ℕ → (List ℕ → Option (X × List ℕ)) → List ℕ
    → Option (X × List ℕ)
behind_at word read bytes = strip word bytes >>= read

-- a piece, and the byte that ends it
abbrev pub ended_at : {X : Type 0} → ℕ → (List ℕ → Option (X × List ℕ)) → List ℕ
    → Option (X × List ℕ)
ended_at end read bytes =
    read bytes >>= λ p. strip (end ∷ []) p.1 >>= λ rest. Some (p.0, rest)

-- what follows the word where the word comes next, and else the other
abbrev pub either : {X : Type 0} → Option (List ℕ) → (List ℕ → Option (X × List ℕ))
    → Option (X × List ℕ) → Option (X × List ℕ)
either None behind other = other
either (Some rest) behind other = behind rest

abbrev pub either_at : {X : Type 0} → List ℕ → (List ℕ → Option (X × List ℕ))
    → (List ℕ → Option (X × List ℕ)) → List ℕ → Option (X × List ℕ)
either_at word behind other bytes = either (strip word bytes) behind (other bytes)

-- one of two words
abbrev pub flag_at : List ℕ → List ℕ → List ℕ → Option (Bool × List ℕ)
flag_at off on = either_at on (λ rest. Some (true, rest)) (seen_at (λ _. false) (word_at off))

-- the first case whose word comes next
unfoldable pub case_at : {X : Type 0} → (X → List ℕ) → List X → List ℕ → Option (X × List ℕ)
case_at word [] bytes = None
case_at word (x ∷ xs) bytes =
    either (strip (word x) bytes) (λ rest. Some (x, rest)) (case_at word xs bytes)

-- the case whose word comes next, and what follows it in that case
abbrev pub choice_at : {K X : Type 0} → (K → List ℕ) → List K → (K → List ℕ → Option (X × List ℕ))
    → List ℕ → Option (X × List ℕ)
choice_at word cases body bytes = case_at word cases bytes >>= λ p. body p.0 p.1

-- ---- items up to a byte that ends them

-- at most so many items, and then the byte
unfoldable pub until_within : {X : Type 0} → ℕ → ℕ → (List ℕ → Option (X × List ℕ)) → List ℕ
    → Option (List X × List ℕ)
until_within zero close item bytes = strip (close ∷ []) bytes >>= λ rest. Some ([], rest)
until_within (suc n) close item bytes =
    either (strip (close ∷ []) bytes) (λ rest. Some ([], rest))
    (item bytes >>= λ p. until_within n close item p.1 >>= λ q. Some (p.0 ∷ q.0, q.1))

-- items up to the byte: each takes some bytes, so there are no more than bytes
abbrev pub until_at : {X : Type 0} → ℕ → (List ℕ → Option (X × List ℕ)) → List ℕ
    → Option (List X × List ℕ)
until_at close item bytes = until_within (length bytes) close item bytes

-- ---- numbers

-- no digit comes next
abbrev pub NoDigit : List ℕ → Type 0
NoDigit [] = ⊤
NoDigit (b ∷ bytes) = is_ascii_digit b ≡ false

-- the next digits, after those of a number so far
unfoldable pub digits_from : ℕ → List ℕ → ℕ × List ℕ
digits_from n [] = (n, [])
digits_from n (b ∷ bytes) =
    if is_ascii_digit b then digits_from (n * 10 + (b - 48)) bytes else (n, b ∷ bytes)

-- a number of any size; after a leading 0 comes no other digit
unfoldable pub natural_at : List ℕ → Option (ℕ × List ℕ)
natural_at [] = None
natural_at (b ∷ bytes) =
    if b == 48 then Some (0, bytes)
    else if is_ascii_digit b then Some (digits_from (b - 48) bytes)
    else None

-- what has so many bits
abbrev pub within : ℕ → ℕ × List ℕ → Option (ℕ × List ℕ)
within bits p = if nat_lt p.0 (2 ^ bits) then Some p else None

-- a number of so many bits, and the byte that ends it
unfoldable pub number_at : ℕ → ℕ → List ℕ → Option (ℕ × List ℕ)
number_at bits end = ended_at end (λ bytes. natural_at bytes >>= within bits)

-- a number of 32 bits with its sign, of what follows the sign; 0 has none
abbrev pub signed_of : Bool → ℕ → Option ℤ
signed_of false n = if nat_lt n (2 ^ 31) then Some (pos n) else None
signed_of true n = if nat_lt 0 n && nat_le n (2 ^ 31) then Some (neg_ℤ (pos n)) else None

-- the number with its sign
abbrev pub with_sign : Bool → ℕ × List ℕ → Option (ℤ × List ℕ)
with_sign negative p = signed_of negative p.0 >>= λ z. Some (z, p.1)

-- a number of 32 bits with its sign, and the byte that ends it
unfoldable pub signed_at : ℕ → List ℕ → Option (ℤ × List ℕ)
signed_at end =
    either_at (codes "-") (λ bytes. number_at 32 end bytes >>= with_sign true)
    (λ bytes. number_at 32 end bytes >>= with_sign false)

-- ---- bytes and names

-- what a hexadecimal digit in lower case stands for
abbrev pub lower_digit : ℕ → Option ℕ
lower_digit c =
    if nat_le 48 c && nat_le c 57 then Some (c - 48)
    else if nat_le 97 c && nat_le c 102 then Some (c - 87)
    else None

-- a byte in two hexadecimal digits
unfoldable pub pair_at : List ℕ → Option (ℕ × List ℕ)
pair_at [] = None
pair_at (high ∷ []) = None
pair_at (high ∷ low ∷ bytes) =
    lower_digit high >>= λ h. lower_digit low >>= λ l. Some (h * 16 + l, bytes)

-- bytes in hexadecimal, and the byte that ends them
abbrev pub hex_at : ℕ → List ℕ → Option (List ℕ × List ℕ)
hex_at end = until_at end pair_at

-- the byte, where a name has it after a backslash
abbrev pub if_escaped : ℕ × List ℕ → Option (ℕ × List ℕ)
if_escaped p = if is_escaped p.0 then Some p else None

-- a byte of a name
unfoldable pub escaped_at : List ℕ → Option (ℕ × List ℕ)
escaped_at [] = None
escaped_at (b ∷ bytes) =
    if b == 0x5c then pair_at bytes >>= if_escaped
    else if is_escaped b then None
    else Some (b, bytes)

-- a name in quotes, and the byte that ends it
abbrev pub name_at : ℕ → List ℕ → Option (List ℕ × List ℕ)
name_at end = ended_at end (behind_at (0x22 ∷ []) (until_at 0x22 escaped_at))

-- ---- types

-- a value type
abbrev pub value_type_at : List ℕ → Option (ValType × List ℕ)
value_type_at = case_at value_type_name value_types

-- a value type after another one
abbrev pub further_type_at : List ℕ → Option (ValType × List ℕ)
further_type_at = behind_at (codes ",") value_type_at

-- value types up to a bracket
abbrev pub types_at : List ℕ → Option (List ValType × List ℕ)
types_at =
    either_at (codes ")") (λ rest. Some ([], rest))
    (seen_at (λ p. p.0 ∷ p.1) (then_at value_type_at (until_at 0x29 further_type_at)))
