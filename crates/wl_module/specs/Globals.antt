-- Global types and the global section (core specification, "Global Types" and "Global Section").
use Rattle.std.specs.Prelude.{ℕ, Bool, true, false, List, [], ◌∷◌, Result}
use Rattle.wl_bytes.specs.Cursor.{Cursor}
use Rattle.wl_bytes.specs.Grammar.{Then, ThenFault, then_at, map_at}
use Rattle.wl_module.specs.declared.globals.GlobalType.{GlobalType}
use Rattle.wl_module.specs.declared.types.ValType.{ValType}
use Rattle.wl_bytes.specs.declared.read_error.Why.TheVariants.{BadByte}
use Rattle.wl_bytes.specs.declared.read_error.ReadError.{ReadError}
use Rattle.wl_bytes.specs.declared.read_error.ReadError.TheVariants.{Malformed}
use Rattle.wl_bytes.specs.Lists.{IsCoded, CodedFault, coded_at, Listed, ListedFault, list_at, Whole, WholeFault, whole_of}
use Rattle.wl_bytes.specs.Checks.{Seen}
use Rattle.wl_module.specs.Types.{IsValueType, ValueTypeFault, value_type_at}
use Rattle.wl_module.specs.Constants.{IsExpression, ExpressionFault, expression_at}

-- ---- global types

-- the byte that says whether a global may change
abbrev pub mutability_code : Bool → ℕ
mutability_code false = 0
mutability_code true = 1

-- that byte
abbrev pub IsMutability : ℕ → Bool → List ℕ → Type 0
IsMutability = IsCoded mutability_code

-- there is no byte, or another one
abbrev pub MutabilityFault : ReadError → Cursor → Type 0
MutabilityFault = CodedFault mutability_code (λ _. Malformed BadByte)

-- what the next byte says
unfoldable pub mutability_at : Cursor → Result (Bool × Cursor) ReadError
mutability_at c = coded_at mutability_code (false ∷ true ∷ []) (λ _. Malformed BadByte) c

-- what was read as a global type
abbrev pub global_type_from : ValType × Bool → GlobalType
global_type_from p = record { content_type = p.0; mutable = p.1 }

-- a value type, and whether it may change
abbrev pub IsGlobalType : ℕ → GlobalType → List ℕ → Type 0
IsGlobalType = Seen (Then IsValueType (λ _. IsMutability)) global_type_from

-- the first of the two that is at fault
abbrev pub GlobalTypeFault : ReadError → Cursor → Type 0
GlobalTypeFault = ThenFault IsValueType ValueTypeFault (λ _. MutabilityFault)

-- the next global type
unfoldable pub global_type_at : Cursor → Result (GlobalType × Cursor) ReadError
global_type_at c = map_at global_type_from (then_at value_type_at (λ _. mutability_at)) c

-- ---- the section

-- a global as clauses see it: its type, the expression that it starts with, and whether that is a
-- copy
pub record DefinedGlobal : Type 0 where
  pub ty : GlobalType
  pub body : List ℕ
  pub owned : Bool

-- what was read as a global: the expression is itself and no copy
abbrev pub global_from : GlobalType × List ℕ → DefinedGlobal
global_from p = record { ty = p.0; body = p.1; owned = false }

-- its type, and the expression
abbrev pub IsGlobal : ℕ → DefinedGlobal → List ℕ → Type 0
IsGlobal = Seen (Then IsGlobalType (λ _. IsExpression)) global_from

-- the first of the two that is at fault
abbrev pub GlobalFault : ReadError → Cursor → Type 0
GlobalFault = ThenFault IsGlobalType GlobalTypeFault (λ _. ExpressionFault)

-- the next global
unfoldable pub global_at : Cursor → Result (DefinedGlobal × Cursor) ReadError
global_at c = map_at global_from (then_at global_type_at (λ _. expression_at)) c

-- the payload is a list of these globals
abbrev pub AreGlobals : List DefinedGlobal → List ℕ → Type 0
AreGlobals = Whole (Listed IsGlobal)

-- what is wrong with a payload that is no list of globals
abbrev pub GlobalsFault : ReadError → List ℕ → Type 0
GlobalsFault = WholeFault (Listed IsGlobal) (ListedFault IsGlobal GlobalFault)

-- the globals of a whole payload
abbrev pub globals_of : List ℕ → Result (List DefinedGlobal) ReadError
globals_of payload = whole_of (list_at global_at) payload
