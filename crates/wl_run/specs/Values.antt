-- What globals start with (core specification, "Constant Expressions").
use Rattle.std.specs.Prelude.{◌≡◌, ℕ, ℤ, List, ◌∷◌}
use Rattle.std.specs.Int.{w32, w64, Width, cast_unsigned}
use Rattle.wl_bytes.specs.Leb.{NumberForm, IsSigned, s32_form, s64_form}
use Rattle.wl_numeric.specs.declared.value.Value.{Value}
use Rattle.wl_numeric.specs.declared.value.Value.TheVariants.{I32, I64}
use Rattle.wl_run.specs.declared.values.TheConstants.{I32_CONST, I64_CONST}

-- that operator with a constant, of which these are the bits
abbrev pub IsConstant : ℕ → NumberForm → Width → List ℕ → ℕ → Type 0
IsConstant code form width body n =
    (z : ℤ) × (text : List ℕ) × (body ≡ code ∷ text) × IsSigned form 0 z text
    × (n ≡ cast_unsigned width z)

-- the expression is one constant integer
abbrev pub HasFirstValue : List ℕ → Value → Type 0
HasFirstValue body (I32 n) = IsConstant I32_CONST s32_form w32 body n
HasFirstValue body (I64 n) = IsConstant I64_CONST s64_form w64 body n
