-- How long names are.
use Rattle.std.proofs.Common.{ℕ, ◌<◌, ◌≤◌, length, arith}
use Rattle.std.specs.Prelude.{decimal}
use Rattle.std.proofs.lemmas.Fmt.{length-decimal-le}

-- a number below 10000 has at most four digits
pub four_digits : (n : ℕ) → n < 10000 → length (decimal n) ≤ 4
four_digits n small = length-decimal-le 4 n (omega arith) small (omega arith)
