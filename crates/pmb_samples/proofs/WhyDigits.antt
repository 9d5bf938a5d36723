-- How many digits a number of 64 bits has.
use Rattle.std.proofs.Common.{ℕ, ◌<◌, ◌≤◌, ◌^◌, decimal, length, arith}
use Rattle.std.proofs.lemmas.Fmt.{length-decimal-le}

pub few_digits : (number : ℕ) → number < 2 ^ 64 → length (decimal number) ≤ 20
few_digits number small = length-decimal-le 20 number (omega arith) (omega arith) (omega arith)
