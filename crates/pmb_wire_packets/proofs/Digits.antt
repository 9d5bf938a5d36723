-- How many digits a billion and more has, and a number of 128 bits.
use Rattle.std.proofs.Common.{ℕ, ◌+◌, ◌<◌, ◌≤◌, ◌^◌, decimal, length, arith}
use Rattle.std.proofs.lemmas.Fmt.{decimal_nonempty, length-decimal-le, length-decimal-le_wide}
use Rattle.pmb_wire_packets.specs.Time.{billion}

pub few_digits : (number : ℕ) → number < billion → length (decimal (billion + number)) ≤ 10
few_digits number small = length-decimal-le 10 (billion + number) (omega arith) (omega arith) (omega arith)

pub some_digits : (number : ℕ) → number < billion → 0 < length (decimal (billion + number))
some_digits number small = decimal_nonempty (billion + number) (omega arith)

pub wide_digits : (number : ℕ) → number < 2 ^ 128 → length (decimal number) ≤ 39
wide_digits number small = length-decimal-le_wide 39 number (omega arith) (omega arith) (omega arith)
