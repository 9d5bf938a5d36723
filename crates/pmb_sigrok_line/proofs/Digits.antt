-- How many digits a billion and more has.
use Rattle.std.proofs.Common.{ℕ, ◌+◌, ◌<◌, ◌≤◌, decimal, length, arith}
use Rattle.std.proofs.lemmas.Fmt.{decimal_nonempty, length-decimal-le}
use Rattle.pmb_sigrok_line.specs.Time.{billion}

pub few_digits : (number : ℕ) → number < billion → length (decimal (billion + number)) ≤ 10
few_digits number small = length-decimal-le 10 (billion + number) (omega arith) (omega arith) (omega arith)

pub some_digits : (number : ℕ) → number < billion → 0 < length (decimal (billion + number))
some_digits number small = decimal_nonempty (billion + number) (omega arith)
