-- The codes of the linear formats, in the order of their values.
use Rattle.std.specs.Prelude.{ℕ, ◌-◌, ◌^◌, ℤ, pos, negsuc, ◌+ℤ◌, ◌*ℤ◌, unsigned_abs}
use Rattle.pmb_format.specs.Row.{Row}
use Rattle.pmb_linear.specs.Linear.{power}
use Rattle.pmb_linear.specs.machine.Fields.{word_at}

abbrev pub linear16_row : (ℕ → ℕ) → ℤ → ℤ → Row
linear16_row at least exponent = record {
  first = least *ℤ pos (power exponent);
  spacing = power exponent;
  last =
      2 ^ 16 - 1;
  code_at = at;
}

-- LINEAR11's words with one exponent, from the mantissa -1024 up
abbrev pub linear11_row : ℤ → Row
linear11_row fixed = record {
  first = negsuc 1023 *ℤ pos (power fixed);
  spacing = power fixed;
  last = 2 ^ 11 - 1;
  code_at = word_at (unsigned_abs (fixed +ℤ pos 16));
}
