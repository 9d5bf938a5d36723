-- Exponents of the linear formats (PMBus Part II revision 1.3, sections 7.1 and 8.4).
use Rattle.std.specs.Prelude.{ℤ, pos, negsuc, ◌≤ℤ◌}

-- an exponent of five bits in two's complement
abbrev pub IsExponent : ℤ → Type 0
IsExponent exponent = (negsuc 15 ≤ℤ exponent) × (exponent ≤ℤ pos 15)
