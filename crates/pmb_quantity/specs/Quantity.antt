-- Which quantity two numbers make.
use Rattle.std.specs.Prelude.{zero, suc, ◌^◌, ◌&&◌, ℤ, pos, negsuc, neg_ℤ, unsigned_abs, nat_lt, if◌then◌else◌, Result}
use Rattle.std.specs.Prelude.{Ok, Err}
use Rattle.pmb_quantity.specs.Fraction.{Fraction, lowest_terms}
use Rattle.pmb_quantity.specs.declared.quantity.QuantityFault.{QuantityFault}
use Rattle.pmb_quantity.specs.declared.quantity.QuantityFault.TheVariants.{ZeroDenominator, TooLarge}

-- the fraction itself, where both of its numbers stay below 2^62
abbrev pub fitted : Fraction → Result Fraction QuantityFault
fitted q =
    if nat_lt (unsigned_abs q.numerator) (2 ^ 62) && nat_lt q.denominator (2 ^ 62) then Ok q else Err TooLarge

-- n over d: the fraction in lowest terms, with the sign in its numerator, or the fault
abbrev pub quotient : ℤ → ℤ → Result Fraction QuantityFault
quotient n (pos zero) = Err ZeroDenominator
quotient n (pos (suc d)) = fitted (lowest_terms n (suc d))
quotient n (negsuc d) = fitted (lowest_terms (neg_ℤ n) (suc d))

-- the same with the other sign
abbrev pub negative : Fraction → Fraction
negative q = record { numerator = neg_ℤ q.numerator; denominator = q.denominator }

abbrev pub negated : Result Fraction QuantityFault → Result Fraction QuantityFault
negated (Ok q) = Ok (negative q)
negated (Err fault) = Err fault
