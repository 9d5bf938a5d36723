-- A quantity as C has it.
use Rattle.std.specs.Prelude.{pos, Result}
use Rattle.pmb_quantity.specs.Fraction.{Fraction}
use Rattle.pmb_quantity.specs.Quantity.{quotient}
use Rattle.pmb_quantity.specs.declared.quantity.QuantityFault.{QuantityFault}
use Rattle.pmb_firmware.specs.declared.quantity.PmbQuantity.{PmbQuantity}

-- the numerator and the denominator of a fraction
abbrev pub numbers : Fraction → PmbQuantity
numbers q = record { numerator = q.numerator; denominator = pos q.denominator }

-- the quantity that two numbers make, or why they make none
abbrev pub quantity_of : PmbQuantity → Result Fraction QuantityFault
quantity_of q = quotient q.numerator q.denominator
