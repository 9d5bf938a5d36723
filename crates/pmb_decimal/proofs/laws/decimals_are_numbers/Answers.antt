use Rattle.pmb_decimal.proofs.Numbers.{rounded_is_number}
use Rattle.pmb_decimal.proofs.laws.decimals_are_numbers.Goals as goal

pub returns : goal.returns
returns c digits q quantity = rounded_is_number digits q quantity
