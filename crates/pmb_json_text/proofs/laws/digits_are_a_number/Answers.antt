use Rattle.pmb_json_text.proofs.Decimals.{number_decimal}
use Rattle.pmb_json_text.proofs.laws.digits_are_a_number.Goals as goal

pub returns : goal.returns
returns c = number_decimal
