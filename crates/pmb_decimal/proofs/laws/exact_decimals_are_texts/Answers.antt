use Rattle.pmb_decimal.proofs.Exact.{exact_is_spelling}
use Rattle.pmb_decimal.proofs.laws.exact_decimals_are_texts.Goals as goal

pub returns : goal.returns
returns c digits q quantity = exact_is_spelling digits q quantity
