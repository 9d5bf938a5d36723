use Rattle.pmb_item_laws.proofs.Reasons.{only_its_own}
use Rattle.pmb_item_laws.proofs.laws.reasons_have_one_number.Goals as goal

pub returns : goal.returns
returns c = only_its_own
