use Rattle.pmb_items.proofs.Lengths.{item_long}
use Rattle.pmb_items.proofs.laws.records_have_one_length.Goals as goal

pub returns : goal.returns
returns c = item_long
