use Rattle.pmb_quantity.proofs.Shortest.{is_shortest}
use Rattle.pmb_quantity.proofs.laws.text_is_shortest.Goals as goal

pub returns : goal.returns
returns c = is_shortest
