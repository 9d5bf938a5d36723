use Rattle.pmb_wires.proofs.KindLemmas.{each_is_one}
use Rattle.pmb_wires.proofs.laws.each_is_one_kind.Goals as goal

pub returns : goal.returns
returns c = each_is_one
