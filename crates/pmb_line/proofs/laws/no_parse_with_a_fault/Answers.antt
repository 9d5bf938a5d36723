use Rattle.pmb_line.proofs.OneFault.{no_parse_with_a_fault}
use Rattle.pmb_line.proofs.laws.no_parse_with_a_fault.Goals as goal

pub returns : goal.returns
returns c = no_parse_with_a_fault c.bodies_are_short.ensures.body
