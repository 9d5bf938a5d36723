use Rattle.pmb_io.proofs.LineFronts.{ended_lines_go_on}
use Rattle.pmb_io.proofs.laws.ended_lines_stay.Goals as goal

pub returns : goal.returns
returns c = ended_lines_go_on
