use Rattle.pmb_line.proofs.Lengths.{line_has_no_lf, line_is_short}
use Rattle.pmb_line.proofs.PacketsWithin.{packet_within}
use Rattle.pmb_line.proofs.laws.lines_are_short.Goals as goal

pub returns-clause-one : goal.returns-clause-one
returns-clause-one c = line_has_no_lf

pub returns-clause-short : goal.returns-clause-short
returns-clause-short c profile t events packet =
    line_is_short t (packet_within c.bodies_are_short.ensures.body profile t events packet)
