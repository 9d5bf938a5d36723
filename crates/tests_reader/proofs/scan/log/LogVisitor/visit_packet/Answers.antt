-- No text goes out.
use Rattle.std.proofs.Common.{[]}
use Rattle.pmb_io.proofs.Writing.{writes_nothing}
use Rattle.tests_reader.proofs.scan.log.LogVisitor.visit_packet.Goals as goal

pub returns-clause-visits : goal.returns-clause-visits
returns-clause-visits g c start reached text n front event stands spells standing so =
    record { text = []; writes = writes_nothing _ _; holds = tt }
