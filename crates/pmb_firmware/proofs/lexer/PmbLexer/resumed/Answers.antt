use Rattle.std.proofs.Common.{arith, refl}
use Rattle.pmb_firmware.proofs.Resumed.{resumes_between}
use Rattle.pmb_firmware.proofs.Somewhere.{between_somewhere}
use Rattle.pmb_firmware.proofs.lexer.PmbLexer.resumed.Goals as goal

pub returns-in-0-clause-stands : goal.returns-in-0-clause-stands
returns-in-0-clause-stands c = λ n text events stands. resumes_between c.args.self.now n text events stands c.in-0.is
    c.new.result c.new.ensures

pub returns-in-0-clause-somewhere : goal.returns-in-0-clause-somewhere
returns-in-0-clause-somewhere c = between_somewhere c.args.self.now c.in-0.is (omega arith)

-- after a fault there is none
pub returns-in_default-clause-faulted : goal.returns-in_default-clause-faulted
returns-in_default-clause-faulted c = λ fault is. refl
