use Rattle.std.proofs.Common.{[], refl}
use Rattle.pmb_firmware.specs.machine.Standing.{between}
use Rattle.pmb_firmware.proofs.lexer.PmbLexer.new.Goals as goal

pub returns-clause-stands : goal.returns-clause-stands
returns-clause-stands c =
    record { ended = refl; begins = ([], [], refl); counted = refl; place = between refl (refl, refl) }
