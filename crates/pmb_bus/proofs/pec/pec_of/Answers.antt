use Rattle.std.proofs.Common.{sym}
use Rattle.pmb_bus.proofs.Codes.{pec_of_nothing}
use Rattle.pmb_bus.proofs.pec.pec_of.Goals as goal

pub loop-byte-init : goal.loop-byte-init
loop-byte-init c = sym pec_of_nothing
