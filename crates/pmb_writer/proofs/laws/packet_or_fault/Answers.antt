use Rattle.pmb_writer.proofs.Decisions.{packet_or_fault}
use Rattle.pmb_writer.proofs.laws.packet_or_fault.Goals as goal

pub returns : goal.returns
returns c = packet_or_fault
