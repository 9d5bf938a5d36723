use Rattle.pmb_line.proofs.SomeReading.{parse_or_fault}
use Rattle.pmb_line.proofs.laws.parse_or_fault.Goals as goal

pub returns : goal.returns
returns c profile line = parse_or_fault profile (c.packet_or_fault.ensures profile) line
