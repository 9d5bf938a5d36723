use Rattle.pmb_wire_packets.proofs.CaptureLaw.{tells_the_capture}
use Rattle.pmb_wire_packets.proofs.laws.tells_the_capture.Goals as goal

pub returns : goal.returns
returns c = tells_the_capture
