use Rattle.pmb_host.proofs.Asked.{asked_packet}
use Rattle.pmb_host.proofs.laws.allowed_requests_have_packets.Goals as goal

pub returns : goal.returns
returns c = λ profile request word number reply bus allowed fits. asked_packet profile bus request word number reply
    allowed fits
