use Rattle.pmb_writer.specs.Invalid.{transaction_rules}
use Rattle.pmb_writer.proofs.Packets.{packet_keeps}
use Rattle.pmb_writer.proofs.Rules.{not_both}
use Rattle.pmb_writer.proofs.laws.no_packet_with_a_fault.Goals as goal

pub returns : goal.returns
returns c = λ profile t fault bus broken has. not_both (transaction_rules profile t) fault
    (packet_keeps profile t bus.devices has) broken
