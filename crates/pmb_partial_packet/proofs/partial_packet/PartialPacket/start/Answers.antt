use Rattle.pmb_partial_packet.proofs.Stands.{stands_at_start}
use Rattle.pmb_partial_packet.proofs.partial_packet.PartialPacket.start.Goals as goal

pub returns : goal.returns
returns c = λ events stands. stands_at_start c.args.self.now c.start.new.self events c.start.ensures stands
