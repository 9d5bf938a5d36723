use Rattle.std.proofs.Common.{rules}
use Rattle.plain_packets.proofs.packets.end_with.Goals as goal

pub push_leg-requires : goal.push_leg-requires
push_leg-requires c = search rules
