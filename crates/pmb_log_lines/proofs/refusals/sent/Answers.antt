use Rattle.std.proofs.Common.{ap}
use Rattle.pmb_partial_packet.specs.PartialPacket.{leg_or_none}
use Rattle.pmb_log_lines.proofs.refusals.sent.Goals as goal

pub returns-in-Some-clause-bytes : goal.returns-in-Some-clause-bytes
returns-in-Some-clause-bytes c = λ profile front viable stands.
    ap leg_or_none (c.in-Some.ensures.bytes profile front viable stands)

pub returns-in-None-clause-bytes : goal.returns-in-None-clause-bytes
returns-in-None-clause-bytes c = λ profile front viable stands.
    ap leg_or_none (c.in-None.ensures.bytes profile front viable stands)
