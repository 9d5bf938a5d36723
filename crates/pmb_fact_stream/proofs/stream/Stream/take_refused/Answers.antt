use Rattle.std.proofs.Common.{subst, sym}
use Rattle.pmb_json_objects.specs.Counts.{after_refusal}
use Rattle.pmb_partial_packet.specs.PartialPacket.{said_device}
use Rattle.pmb_fact_stream.specs.machine.OpenTime.{HasTime}
use Rattle.pmb_fact_stream.proofs.stream.Stream.take_refused.Goals as goal

pub returns-clause-knows : goal.returns-clause-knows
returns-clause-knows c b front knows said =
    c.pass_over.ensures.knows (record b { counts = after_refusal b.counts (said_device front) })
    (c.count_refusal.ensures.knows b front knows said)

pub returns-clause-time : goal.returns-clause-time
returns-clause-time c text events has =
    c.pass_over.ensures.time text events
    (subst (λ t. HasTime t text events) (sym c.count_refusal.ensures.times.time) has)
