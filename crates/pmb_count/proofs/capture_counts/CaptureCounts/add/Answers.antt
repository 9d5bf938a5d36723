use Rattle.std.proofs.Common.{refl, subst}
use Rattle.pmb_reader.specs.declared.reader.Took.{Took}
use Rattle.pmb_reader.specs.Refusal.{refusal_data}
use Rattle.pmb_count.specs.Count.{IsAdded}
use Rattle.pmb_count.proofs.Sums.{none_more, packet_more, refusal_more}
use Rattle.pmb_count.proofs.capture_counts.CaptureCounts.add.Goals as goal

pub returns-in-Continues : goal.returns-in-Continues
returns-in-Continues c = λ outcomes added is more.
    none_more c.args.self outcomes added is (subst (λ (t : Took). IsAdded t added) c.in-Continues.is more)

pub returns-in-Packet : goal.returns-in-Packet
returns-in-Packet c = λ outcomes added is more.
    let one = subst (λ (t : Took). IsAdded t added) c.in-Packet.is more in
    packet_more c.args.self _ outcomes added one.0 is one.1 c.saturating_add.ensures refl

pub returns-in-Refused : goal.returns-in-Refused
returns-in-Refused c = λ outcomes added is more.
    let one = subst (λ (t : Took). IsAdded t added) c.in-Refused.is more in
    refusal_more c.args.self _ outcomes added (refusal_data c.in-Refused.field-0) is one refl
    c.saturating_add-in-Refused.ensures
