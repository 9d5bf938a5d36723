use Rattle.std.proofs.Common.{[], ◌∷◌, ◌++◌, refl, sym, ◌∙◌}
use Rattle.pmb_bus.specs.declared.event.Event.TheVariants.{Byte}
use Rattle.pmb_bus.specs.Event.{canonical_text}
use Rattle.pmb_canonical.specs.declared.legs.PacketShape.TheVariants.{Written, Both, Group, Nacked}
use Rattle.pmb_canonical.specs.Front.{acked_text, end_text}
use Rattle.pmb_canonical.proofs.Beginnings.{both_first, both_second, group_first, group_is_even, is_both, is_nacked}
use Rattle.pmb_canonical.proofs.Beginnings.{nacked_first, nacked_last, not_there, read_is_odd, start_or_stop}
use Rattle.pmb_canonical.proofs.Beginnings.{written_first}
use Rattle.pmb_canonical.proofs.Spelled.{both_found, enough_both, enough_nacked, group_there, nacked_found}
use Rattle.pmb_canonical.proofs.Spelled.{written_there}
use Rattle.pmb_canonical.proofs.Texts.{nack_or_start, nack_or_stop}
use Rattle.pmb_canonical.proofs.legs.front_legs.Goals as goal

pub returns-in-Some-clause-spelled : goal.returns-in-Some-clause-spelled
returns-in-Some-clause-spelled c =
    written_there c.args.text.now c.in_ok-first.first.now c.take_acked-behind.result.now c.in-Some.field-0.now
    c.clear.new.self.items c.take_acked-behind.new.bytes.items
    c.clear.ensures c.in_ok-first.ensures.spelled c.take_acked-behind.ensures.taken c.in-Some.ensures.spelled

pub returns-then-len-eq2-clause-spelled : goal.returns-then-len-eq2-clause-spelled
returns-then-len-eq2-clause-spelled c =
    both_found c.args.text.now c.in_ok-first.first.now c.take_acked-behind.result.now c.in-Some-behind_start.second.now
    c.clear.new.self.items
    c.take_acked-behind.new.bytes.items c.take_second.new.bytes.items c.take_second.result c.clear.ensures
    c.in_ok-first.ensures.spelled
    c.take_acked-behind.ensures.taken c.in-Some-behind_start.ensures.spelled c.take_second.ensures.spelled

pub returns-clause-spelled : goal.returns-clause-spelled
returns-clause-spelled c =
    both_found c.args.text.now c.in_ok-first.first.now c.take_acked-behind.result.now c.in-Some-behind_start.second.now
    c.clear.new.self.items
    c.take_acked-behind.new.bytes.items c.take_reply.new.bytes.items c.take_reply.result c.clear.ensures
    c.in_ok-first.ensures.spelled
    c.take_acked-behind.ensures.taken c.in-Some-behind_start.ensures.spelled c.take_reply.ensures.spelled

pub returns-in-Some-clause-found : goal.returns-in-Some-clause-found
returns-in-Some-clause-found c Written all rest are follows split =
    let one =
    written_first c.args.text.now c.in_ok-first.first.now c.take_acked-behind.result.now c.clear.new.self.items
    c.take_acked-behind.new.bytes.items
    c.clear.ensures c.in_ok-first.ensures.spelled c.take_acked-behind.ensures.all all rest are split in
    (refl, one.0)
returns-in-Some-clause-found c (Both written) all rest are follows split =
    let one =
    both_first c.args.text.now c.in_ok-first.first.now c.take_acked-behind.result.now c.clear.new.self.items
    c.take_acked-behind.new.bytes.items
    c.clear.ensures c.in_ok-first.ensures.spelled c.take_acked-behind.ensures.all all rest written are split in
    absurd (start_or_stop _ c.in-Some.field-0.now c.take_acked-behind.result.now one.1 c.in-Some.ensures.spelled)
returns-in-Some-clause-found c Group all rest are follows split =
    let one =
    group_first c.args.text.now c.in_ok-first.first.now c.take_acked-behind.result.now c.clear.new.self.items
    c.take_acked-behind.new.bytes.items
    c.clear.ensures c.in_ok-first.ensures.spelled c.take_acked-behind.ensures.all all rest are follows split in
    absurd (start_or_stop _ c.in-Some.field-0.now c.take_acked-behind.result.now
    (one.1 ∙ follows.split) c.in-Some.ensures.spelled)
returns-in-Some-clause-found c Nacked all rest are follows split =
    let one =
    nacked_first c.args.text.now c.in_ok-first.first.now c.take_acked-behind.result.now c.clear.new.self.items
    c.take_acked-behind.new.bytes.items
    c.clear.ensures c.in_ok-first.ensures.spelled c.take_acked-behind.ensures.all all rest are split in
    absurd (nack_or_stop (is_nacked all are).last rest c.in-Some.field-0.now c.take_acked-behind.result.now
    (is_nacked all are).small_last one.1 c.in-Some.ensures.spelled)

pub returns-in_default-behind_start-clause-spelled : goal.returns-in_default-behind_start-clause-spelled
returns-in_default-behind_start-clause-spelled c =
    nacked_found c.args.text.now c.in_ok-first.first.now c.take_acked-behind.result.now c.clear.new.self.items
    c.take_acked-behind.new.bytes.items c.take_nacked.new.bytes.items c.take_nacked.result c.clear.ensures
    c.in_ok-first.ensures.spelled
    c.take_acked-behind.ensures.taken c.take_nacked.ensures.spelled

pub returns-in_default-behind_start-clause-enough : goal.returns-in_default-behind_start-clause-enough
returns-in_default-behind_start-clause-enough c =
    enough_nacked c.take_acked-behind.result.now c.take_acked-behind.new.bytes.items c.take_nacked.new.bytes.items
    c.take_nacked.result c.take_nacked.ensures.spelled

pub returns-in_default-behind_start-clause-found : goal.returns-in_default-behind_start-clause-found
returns-in_default-behind_start-clause-found c Written all rest are follows split =
    let one =
    written_first c.args.text.now c.in_ok-first.first.now c.take_acked-behind.result.now c.clear.new.self.items
    c.take_acked-behind.new.bytes.items
    c.clear.ensures c.in_ok-first.ensures.spelled c.take_acked-behind.ensures.all all rest are split in
    absurd (not_there c.behind_stop.result (c.behind_stop.ensures.found rest one.1) c.in_default.not-Some)
returns-in_default-behind_start-clause-found c (Both written) all rest are follows split =
    let both = is_both written all are in
    let one =
    both_first c.args.text.now c.in_ok-first.first.now c.take_acked-behind.result.now c.clear.new.self.items
    c.take_acked-behind.new.bytes.items
    c.clear.ensures c.in_ok-first.ensures.spelled c.take_acked-behind.ensures.all all rest written are split in
    absurd (not_there c.behind_start-2.result
    (c.behind_start-2.ensures.found (acked_text both.back ++ (end_text both.last ++ rest)) one.1)
    c.in_default-behind_start.not-Some)
returns-in_default-behind_start-clause-found c Group all rest are follows split =
    let one =
    group_first c.args.text.now c.in_ok-first.first.now c.take_acked-behind.result.now c.clear.new.self.items
    c.take_acked-behind.new.bytes.items
    c.clear.ensures c.in_ok-first.ensures.spelled c.take_acked-behind.ensures.all all rest are follows split in
    absurd (not_there c.behind_start-2.result
    (c.behind_start-2.ensures.found (canonical_text (Byte follows.byte ∷ []) ++ follows.more)
    (one.1 ∙ follows.split)) c.in_default-behind_start.not-Some)
returns-in_default-behind_start-clause-found c Nacked all rest are follows split =
    let one =
    nacked_first c.args.text.now c.in_ok-first.first.now c.take_acked-behind.result.now c.clear.new.self.items
    c.take_acked-behind.new.bytes.items
    c.clear.ensures c.in_ok-first.ensures.spelled c.take_acked-behind.ensures.all all rest are split in
    nacked_last c.take_acked-behind.result.now c.take_acked-behind.new.bytes.items c.take_nacked.new.bytes.items all
    rest c.take_nacked.result are one.0
    c.take_nacked.ensures.found one.1

pub returns-then-len-eq2-clause-found : goal.returns-then-len-eq2-clause-found
returns-then-len-eq2-clause-found c Written all rest are follows split =
    let one =
    written_first c.args.text.now c.in_ok-first.first.now c.take_acked-behind.result.now c.clear.new.self.items
    c.take_acked-behind.new.bytes.items
    c.clear.ensures c.in_ok-first.ensures.spelled c.take_acked-behind.ensures.all all rest are split in
    absurd (not_there c.behind_stop.result (c.behind_stop.ensures.found rest one.1) c.in_default.not-Some)
returns-then-len-eq2-clause-found c (Both written) all rest are follows split =
    let one =
    both_first c.args.text.now c.in_ok-first.first.now c.take_acked-behind.result.now c.clear.new.self.items
    c.take_acked-behind.new.bytes.items
    c.clear.ensures c.in_ok-first.ensures.spelled c.take_acked-behind.ensures.all all rest written are split in
    both_second written c.take_acked-behind.result.now c.in-Some-behind_start.second.now
    c.take_acked-behind.new.bytes.items c.take_second.new.bytes.items all rest
    c.take_second.result are one.0 c.in-Some-behind_start.ensures.spelled c.take_second.ensures.found one.1
returns-then-len-eq2-clause-found c Group all rest are follows split =
    let one =
    group_first c.args.text.now c.in_ok-first.first.now c.take_acked-behind.result.now c.clear.new.self.items
    c.take_acked-behind.new.bytes.items
    c.clear.ensures c.in_ok-first.ensures.spelled c.take_acked-behind.ensures.all all rest are follows split in
    absurd (cc (sym (group_is_even c.take_acked-behind.result.now c.in-Some-behind_start.second.now rest
    c.is_even.result follows c.in-Some-behind_start.ensures.spelled c.is_even.ensures one.1) ∙ c.if-is_even.false))
returns-then-len-eq2-clause-found c Nacked all rest are follows split =
    let one =
    nacked_first c.args.text.now c.in_ok-first.first.now c.take_acked-behind.result.now c.clear.new.self.items
    c.take_acked-behind.new.bytes.items
    c.clear.ensures c.in_ok-first.ensures.spelled c.take_acked-behind.ensures.all all rest are split in
    absurd (nack_or_start (is_nacked all are).last rest c.in-Some-behind_start.second.now c.take_acked-behind.result.now
    (is_nacked all are).small_last one.1 c.in-Some-behind_start.ensures.spelled)

pub returns-clause-found : goal.returns-clause-found
returns-clause-found c Written all rest are follows split =
    let one =
    written_first c.args.text.now c.in_ok-first.first.now c.take_acked-behind.result.now c.clear.new.self.items
    c.take_acked-behind.new.bytes.items
    c.clear.ensures c.in_ok-first.ensures.spelled c.take_acked-behind.ensures.all all rest are split in
    absurd (not_there c.behind_stop.result (c.behind_stop.ensures.found rest one.1) c.in_default.not-Some)
returns-clause-found c (Both written) all rest are follows split =
    let one =
    both_first c.args.text.now c.in_ok-first.first.now c.take_acked-behind.result.now c.clear.new.self.items
    c.take_acked-behind.new.bytes.items
    c.clear.ensures c.in_ok-first.ensures.spelled c.take_acked-behind.ensures.all all rest written are split in
    both_second written c.take_acked-behind.result.now c.in-Some-behind_start.second.now
    c.take_acked-behind.new.bytes.items c.take_reply.new.bytes.items all rest
    c.take_reply.result are one.0 c.in-Some-behind_start.ensures.spelled c.take_reply.ensures.found one.1
returns-clause-found c Group all rest are follows split =
    let one =
    group_first c.args.text.now c.in_ok-first.first.now c.take_acked-behind.result.now c.clear.new.self.items
    c.take_acked-behind.new.bytes.items
    c.clear.ensures c.in_ok-first.ensures.spelled c.take_acked-behind.ensures.all all rest are follows split in
    absurd (cc (sym (group_is_even c.take_acked-behind.result.now c.in-Some-behind_start.second.now rest
    c.is_even.result follows c.in-Some-behind_start.ensures.spelled c.is_even.ensures one.1) ∙ c.if-is_even.false))
returns-clause-found c Nacked all rest are follows split =
    let one =
    nacked_first c.args.text.now c.in_ok-first.first.now c.take_acked-behind.result.now c.clear.new.self.items
    c.take_acked-behind.new.bytes.items
    c.clear.ensures c.in_ok-first.ensures.spelled c.take_acked-behind.ensures.all all rest are split in
    absurd (nack_or_start (is_nacked all are).last rest c.in-Some-behind_start.second.now c.take_acked-behind.result.now
    (is_nacked all are).small_last one.1 c.in-Some-behind_start.ensures.spelled)

pub returns-then-is_even-clause-spelled : goal.returns-then-is_even-clause-spelled
returns-then-is_even-clause-spelled c =
    group_there c.args.text.now c.in_ok-first.first.now c.take_acked-behind.result.now c.clear.new.self.items
    c.take_acked-behind.new.bytes.items
    c.clear.ensures c.in_ok-first.ensures.spelled c.take_acked-behind.ensures.taken

pub returns-then-is_even-clause-found : goal.returns-then-is_even-clause-found
returns-then-is_even-clause-found c Written all rest are follows split =
    let one =
    written_first c.args.text.now c.in_ok-first.first.now c.take_acked-behind.result.now c.clear.new.self.items
    c.take_acked-behind.new.bytes.items
    c.clear.ensures c.in_ok-first.ensures.spelled c.take_acked-behind.ensures.all all rest are split in
    absurd (not_there c.behind_stop.result (c.behind_stop.ensures.found rest one.1) c.in_default.not-Some)
returns-then-is_even-clause-found c (Both written) all rest are follows split =
    let one =
    both_first c.args.text.now c.in_ok-first.first.now c.take_acked-behind.result.now c.clear.new.self.items
    c.take_acked-behind.new.bytes.items
    c.clear.ensures c.in_ok-first.ensures.spelled c.take_acked-behind.ensures.all all rest written are split in
    absurd (read_is_odd written c.take_acked-behind.result.now c.in-Some-behind_start.second.now all rest
    c.is_even.result are c.in-Some-behind_start.ensures.spelled c.is_even.ensures one.1 c.if-is_even.true)
returns-then-is_even-clause-found c Group all rest are follows split =
    let one =
    group_first c.args.text.now c.in_ok-first.first.now c.take_acked-behind.result.now c.clear.new.self.items
    c.take_acked-behind.new.bytes.items
    c.clear.ensures c.in_ok-first.ensures.spelled c.take_acked-behind.ensures.all all rest are follows split in
    (refl, one.0)
returns-then-is_even-clause-found c Nacked all rest are follows split =
    let one =
    nacked_first c.args.text.now c.in_ok-first.first.now c.take_acked-behind.result.now c.clear.new.self.items
    c.take_acked-behind.new.bytes.items
    c.clear.ensures c.in_ok-first.ensures.spelled c.take_acked-behind.ensures.all all rest are split in
    absurd (nack_or_start (is_nacked all are).last rest c.in-Some-behind_start.second.now c.take_acked-behind.result.now
    (is_nacked all are).small_last one.1 c.in-Some-behind_start.ensures.spelled)

pub returns-then-len-eq2-clause-enough : goal.returns-then-len-eq2-clause-enough
returns-then-len-eq2-clause-enough c =
    enough_both c.in-Some-behind_start.second.now c.take_acked-behind.new.bytes.items c.take_second.new.bytes.items
    c.take_second.result c.take_second.ensures.spelled

pub returns-clause-enough : goal.returns-clause-enough
returns-clause-enough c =
    enough_both c.in-Some-behind_start.second.now c.take_acked-behind.new.bytes.items c.take_reply.new.bytes.items
    c.take_reply.result c.take_reply.ensures.spelled
