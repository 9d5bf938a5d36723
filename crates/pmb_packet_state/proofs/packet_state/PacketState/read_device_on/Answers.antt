use Rattle.std.proofs.Common.{List, subst, sym}
use Rattle.pmb_bus.specs.declared.event.Event.{Event}
use Rattle.pmb_bus.specs.declared.event.Event.TheVariants.{Ack}
use Rattle.pmb_transaction.specs.Capture.{MayFollow}
use Rattle.pmb_packet_state.specs.declared.packet_state.PacketPlace.TheVariants as places
use Rattle.pmb_packet_state.specs.declared.packet_state.Answerer.TheVariants as sources
use Rattle.pmb_packet_state.proofs.Steps.{at_place, moves_on}
use Rattle.pmb_packet_state.proofs.AnsweredLegs.{asked_with, asking_before, leg_begins_answer}
use Rattle.pmb_packet_state.proofs.packet_state.PacketState.read_device_on.Goals as goal

pub returns-then-not-is_asking : goal.returns-then-not-is_asking
returns-then-not-is_asking c = λ profile events at stands.
    let here = at_place profile c.args.self.now events (places.ReadAddress sources.Device) at stands in
    let asked = asking_before profile c.args.self.now here.front here.addr here.asked c.in-Some.leg c.in-Some.is in
    absurd (cc (c.is_asking.ensures.1 asked, c.if-not-is_asking.true))

pub returns : goal.returns
returns c = λ profile events at stands.
    let bus = stands.bus in
    let here = at_place profile c.args.self.now events (places.ReadAddress sources.Device) at stands in
    let law = c.reads_may_be_taken.ensures profile here.asked.written.device.address here.asked.written.device
    here.asked.written.bytes bus here.asked.known here.asked.request in
    let is = asked_with profile c.args.self.now events here in
    let after = record c.args.self.now { place = places.Answer sources.Device; answer = c.ask.new.answer } in
    moves_on profile events Ack after stands.known stands.bus
    (subst (λ (es : List Event). MayFollow profile es Ack) (sym is) law) (λ e. cc e)
    (
    record {
      front = here.front;
      addr = here.addr;
      asked = record {
        alone = here.asked.alone;
        written = here.asked.written;
        is = here.asked.is;
        known = here.asked.known;
        first = here.asked.first;
        request = here.asked.request;
        at = here.asked.at;
        spelled = here.asked.spelled;
      };
      answers = record {
        written = c.in-Some.leg;
        is = c.in-Some.is;
        answers = c.ask.ensures.answers;
        says =
            c.ask.ensures.says;
      };
      spelled = leg_begins_answer events here.front here.addr c.ask.new.answer.bytes here.spelled c.ask.ensures.fresh;
    }
    )
