use Rattle.std.proofs.Common.{List, refl, subst, sym}
use Rattle.pmb_bus.specs.declared.event.Event.{Event}
use Rattle.pmb_bus.specs.declared.event.Event.TheVariants.{Start, Nack}
use Rattle.pmb_transaction.specs.Capture.{MayFollow}
use Rattle.pmb_packet_state.specs.declared.packet_state.PacketPlace.TheVariants as places
use Rattle.pmb_packet_state.proofs.Ends.{some_events}
use Rattle.pmb_packet_state.proofs.OneKind.{bytes_alone, bytes_alone_here, not_between, start_alone, stop_alone}
use Rattle.pmb_packet_state.proofs.Steps.{at_place}
use Rattle.pmb_packet_state.proofs.packet_state.PacketState.expected.Goals as goal

pub returns-in-Between : goal.returns-in-Between
returns-in-Between c = λ profile events stands.
    let none = at_place profile c.args.self.now events places.Between c.in-Between.is stands in
    start_alone profile events (
      Start,
      subst (λ (es : List Event). MayFollow profile es Start) (sym none)
          ((c.packets_begin_with_start.ensures profile Start stands.bus).1 refl),
    )
    (λ event follows. (c.packets_begin_with_start.ensures profile event stands.bus).0
    (subst (λ (es : List Event). MayFollow profile es event) none follows))

pub returns-in-Start : goal.returns-in-Start
returns-in-Start c = λ profile events stands.
    let place = c.args.self.now.place in
    let some = c.something_follows.ensures profile events stands.goes
    (some_events profile c.args.self.now place events (not_between place c.in-Start.is) stands.place) in
    bytes_alone profile events some
    (bytes_alone_here c.events_take_turns.ensures profile stands.bus (c.bytes_alone_follow_in_an_answer.ensures profile)
    c.args.self.now place events c.in-Start.is stands.place)

pub returns-in-End : goal.returns-in-End
returns-in-End c = λ profile events stands.
    let here = at_place profile c.args.self.now events places.End c.in-End.is stands in
    let some = c.something_follows.ensures profile events stands.goes
    (some_events profile c.args.self.now places.End events (λ same. cc same) here) in
    stop_alone profile events some (λ event follows. c.events_take_turns.ensures profile here.front Nack event
    (subst (λ (es : List Event). MayFollow profile es event) here.spelled follows))
