use Rattle.std.proofs.Common.{[], refl, sym, subst}
use Rattle.pmb_bus.specs.Event.{canonical_text}
use Rattle.pmb_io.specs.Outgoing.{PutsText}
use Rattle.pmb_build.proofs.packet.put_packet.Goals as goal

-- Room is made, and the text waits after what waits then.
pub returns-clause-puts : goal.returns-clause-puts
returns-clause-puts g c =
    let appended = c.append_packet.ensures in
    let held = (g.W.Sink.told c.make_room.new.writer).held in
    let waiting = c.make_room.new.waiting.items in
    let text = canonical_text appended.events in record {
      text = text;
      writes = c.texts_add_up.ensures.both (g.W.Sink.told c.args.writer.now).held held held c.args.waiting.now.items
          waiting c.append_packet.new.text.items [] text
          c.in_ok-make_room.ensures.ok
          (subst (λ waits. PutsText held waiting held waits text) (sym appended.appended)
          (c.texts_add_up.ensures.waits held waiting text));
      holds = record { events = appended.events; packet = appended.packet; whole = refl };
    }
