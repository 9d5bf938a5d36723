use Rattle.std.proofs.Common.{sym, subst}
use Rattle.pmb_packet_state.specs.PacketState.{StandsIn}
use Rattle.pmb_reader.proofs.Modes.{one_event_more, one_packet_more, still_open}
use Rattle.pmb_reader.proofs.reader.Reader.read.Goals as goal

pub returns-in-On : goal.returns-in-On
returns-in-On c = λ profile n events stands.
    let inside = c.in-On.ensures profile events stands.inside in (
      inside.goes,
      record {
        mode = still_open _ _ _ _ _ stands.mode;
        counted = one_event_more _ _ n events c.args.event stands.counted c.saturating_add-self.ensures;
        inside = inside;
      },
    )

pub returns-in-Packet : goal.returns-in-Packet
returns-in-Packet c = λ profile n events stands.
    let moved = c.in-Packet.ensures profile events stands.inside in (
      moved.0,
      record {
        mode = still_open _ _ _ _ _ stands.mode;
        counted = one_packet_more _ _ _ stands.counted c.saturating_add-self-in-Packet.ensures;
        inside = moved.1;
      },
    )

pub returns-in-Refused : goal.returns-in-Refused
returns-in-Refused c = λ profile n events stands.
    let moved = c.in-Refused.ensures profile events stands.inside in
    let inside = subst (λ u. StandsIn profile u events) (sym moved.1) stands.inside in
    c.refuse.ensures profile n events (record { mode = stands.mode; counted = stands.counted; inside = inside }) moved.0
