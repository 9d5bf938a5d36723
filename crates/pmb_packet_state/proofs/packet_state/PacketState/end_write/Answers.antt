use Rattle.std.proofs.Common.{◌≤◌, List, [], ◌∷◌, ◌++◌, length, ap, subst, sym, refl, ◌∙◌}
use Rattle.pmb_bus.specs.declared.event.Event.TheVariants.{Stop}
use Rattle.pmb_transaction.specs.Transaction.{PartData, Write}
use Rattle.pmb_transaction.specs.Packet.{Packet}
use Rattle.pmb_packet_state.specs.declared.packet_state.PacketPlace.TheVariants as places
use Rattle.pmb_transaction.specs.Body.{IsWriteBody}
use Rattle.pmb_packet_state.proofs.Steps.{at_place, restarts}
use Rattle.pmb_packet_state.proofs.WrittenLegs.{kept_leg, leg_law, write_ends}
use Rattle.pmb_packet_state.proofs.packet_state.PacketState.end_write.Goals as goal

pub returns-then-push_part : goal.returns-then-push_part
returns-then-push_part c = λ profile events at stands.
    let bus = stands.bus in
    let here = at_place profile c.args.self.now events places.Leg at stands in
    let pushed = c.push_part.ensures.pushed c.if-push_part.true in
    let leg = kept_leg profile c.args.self.now pushed.written events pushed.is here in (
      subst (λ t. Packet profile t (events ++ Stop ∷ []))
          (sym (c.end_write.ensures ∙ ap (λ (ps : List PartData). Write ps) pushed.pushed))
          (write_ends profile bus c.args.self.now.kept pushed.written leg.0 events leg.1
          (c.writes_are_packets.ensures profile) pushed.part pushed.at pushed.body),
      restarts profile c.args.self.now (record c.push_part.new.self {
        place = places.Between;
        kept =
            c.end_write.new.self;
      }) events stands (pushed.same_profile ∙ stands.known) refl,
    )

pub returns-else-push_part : goal.returns-else-push_part
returns-else-push_part c = λ profile events at stands.
    let bus = stands.bus in
    let here = at_place profile c.args.self.now events places.Leg at stands in
    let law = leg_law profile bus c.args.self.now.kept here.written here.parts events here.leg Stop
    (λ device parts addr bytes. IsWriteBody device bytes) (c.writes_end_with_stop.ensures profile) in
    let few = subst (λ (ps : List PartData). length ps ≤ 15) (sym here.leg.has.same) here.leg.has.few in (
      λ turn follows. c.push_part.ensures.none c.if-push_part.false few here.written here.is (law.0 follows),
      c.push_part.ensures.same c.if-push_part.false,
    )
