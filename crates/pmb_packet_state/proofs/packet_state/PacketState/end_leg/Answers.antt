use Rattle.std.proofs.Common.{List, length, ap, sym, refl, ◌∙◌}
use Rattle.pmb_bus.specs.declared.event.Event.TheVariants.{Start}
use Rattle.pmb_transaction.specs.Transaction.{PartData}
use Rattle.pmb_packet_state.specs.declared.packet_state.PacketPlace.TheVariants as places
use Rattle.pmb_transaction.specs.Following.{LegMayFollow}
use Rattle.pmb_packet_state.proofs.Steps.{at_place, moves_to}
use Rattle.pmb_packet_state.proofs.WrittenLegs.{kept_leg, leg_law}
use Rattle.pmb_packet_state.proofs.packet_state.PacketState.end_leg.Goals as goal

pub returns-then-not-leg_may_follow : goal.returns-then-not-leg_may_follow
returns-then-not-leg_may_follow c = λ profile events at stands.
    let bus = stands.bus in
    let here = at_place profile c.args.self.now events places.Leg at stands in
    let leg = kept_leg profile c.args.self.now c.in-Some.leg events c.in-Some.is here in
    let law =
    leg_law profile bus c.args.self.now.kept c.in-Some.leg leg.0 events leg.1 Start
    (λ device parts addr bytes. LegMayFollow device parts bytes)
    (c.legs_follow_whole_bodies.ensures profile) in
    let count = ap (λ (ps : List PartData). length ps) (sym leg.1.has.same) ∙ sym c.part_count.ensures in
    let may = c.leg_may_follow.ensures leg.0 count leg.1.place in
    (λ turn follows. cc (may.1 (law.0 follows), c.if-not-leg_may_follow.true), refl)

pub returns : goal.returns
returns c = λ profile events at stands.
    let bus = stands.bus in
    let here = at_place profile c.args.self.now events places.Leg at stands in
    let leg = kept_leg profile c.args.self.now c.in-Some.leg events c.in-Some.is here in
    let law =
    leg_law profile bus c.args.self.now.kept c.in-Some.leg leg.0 events leg.1 Start
    (λ device parts addr bytes. LegMayFollow device parts bytes)
    (c.legs_follow_whole_bodies.ensures profile) in
    let count = ap (λ (ps : List PartData). length ps) (sym leg.1.has.same) ∙ sym c.part_count.ensures in
    let may = (c.leg_may_follow.ensures leg.0 count leg.1.place).0 c.if-not-leg_may_follow.false in
    moves_to profile c.args.self.now places.Restart events Start stands.known stands.bus (law.1 may) (λ e. cc e)
    (
    record {
      written = c.in-Some.leg;
      is = c.in-Some.is;
      parts = leg.0;
      front = events;
      leg = leg.1;
      spelled = refl;
    }
    )
