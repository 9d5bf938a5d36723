use Rattle.std.proofs.Common.{◌<◌, ◌≤◌, ◌*◌, List, ◌∷◌, length, ap, subst, sym, arith, refl, ◌∙◌}
use Rattle.pmb_bus.specs.declared.event.Event.TheVariants.{Byte}
use Rattle.pmb_command.specs.Parts.{IsNew}
use Rattle.pmb_transaction.specs.Transaction.{PartData}
use Rattle.pmb_transaction.specs.Packet.{addresses}
use Rattle.pmb_packet_state.specs.declared.packet_state.PacketPlace.TheVariants as places
use Rattle.pmb_transaction.specs.Following.{next_leg}
use Rattle.pmb_packet_state.proofs.Steps.{at_place, moves_on}
use Rattle.pmb_packet_state.proofs.WrittenLegs.{NextPart, is_next_part, kept_start, part_begins, restart_law}
use Rattle.pmb_packet_state.proofs.packet_state.PacketState.begin_part.Goals as goal

pub returns-then-part_count-ge-MOST_BEFORE : goal.returns-then-part_count-ge-MOST_BEFORE
returns-then-part_count-ge-MOST_BEFORE c = λ profile events at stands.
    let bus = stands.bus in
    let here = at_place profile c.args.self.now events places.Restart at stands in
    let law =
    restart_law profile bus c.args.self.now.kept here.written here.parts here.front here.leg events (2 * c.args.addr)
    (λ parts legs addr device bytes. c.later_addresses.ensures profile parts legs addr device bytes
    (2 * c.args.addr)) here.spelled in
    let count = ap (λ (ps : List PartData). length ps) here.leg.has.same in (
      λ turn follows.
          let next : NextPart here.written.device here.parts here.written.device.address here.written.bytes
          c.args.addr = is_next_part _ _ _ _ _ (law.0 follows) in
          omega (arith, count, next.few, c.part_count.ensures, c.if-part_count-ge-MOST_BEFORE.true),
      refl,
    )

pub returns-then-has_leg_to : goal.returns-then-has_leg_to
returns-then-has_leg_to c = λ profile events at stands.
    let bus = stands.bus in
    let here = at_place profile c.args.self.now events places.Restart at stands in
    let law =
    restart_law profile bus c.args.self.now.kept here.written here.parts here.front here.leg events (2 * c.args.addr)
    (λ parts legs addr device bytes. c.later_addresses.ensures profile parts legs addr device bytes
    (2 * c.args.addr)) here.spelled in (
      λ turn follows.
          let next : NextPart here.written.device here.parts here.written.device.address here.written.bytes
          c.args.addr = is_next_part _ _ _ _ _ (law.0 follows) in
          let new = subst (λ (ps : List PartData). IsNew c.args.addr (here.written.device.address ∷ addresses ps))
          (sym here.leg.has.same) next.new in
          cc (new, c.has_leg_to.ensures here.written here.is, c.if-has_leg_to.true),
      refl,
    )

pub returns-then-not-push_part : goal.returns-then-not-push_part
returns-then-not-push_part c = λ profile events at stands.
    let bus = stands.bus in
    let here = at_place profile c.args.self.now events places.Restart at stands in
    let law =
    restart_law profile bus c.args.self.now.kept here.written here.parts here.front here.leg events (2 * c.args.addr)
    (λ parts legs addr device bytes. c.later_addresses.ensures profile parts legs addr device bytes
    (2 * c.args.addr)) here.spelled in
    let few = subst (λ (ps : List PartData). length ps ≤ 15) (sym here.leg.has.same) here.leg.has.few in (
      λ turn follows.
          let next : NextPart here.written.device here.parts here.written.device.address here.written.bytes
          c.args.addr = is_next_part _ _ _ _ _ (law.0 follows) in
          c.push_part.ensures.none c.if-not-push_part.true few here.written here.is next.body,
      c.push_part.ensures.same c.if-not-push_part.true,
    )

pub returns : goal.returns
returns c = λ profile events at stands.
    let bus = stands.bus in
    let here = at_place profile c.args.self.now events places.Restart at stands in
    let pushed = c.push_part.ensures.pushed c.if-not-push_part.false in
    let leg = kept_start profile c.args.self.now pushed.written events pushed.is here in
    let law =
    restart_law profile bus c.args.self.now.kept pushed.written leg.0 leg.1 leg.2 events (2 * c.args.addr)
    (λ parts legs addr device bytes. c.later_addresses.ensures profile parts legs addr device bytes
    (2 * c.args.addr)) leg.3 in
    let count = ap (λ (ps : List PartData). length ps) leg.2.has.same in
    let few : length leg.0 < 15 = omega (arith, count, c.part_count.ensures, c.if-part_count-ge-MOST_BEFORE.false) in
    let kept_new : IsNew c.args.addr (pushed.written.device.address ∷ addresses _) =
    sym (c.has_leg_to.ensures pushed.written pushed.is) ∙ c.if-has_leg_to.false in
    let new = subst (λ (ps : List PartData). IsNew c.args.addr (pushed.written.device.address ∷ addresses ps))
    leg.2.has.same kept_new in
    let seven : c.args.addr < 128 = c.requires in
    moves_on profile events (Byte (2 * c.args.addr))
    (record c.push_part.new.self { place = places.Address c.args.addr }) (pushed.same_profile ∙ stands.known)
    stands.bus
    (law.1 (next_leg c.args.addr (pushed.part.code, pushed.part.bytes, pushed.part.pec, pushed.body) few seven new
    refl)) (λ e. cc e)
    (
    part_begins profile bus c.args.self.now (record c.push_part.new.self { place = places.Address c.args.addr })
    pushed.written leg.0 leg.1 events c.args.addr leg.2 leg.3 few seven
    kept_new (c.one_part_more.ensures profile) pushed.part pushed.at pushed.body pushed.pushed
    )
