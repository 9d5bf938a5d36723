use Rattle.std.proofs.Common.{◌≡◌, List, [], ◌∷◌, ◌++◌, ap, subst, sym, ◌∙◌, refl}
use Rattle.pmb_bus.specs.declared.event.Event.{Event}
use Rattle.pmb_bus.specs.declared.event.Event.TheVariants.{Start}
use Rattle.pmb_transaction.specs.Capture.{MayFollow}
use Rattle.pmb_packet_state.specs.declared.packet_state.PacketPlace.TheVariants as places
use Rattle.pmb_packet_state.proofs.Steps.{at_place, moves_on}
use Rattle.pmb_packet_state.proofs.packet_state.PacketState.begin.Goals as goal

pub returns-in_default : goal.returns-in_default
returns-in_default c = λ profile events at stands.
    let bus = stands.bus in
    let none = at_place profile c.args.self.now events places.Between at stands in (
      λ turn follows. c.in_default.not-Start ((c.packets_begin_with_start.ensures profile c.args.event bus).0
          (subst (λ es. MayFollow profile es c.args.event) none follows)),
      refl,
    )

pub returns : goal.returns
returns c = λ profile events at stands.
    let bus = stands.bus in
    let none = at_place profile c.args.self.now events places.Between at stands in
    let follows : MayFollow profile events c.args.event =
    subst (λ (es : List Event). MayFollow profile es c.args.event) (sym none)
    ((c.packets_begin_with_start.ensures profile c.args.event bus).1 c.in-Start.is) in
    let spelled : events ++ c.args.event ∷ [] ≡ Start ∷ [] =
    ap (λ (es : List Event). es ++ c.args.event ∷ []) none ∙ ap (λ (e : Event). e ∷ []) c.in-Start.is in
    moves_on profile events c.args.event (record c.args.self.now { place = places.Start; kept = c.begin.new.self })
    stands.known stands.bus follows
    (λ stop. cc (c.in-Start.is, stop)) (spelled, c.begin.ensures)
