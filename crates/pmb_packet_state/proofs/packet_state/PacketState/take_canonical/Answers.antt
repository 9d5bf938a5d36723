use Rattle.std.proofs.Common.{List, [], subst, sym}
use Rattle.pmb_command.specs.Parts.{DeviceParts}
use Rattle.pmb_canonical.specs.Canonical.{BeginsWithPacket}
use Rattle.pmb_packet_state.specs.declared.packet_state.PacketPlace.TheVariants as places
use Rattle.pmb_packet_state.proofs.Ends.{some_events}
use Rattle.pmb_packet_state.proofs.Steps.{at_place, restarts}
use Rattle.pmb_packet_state.proofs.Wholes.{takes_begin, takes_of_profile}
use Rattle.pmb_packet_state.proofs.packet_state.PacketState.take_canonical.Goals as goal

pub returns-in_default-clause-answers : goal.returns-in_default-clause-answers
returns-in_default-clause-answers c = λ profile events stands. (
  λ some. absurd (cc some),
  λ both. absurd
      (some_events profile c.args.self.now c.args.self.now.place events c.in_default.not-Between stands.place both.0),
)

pub returns-clause-takes : goal.returns-clause-takes
returns-clause-takes c = λ profile stands.
    takes_of_profile c.args.self.now.profile.now profile c.args.text.now c.take.new.kept.last c.take.result stands.known
    c.take.ensures.takes

pub returns-clause-answers : goal.returns-clause-answers
returns-clause-answers c = λ profile events stands.
    let none = at_place profile c.args.self.now events places.Between c.in-Between.is stands in
    let takes = takes_of_profile c.args.self.now.profile.now profile c.args.text.now c.take.new.kept.last c.take.result
    stands.known c.take.ensures.takes in (
      λ some. (none, takes_begin profile c.args.text.now c.take.new.kept.last c.take.result takes some),
      λ both. c.take.ensures.answers (subst (λ (p : List DeviceParts). BeginsWithPacket p c.args.text.now)
          (sym stands.known) both.1),
    )

pub returns-clause-stands : goal.returns-clause-stands
returns-clause-stands c = λ profile stands.
    restarts profile c.args.self.now (record c.args.self.now { kept = c.take.new.kept }) [] stands stands.known
    c.in-Between.is

pub returns-clause-inside : goal.returns-clause-inside
returns-clause-inside c = λ profile events stands some.
    absurd (some (at_place profile c.args.self.now events places.Between c.in-Between.is stands))
