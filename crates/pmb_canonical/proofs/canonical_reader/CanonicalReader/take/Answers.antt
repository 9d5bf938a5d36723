use Rattle.std.proofs.Common.{◌≡◌, ℕ, List, sym, subst}
use Rattle.std.proofs.lemmas.Option.{same_Some}
use Rattle.pmb_canonical.specs.declared.legs.PacketShape.{PacketShape}
use Rattle.pmb_canonical.specs.Legs.{SayLegs}
use Rattle.pmb_canonical.proofs.Between.{within_text}
use Rattle.pmb_canonical.proofs.PacketLegs.{packet_legs}
use Rattle.pmb_canonical.proofs.canonical_reader.CanonicalReader.take.Goals as goal

pub returns-in_err-legs-clause-answers : goal.returns-in_err-legs-clause-answers
returns-in_err-legs-clause-answers c begins =
    let bus = c.accepted_bus.ensures in
    let there = packet_legs c.args.profile.now bus
    (λ t events packet. c.packets_are_bytes.ensures c.args.profile.now t events bus packet)
    c.bodies_are_short.ensures.front c.bodies_are_short.ensures.body c.args.text.now begins in
    absurd (cc ((c.in_err-legs.ensures.found there.legs there.all there.rest there.are there.follows there.split).0))

pub returns-clause-answers : goal.returns-clause-answers
returns-clause-answers c begins =
    let bus = c.accepted_bus.ensures in
    let there = packet_legs c.args.profile.now bus
    (λ t events packet. c.packets_are_bytes.ensures c.args.profile.now t events bus packet)
    c.bodies_are_short.ensures.front c.bodies_are_short.ensures.body c.args.text.now begins in
    let found = c.in_ok-legs.ensures.found there.legs there.all there.rest there.are there.follows there.split in
    let same_legs : there.legs ≡ c.in_ok-legs.legs = sym (same_Some c.in_ok-legs.legs there.legs found.0) in
    c.keep.ensures.answers
    (subst (λ (all : List ℕ). SayLegs c.args.profile.now c.args.text.now c.in_ok-legs.legs all) (sym found.1)
    (subst (λ (legs : PacketShape). SayLegs c.args.profile.now c.args.text.now legs there.all) same_legs there.say))

pub returns-clause-within : goal.returns-clause-within
returns-clause-within c = within_text c.args.profile.now c.args.text.now c.keep.new.kept.last c.keep.result
    c.keep.ensures.takes
