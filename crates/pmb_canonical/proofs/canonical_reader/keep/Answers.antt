use Rattle.std.proofs.Common.{ℕ, ◌+◌, ◌≤◌, List, ◌++◌, length, sym, ap, subst, ◌∙◌, arith}
use Rattle.pmb_bus.specs.Event.{canonical_text}
use Rattle.pmb_canonical.specs.declared.legs.PacketShape.{PacketShape}
use Rattle.pmb_canonical.specs.declared.legs.PacketShape.TheVariants.{Both, Nacked, Written}
use Rattle.pmb_canonical.specs.Groups.{SaysPart}
use Rattle.pmb_canonical.specs.Legs.{BeginsWithLegs, SayBoth, SayLegs, SaysAlone, least, leg_events}
use Rattle.pmb_canonical.proofs.canonical_reader.keep.Goals as goal

pub returns-in-Written-clause-takes : goal.returns-in-Written-clause-takes
returns-in-Written-clause-takes c =
    let begins = subst (λ (legs : PacketShape). BeginsWithLegs legs c.args.bytes.now.items c.args.text.now)
    c.in-Written.is c.requires.begins in
    c.keep_write.ensures.takes c.args.text.now begins.0
    (begins.1 ∙ ap (λ (l : List ℕ). canonical_text (leg_events Written l) ++ begins.0) (sym c.as_slice.ensures.value))

pub returns-in-Both-clause-takes : goal.returns-in-Both-clause-takes
returns-in-Both-clause-takes c =
    let begins = subst (λ (legs : PacketShape). BeginsWithLegs legs c.args.bytes.now.items c.args.text.now) c.in-Both.is
    c.requires.begins in
    c.keep_both.ensures.takes c.args.text.now begins.0
    (begins.1 ∙ ap (λ (l : List ℕ). canonical_text (leg_events (Both c.in-Both.written) l) ++ begins.0)
    (sym c.as_slice-in-Both.ensures.value))

pub returns-in-Nacked-clause-takes : goal.returns-in-Nacked-clause-takes
returns-in-Nacked-clause-takes c =
    let begins = subst (λ (legs : PacketShape). BeginsWithLegs legs c.args.bytes.now.items c.args.text.now)
    c.in-Nacked.is c.requires.begins in
    c.keep_nacked.ensures.takes c.args.text.now begins.0
    (begins.1 ∙ ap (λ (l : List ℕ). canonical_text (leg_events Nacked l) ++ begins.0)
    (sym c.as_slice-in-Nacked.ensures.value))

pub keep_both-requires-clause-enough : goal.keep_both-requires-clause-enough
keep_both-requires-clause-enough c =
    let enough : c.in-Both.written + 1 ≤ length c.args.bytes.now.items =
    subst (λ (legs : PacketShape). least legs ≤ length c.args.bytes.now.items) c.in-Both.is c.requires.enough in
    omega (arith, enough, ap length c.as_slice-in-Both.ensures.value)

pub returns-in-Nacked-clause-answers : goal.returns-in-Nacked-clause-answers
returns-in-Nacked-clause-answers c say =
    c.keep_nacked.ensures.answers (subst (SaysAlone c.args.profile.now) (sym c.as_slice-in-Nacked.ensures.value)
    (subst (λ (legs : PacketShape). SayLegs c.args.profile.now c.args.text.now legs c.args.bytes.now.items)
    c.in-Nacked.is say))

pub returns-in-Written-clause-answers : goal.returns-in-Written-clause-answers
returns-in-Written-clause-answers c say =
    c.keep_write.ensures.answers (subst (SaysPart c.args.profile.now) (sym c.as_slice.ensures.value)
    (subst (λ (legs : PacketShape). SayLegs c.args.profile.now c.args.text.now legs c.args.bytes.now.items)
    c.in-Written.is say))

pub returns-in-Both-clause-answers : goal.returns-in-Both-clause-answers
returns-in-Both-clause-answers c say =
    c.keep_both.ensures.answers (subst (SayBoth c.args.profile.now c.in-Both.written)
    (sym c.as_slice-in-Both.ensures.value)
    (subst (λ (legs : PacketShape). SayLegs c.args.profile.now c.args.text.now legs c.args.bytes.now.items) c.in-Both.is
    say))

pub returns-in-Group-clause-answers : goal.returns-in-Group-clause-answers
returns-in-Group-clause-answers c say =
    c.take_group.ensures.answers
    (subst (λ (legs : PacketShape). SayLegs c.args.profile.now c.args.text.now legs c.args.bytes.now.items)
    c.in-Group.is say)
