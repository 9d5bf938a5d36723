use Rattle.std.proofs.Common.{List, [], ◌∷◌, ◌++◌, ap, length, length-append, subst, sym, ◌∙◌, arith}
use Rattle.pmb_bus.specs.declared.event.Event.TheVariants.{Stop}
use Rattle.pmb_bus.specs.Event.{canonical_text}
use Rattle.pmb_transaction.specs.Transaction.{PartData}
use Rattle.pmb_canonical.specs.Canonical.{nacked_leg}
use Rattle.pmb_canonical.specs.Nacked.{IsOfNacked, SaysNacked}
use Rattle.pmb_canonical.proofs.Alone.{refused_there, takes_alert}
use Rattle.pmb_canonical.proofs.Ends.{length-nacked_leg_text}
use Rattle.pmb_canonical.proofs.Groups.{none_taken}
use Rattle.pmb_canonical.proofs.RefusedLegs.{takes_refused}
use Rattle.pmb_canonical.proofs.canonical_reader.keep_nacked.Goals as goal

pub returns-then-keep_alert-clause-takes : goal.returns-then-keep_alert-clause-takes
returns-then-keep_alert-clause-takes c text rest split =
    takes_alert c.args.profile.now text rest c.keep_alert.new.kept.last c.args.bytes.now _ _
    (c.keep_alert.ensures.keeps c.if-keep_alert.true) split
    c.one_leg.ensures.used c.one_leg.ensures.events

pub returns-then-not-keep_refused-clause-answers : goal.returns-then-not-keep_refused-clause-answers
returns-then-not-keep_refused-clause-answers c say =
    let profile = c.args.profile.now in
    let bytes = c.args.bytes.now in
    let refused = refused_there profile bytes
    (λ t says. cc (sym (c.keep_alert.ensures.found t says) ∙ c.if-keep_alert.false)) say in
    let says = subst (λ (parts : List PartData). SaysNacked profile parts bytes) (sym c.begin.ensures) refused in
    absurd (cc (sym (c.keep_refused.ensures.found says) ∙ c.if-not-keep_refused.true))

pub returns-clause-takes : goal.returns-clause-takes
returns-clause-takes c text rest split =
    let bytes = c.args.bytes.now in
    let last = c.keep_refused.new.kept.last in
    let keeps : IsOfNacked c.args.profile.now [] bytes last =
    subst (λ (parts : List PartData). IsOfNacked c.args.profile.now parts bytes last) c.begin.ensures
    (c.keep_refused.ensures.keeps c.if-not-keep_refused.false) in
    takes_refused c.args.profile.now text [] 1 text bytes rest last _ _ (none_taken c.args.profile.now text) keeps split
    (omega (
      arith,
      c.one_leg-2.ensures.used,
      ap length split,
      length-append (canonical_text (nacked_leg bytes ++ Stop ∷ [])) rest,
      length-nacked_leg_text bytes,
    ))
    (omega (arith, c.one_leg-2.ensures.events))
