use Rattle.pmb_canonical.proofs.PacketLegs.{takes_write}
use Rattle.pmb_canonical.proofs.canonical_reader.keep_write.Goals as goal

pub returns-in_err-said-clause-answers : goal.returns-in_err-said-clause-answers
returns-in_err-said-clause-answers c say = absurd (cc (c.in_err-said.ensures.found say.0 say.1 say.2 say.3 say.4))

pub returns-clause-takes : goal.returns-clause-takes
returns-clause-takes c text rest split =
    let said = c.in_ok-said.said in
    rw c.end_single.ensures
    (
    takes_write c.args.profile.now text rest said.address said.code said.data.bytes.now said.data.pec c.args.bytes.now _
    _
    c.in_ok-said.ensures.says split c.one_leg.ensures.used c.one_leg.ensures.events
    )
