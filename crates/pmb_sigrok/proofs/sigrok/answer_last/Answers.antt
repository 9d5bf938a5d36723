use Rattle.pmb_sigrok.proofs.WireLemmas.{last_answered}
use Rattle.pmb_sigrok.proofs.sigrok.answer_last.Goals as goal

pub returns-in-Some : goal.returns-in-Some
returns-in-Some c =
    last_answered c.args.is_acknowledged c.args.wire.now.items c.as_mut_slice.result.now c.in-Some.last.now
    c.as_mut_slice.ensures.value c.in-Some.ensures.item.0 c.in-Some.ensures.item.1
