use Rattle.std.proofs.Common.{Some, ap, ◌∙◌}
use Rattle.pmb_line.specs.declared.token.Token.TheVariants.{Pec}
use Rattle.pmb_line.proofs.WantedWord.{took}
use Rattle.pmb_line.proofs.pieces.take_pec.Goals as goal

pub returns-in-Pec-clause-takes : goal.returns-in-Pec-clause-takes
returns-in-Pec-clause-takes c = took _ _ c.in-Some.word Pec c.in-Some.ensures.some
    (c.in-Some-token.is ∙ ap Some c.in-Pec.is)
