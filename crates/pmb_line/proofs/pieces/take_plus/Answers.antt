use Rattle.std.proofs.Common.{Some, ap, ◌∙◌}
use Rattle.pmb_line.specs.declared.token.Token.TheVariants.{Plus}
use Rattle.pmb_line.proofs.WantedWord.{took}
use Rattle.pmb_line.proofs.pieces.take_plus.Goals as goal

pub returns-in-Plus-clause-takes : goal.returns-in-Plus-clause-takes
returns-in-Plus-clause-takes c = took _ _ c.in-Some.word Plus c.in-Some.ensures.some
    (c.in-Some-token.is ∙ ap Some c.in-Plus.is)
