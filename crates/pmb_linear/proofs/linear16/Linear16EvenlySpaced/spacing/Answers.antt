use Rattle.std.proofs.Common.{inl}
use Rattle.pmb_linear.proofs.LinearRows.{rises-linear16}
use Rattle.pmb_linear.proofs.linear16.Linear16EvenlySpaced.spacing.Goals as goal

pub returns-clause-in_order : goal.returns-clause-in_order
returns-clause-in_order g c = inl (rises-linear16 g.W.Word.number g.W.Word.at g.W.Word.least_number c.args.self.now
    c.counts.ensures)
