use Rattle.pmb_io.proofs.LineRuns.{stands_fresh}
use Rattle.pmb_io.proofs.lines.Lines.new.Goals as goal

pub returns-clause-begins : goal.returns-clause-begins
returns-clause-begins g c given = stands_fresh (g.T.LineTask.Stands c.args.task c.args.task) g.row.MOST
    c.new.result.items c.new.ensures given
