use Rattle.std.proofs.Common.{ℕ, subst, sym}
use Rattle.pmb_io.specs.Lines.{ended_lines, lines_of}
use Rattle.pmb_io.proofs.RunLemmas.{ended_as, failed_as, tool_ran_into}
use Rattle.pmb_io.proofs.lines.each_line.Goals as goal

pub new-lines-requires : goal.new-lines-requires
new-lines-requires g c = c.requires.room

pub each_piece-requires-room-E-Engine : goal.each_piece-requires-room-E-Engine
each_piece-requires-room-E-Engine g c κs within = c.requires.room

pub each_piece-requires : goal.each_piece-requires
each_piece-requires g c = c.new-lines.ensures.begins c.requires.begins

-- What was put out is the text for the lines that had ended.
pub returns-in_err-each_piece : goal.returns-in_err-each_piece
returns-in_err-each_piece g c =
    let now = c.each_piece.new.engine.task in
    tool_ran_into g.R.Source.told g.W.Sink.told _ _ _ _ c.from_residual.result _ c.from_residual.ensures.1
    (failed_as g.R.Source.told g.W.Sink.told _ _ _ _ (g.T.LineTask.job c.args.task) _
    (λ bytes text stands. g.T.LineTask.writes_front c.args.task now bytes text
    (subst (λ (most : ℕ). g.T.LineTask.Stands c.args.task now (ended_lines most bytes) text) c.requires.most
    (subst (λ start. g.T.LineTask.Stands start now (ended_lines g.row.MOST bytes) text) c.new-lines.ensures.task
    stands.given)))
    c.in_err-each_piece.ensures)

-- It is the text for all lines.
pub returns : goal.returns
returns g c =
    let now = c.each_piece.new.engine.task in
    ended_as g.R.Source.told g.W.Sink.told _ _ _ _ (g.T.LineTask.job c.args.task) _ c.tally.result
    (λ bytes text ends. subst (λ tally. (g.T.LineTask.job c.args.task).Whole tally bytes text) (sym c.tally.ensures)
    (g.T.LineTask.writes_all c.args.task now bytes text
    (subst (λ (most : ℕ). g.T.LineTask.Ends c.args.task now (lines_of most bytes) text) c.requires.most
    (subst (λ start. g.T.LineTask.Ends start now (lines_of g.row.MOST bytes) text) c.new-lines.ensures.task ends))))
    (λ bytes text never. never) c.in_ok-each_piece.ensures
