use Rattle.std.proofs.Common.{◌++◌, List, ℕ, append_assoc, subst}
use Rattle.std.proofs.lemmas.Result.{on_ok_weaker}
use Rattle.pmb_io.specs.Lines.{lines_of}
use Rattle.pmb_io.proofs.Writing.{writes_then}
use Rattle.pmb_io.proofs.lines.LinesEngine.end.Goals as goal

-- The text for the last line goes in front of that for the end.
pub returns-clause-ends : goal.returns-clause-ends
returns-clause-ends g c start bytes text stands =
    let first = c.in_ok-take_last.ensures.takes start.task bytes text stands in
    on_ok_weaker c.end.result
    (λ second. record {
      text = first.text ++ second.text;
      writes = writes_then _ _ _ _ _ _ _ _ first.writes second.writes;
      holds = subst (λ (t : List ℕ). g.T.LineTask.Ends start.task c.end.new.self (lines_of g.row.MOST bytes) t)
          (append_assoc text first.text second.text) second.holds;
    })
    (c.end.ensures.ends start.task (lines_of g.row.MOST bytes) (text ++ first.text) first.holds)
