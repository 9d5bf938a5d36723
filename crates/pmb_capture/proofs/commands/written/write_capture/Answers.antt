-- What the loop over pieces says of a `Capture`, in the words of captures.
use Rattle.std.proofs.Common.{ap, Err}
use Rattle.pmb_io.proofs.RunLemmas.{tool_ran_into}
use Rattle.pmb_capture.proofs.Running.{capture_failed, capture_ran}
use Rattle.pmb_capture.proofs.commands.written.write_capture.Goals as goal

pub returns-in-Ok : goal.returns-in-Ok
returns-in-Ok g c =
    let began = c.new-capture.ensures in
    capture_ran g.O.Output.text g.O.Output.Stands g.R.Source.told g.W.Sink.told c.new-capture.result
    c.each_piece.new.engine _ _ (ap g.O.Output.text began.output) began.profile _ _ _ c.tally.result c.tally.ensures
    c.in-Ok.ensures

pub returns : goal.returns
returns g c =
    let began = c.new-capture.ensures in
    tool_ran_into g.R.Source.told g.W.Sink.told _ _ _ _ (Err c.from.result) c.in-Err.fault c.from.ensures
    (capture_failed g.O.Output.text g.O.Output.Stands g.R.Source.told g.W.Sink.told c.new-capture.result
    c.each_piece.new.engine _ _ (ap g.O.Output.text began.output) began.profile _ _ _ c.in-Err.fault
    (λ start bytes text. c.fronts_are_written.ensures start c.each_piece.new.engine bytes text) c.in-Err.ensures)
