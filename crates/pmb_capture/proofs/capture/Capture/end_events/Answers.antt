use Rattle.std.proofs.Common.{◌++◌, ap, ◌∙◌}
use Rattle.std.proofs.lemmas.Result.{on_ok_weaker}
use Rattle.pmb_io.proofs.Writing.{writes_then}
use Rattle.pmb_reader.specs.Refusal.{refusal_data}
use Rattle.pmb_capture.specs.Lines.{refusal_line}
use Rattle.pmb_capture.proofs.Endings.{ends_in_none, ends_in_refusal}
use Rattle.pmb_capture.proofs.capture.Capture.end_events.Goals as goal

pub returns-in-None-clause-ends : goal.returns-in-None-clause-ends
returns-in-None-clause-ends g c start reached text read stands =
    let account = c.args.self.now.account in
    on_ok_weaker c.put_end.result (λ puts. record {
      text = (g.O.Output.text account.output).at_end account.tally;
      writes = puts;
      holds = ends_in_none g.O.Output.text g.O.Output.Stands start account reached text _
          (c.in-None.ensures.ends reached read) stands (ap (λ o. o.at_end account.tally) stands.same);
    }) c.put_end.ensures.puts

pub returns-in_ok-take_refusal-in-Some-clause-ends : goal.returns-in_ok-take_refusal-in-Some-clause-ends
returns-in_ok-take_refusal-in-Some-clause-ends g c start reached text read stands =
    let after = c.take_refusal.new.self in
    let refused = c.in_ok-take_refusal-in-Some.ensures in
    let last = (g.O.Output.text after.output).at_end after.tally in
    on_ok_weaker c.put_end-in-Some.result (λ puts. record {
      text = refusal_line (refusal_data c.in-Some.refusal) ++ last;
      writes = writes_then _ _ _ _ _ _ _ last refused.puts puts;
      holds = ends_in_refusal g.O.Output.text g.O.Output.Stands start c.args.self.now.account reached after.tally
          c.in-Some.refusal text last (c.in-Some.ensures.ends reached read) stands refused.counted
          (ap (λ o. (g.O.Output.text o).at_end after.tally) refused.output
          ∙ ap (λ o. o.at_end after.tally) stands.same);
    }) c.put_end-in-Some.ensures.puts
