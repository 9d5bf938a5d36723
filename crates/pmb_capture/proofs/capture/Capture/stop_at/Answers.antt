use Rattle.std.proofs.Common.{ap}
use Rattle.pmb_capture.specs.Lines.{bad_token_line}
use Rattle.pmb_capture.proofs.Endings.{puts_then}
use Rattle.pmb_capture.proofs.capture.Capture.stop_at.Goals as goal

pub returns-clause-puts : goal.returns-clause-puts
returns-clause-puts g c at is =
    let tally = c.take_fault.new.self.tally in
    puts_then c.put_end.result _ _ _ _ _ _ (bad_token_line at) _
    ((g.O.Output.text c.args.self.now.account.output).at_end tally)
    (c.in_ok-take_fault.ensures.puts at is) (ap (λ o. (g.O.Output.text o).at_end tally)
    c.in_ok-take_fault.ensures.output) c.put_end.ensures.puts
