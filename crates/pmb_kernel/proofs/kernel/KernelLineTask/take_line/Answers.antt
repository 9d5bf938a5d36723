use Rattle.pmb_io.specs.Lines.{line_text}
use Rattle.pmb_recording.proofs.Runs.{takes_on_ok}
use Rattle.pmb_kernel.specs.Transfers.{take_end, take_line}
use Rattle.pmb_kernel.proofs.kernel.KernelLineTask.take_line.Goals as goal

pub returns-clause-takes : goal.returns-clause-takes
returns-clause-takes g c start lines text stands =
    takes_on_ok take_line take_end (λ transfers. transfers.recording) c.take_line.result start.transfers
    c.args.self.now.transfers c.take_line.new.self lines (line_text c.args.line) text _ _ _ _ stands
    c.take_line.ensures.now c.take_line.ensures.puts
