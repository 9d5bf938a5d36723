use Rattle.pmb_io.specs.Lines.{line_text}
use Rattle.pmb_recording.proofs.Runs.{takes_on_ok}
use Rattle.pmb_samples.specs.Lines.{recording_of, take_end, take_line}
use Rattle.pmb_samples.proofs.samples.SamplesLineTask.take_line.Goals as goal

pub returns-clause-takes : goal.returns-clause-takes
returns-clause-takes g c start lines text stands =
    takes_on_ok take_line take_end recording_of c.take_next.result start c.args.self.now _ lines
    (line_text c.args.line) text _ _ _ _ stands c.take_next.ensures.now c.take_next.ensures.puts
