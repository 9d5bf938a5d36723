-- What is shown is what is written of the output that it began with.
use Rattle.std.proofs.Common.{ap, subst}
use Rattle.pmb_io.specs.Runs.{AsTool, Ran}
use Rattle.pmb_capture.specs.Show.{shown_output}
use Rattle.pmb_capture.specs.Written.{writing}
use Rattle.pmb_capture.proofs.commands.show.show.Goals as goal

pub returns : goal.returns
returns g c =
    subst (λ output. AsTool (Ran g.R.Source.told g.W.Sink.told (writing output c.args.profile.now) c.args.first.now
    (c.args.reader.now, c.args.writer.now) (c.write_capture.new.reader, c.write_capture.new.writer))
    c.write_capture.result)
    (ap shown_output c.new.ensures.text) c.write_capture.ensures
