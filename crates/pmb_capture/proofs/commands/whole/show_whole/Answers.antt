-- What is shown is what is written of the output that it began with.
use Rattle.std.proofs.Common.{ap, subst}
use Rattle.pmb_whole_input.specs.Whole.{WritesOrNoMemory}
use Rattle.pmb_capture.specs.Show.{shown_output}
use Rattle.pmb_capture.specs.Written.{writing}
use Rattle.pmb_capture.proofs.commands.whole.show_whole.Goals as goal

pub returns : goal.returns
returns g c =
    subst (λ output. WritesOrNoMemory g.W.Sink.told (writing output c.args.profile.now) c.args.capture.now
    c.args.writer.now c.write_whole.new.writer c.write_whole.result)
    (ap shown_output c.new.ensures.text) c.write_whole.ensures
