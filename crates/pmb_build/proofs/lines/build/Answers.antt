use Rattle.std.proofs.Common.{List, subst}
use Rattle.pmb_command.specs.Parts.{DeviceParts}
use Rattle.pmb_io.specs.Runs.{AsTool, Ran}
use Rattle.pmb_build.specs.Lines.{building}
use Rattle.pmb_build.proofs.lines.build.Goals as goal

-- The task that runs begins with this profile.
pub returns : goal.returns
returns g c =
    subst (λ (profile : List DeviceParts). AsTool (Ran g.R.Source.told g.W.Sink.told (building profile) c.args.first.now
    (c.args.reader.now, c.args.writer.now) (c.each_line.new.reader, c.each_line.new.writer)) c.each_line.result)
    c.new.ensures.profile c.each_line.ensures
