use Rattle.std.proofs.Common.{◌≡◌, ap, ◌∙◌, List, Result, Ok, Err, subst}
use Rattle.std.specs.Borrow.{Bor}
use Rattle.pmb_command.specs.Parts.{DeviceParts}
use Rattle.pmb_io.specs.Runs.{AsTool, Ran}
use Rattle.pmb_io.specs.declared.fault.RunFault.{RunFault}
use Rattle.pmb_io.specs.declared.fault.ToolFault.{ToolFault}
use Rattle.pmb_io.specs.declared.fault.ToolFault.TheVariants as tool
use Rattle.pmb_run.specs.Lines.{OrNoMemory, running}
use Rattle.pmb_run.proofs.lines.run.Goals as goal

-- A run never ends for want of memory.
or_ran : {A : Type 0} (NoMemory : Type 0) (Holds : Result A RunFault → Type 0) (result : Result A ToolFault)
    → AsTool Holds result → OrNoMemory NoMemory (AsTool Holds) result
or_ran NoMemory Holds (Ok answer) ran = ran
or_ran NoMemory Holds (Err tool.Read) ran = ran
or_ran NoMemory Holds (Err tool.Write) ran = ran
or_ran NoMemory Holds (Err tool.TooManyReads) ran = ran
or_ran NoMemory Holds (Err tool.ProfileTooLong) ran = ran
or_ran NoMemory Holds (Err tool.Memory) ran = absurd ran

pub each_line-requires-clause-begins : goal.each_line-requires-clause-begins
each_line-requires-clause-begins g c = c.new-runner.ensures.begins

-- The task that runs begins with this profile.
pub returns : goal.returns
returns g c =
    let begun = ap (λ (p : Bor (List DeviceParts)). p.now) c.new-runner.ensures.profile ∙ c.new-2.ensures.profile in
    or_ran ((c.each_line.new.reader ≡ c.args.reader.now) × (c.each_line.new.writer ≡ c.args.writer.now))
    (Ran g.R.Source.told g.W.Sink.told (running c.args.profile.now) c.args.first.now
    (c.args.reader.now, c.args.writer.now) (c.each_line.new.reader, c.each_line.new.writer))
    c.each_line.result
    (subst (λ (profile : List DeviceParts). AsTool (Ran g.R.Source.told g.W.Sink.told (running profile) c.args.first.now
    (c.args.reader.now, c.args.writer.now) (c.each_line.new.reader, c.each_line.new.writer)) c.each_line.result)
    begun c.each_line.ensures)
