use Rattle.std.proofs.Common.{◌∙◌, List, ap, subst}
use Rattle.pmb_command.specs.Parts.{DeviceParts}
use Rattle.pmb_whole_input.specs.Whole.{WritesOrNoMemory}
use Rattle.pmb_run.specs.Lines.{running}
use Rattle.pmb_run.specs.declared.runner.Runner.{Runner}
use Rattle.pmb_run.proofs.lines.run_whole.Goals as goal

-- The task that runs begins with this profile.
pub returns : goal.returns
returns g c =
    subst (λ (profile : List DeviceParts). WritesOrNoMemory g.W.Sink.told (running profile) c.args.requests.now
    c.args.writer.now c.whole_lines.new.writer c.whole_lines.result)
    (ap (λ (r : Runner). r.bench.profile.now) c.deref_mut-runner.ensures.value ∙ c.in-Some.ensures.profile)
    c.whole_lines.ensures
