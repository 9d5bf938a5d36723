use Rattle.std.proofs.Common.{◌∙◌, List, ap, subst}
use Rattle.pmb_command.specs.Parts.{DeviceParts}
use Rattle.pmb_whole_input.specs.Whole.{WritesOrNoMemory}
use Rattle.pmb_build.specs.Lines.{building}
use Rattle.pmb_build.specs.declared.builder.Builder.{Builder}
use Rattle.pmb_build.proofs.lines.build_whole.Goals as goal

-- The task that runs begins with this profile.
pub returns : goal.returns
returns g c =
    subst (λ (profile : List DeviceParts). WritesOrNoMemory g.W.Sink.told (building profile) c.args.lines.now
    c.args.writer.now c.whole_lines.new.writer c.whole_lines.result)
    (ap (λ (b : Builder). b.profile.now) c.deref_mut-builder.ensures.value ∙ c.in-Some.ensures.profile)
    c.whole_lines.ensures
