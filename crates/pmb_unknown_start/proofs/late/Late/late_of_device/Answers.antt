use Rattle.std.proofs.Common.{List, ap, ◌∙◌}
use Rattle.pmb_command.specs.Parts.{DeviceParts}
use Rattle.pmb_unknown_start.specs.declared.start.Start.TheVariants.{Late}
use Rattle.pmb_unknown_start.specs.machine.Keeping.{KeptData, kept_at}
use Rattle.pmb_unknown_start.proofs.Keeping.{kept_there}
use Rattle.pmb_unknown_start.proofs.late.Late.late_of_device.Goals as goal

pub returns : goal.returns
returns c = λ profile start past seen.
    c.kept_at.ensures
    ∙ ap (λ (list : List KeptData). kept_at list c.args.self.now.profile.now c.args.addr) c.as_slice.ensures.value
    ∙ ap (λ (devices : List DeviceParts). kept_at c.args.self.now.told.items devices c.args.addr) seen.profile_is
    ∙ kept_there profile Late past c.args.self.now.told.items seen.told c.args.addr
