use Rattle.std.proofs.Common.{◌∙◌}
use Rattle.pmb_registers.proofs.Places.{held_in_place}
use Rattle.pmb_registers.proofs.register_range.bytes_in.Goals as goal

pub returns-clause-held : goal.returns-clause-held
returns-clause-held c = c.bytes_on.ensures.held
    ∙ held_in_place c.args.page c.args.code c.args.place c.args.registers.now c.requires
