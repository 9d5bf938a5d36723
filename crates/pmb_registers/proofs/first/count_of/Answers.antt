use Rattle.std.proofs.Common.{◌∙◌, sym}
use Rattle.pmb_command.specs.Entry.{entry_parts}
use Rattle.pmb_registers.proofs.Count.{each_counted}
use Rattle.pmb_registers.proofs.first.count_of.Goals as goal

pub returns-then-entry : goal.returns-then-entry
returns-then-entry c = λ command is.
    c.from.ensures ∙ c.pages.ensures
    ∙ each_counted c.args.device.now command (entry_parts c.args.entry.now) c.in-Some._form
    (sym c.in-Some.ensures) c.if-entry.true is
