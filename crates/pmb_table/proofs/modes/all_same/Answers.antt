use Rattle.std.proofs.Common.{◌∙◌, ap, sym}
use Rattle.pmb_command.specs.Parts.{all_same}
use Rattle.pmb_table.proofs.modes.all_same.Goals as goal

-- the first one, and those after it
pub returns-in-Some : goal.returns-in-Some
returns-in-Some c = c.are_all.ensures ∙ sym (ap all_same c.in-Some.ensures.cases.0)
