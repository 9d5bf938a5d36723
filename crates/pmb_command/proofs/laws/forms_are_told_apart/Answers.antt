use Rattle.pmb_command.proofs.FormLemmas.{same_form-Decides}
use Rattle.pmb_command.proofs.laws.forms_are_told_apart.Goals as goal

pub returns : goal.returns
returns c = same_form-Decides
