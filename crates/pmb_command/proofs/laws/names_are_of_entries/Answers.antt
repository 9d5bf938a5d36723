use Rattle.pmb_command.proofs.StandardLemmas.{code_of_name_at}
use Rattle.pmb_command.proofs.laws.names_are_of_entries.Goals as goal

pub returns : goal.returns
returns c = code_of_name_at
