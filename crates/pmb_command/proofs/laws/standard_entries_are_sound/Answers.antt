use Rattle.pmb_command.proofs.StandardLemmas.{standard_entry_at}
use Rattle.pmb_command.proofs.laws.standard_entries_are_sound.Goals as goal

pub returns : goal.returns
returns c = standard_entry_at
