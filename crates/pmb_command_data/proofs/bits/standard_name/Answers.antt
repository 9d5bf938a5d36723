use Rattle.pmb_note.proofs.StatusLemmas.{short_name}
use Rattle.pmb_command_data.proofs.bits.standard_name.Goals as goal

pub returns-clause-short : goal.returns-clause-short
returns-clause-short c = short_name c.bit_name.result c.args.code c.args.bit c.bit_name.ensures
