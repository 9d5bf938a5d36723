use Rattle.pmb_command.proofs.StatusLemmas.{each_bit_is_named, named_bits_alone}
use Rattle.pmb_command.proofs.laws.status_commands_have_names.Goals as goal

pub returns-clause-each : goal.returns-clause-each
returns-clause-each c = each_bit_is_named

pub returns-clause-only : goal.returns-clause-only
returns-clause-only c = named_bits_alone
