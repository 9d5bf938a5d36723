use Rattle.pmb_accepted.proofs.Devices.{accepted_table, accepted_text}
use Rattle.pmb_accepted.proofs.laws.said_profiles_are_accepted.Goals as goal

pub returns-clause-table : goal.returns-clause-table
returns-clause-table c = accepted_table

pub returns-clause-text : goal.returns-clause-text
returns-clause-text c = accepted_text
