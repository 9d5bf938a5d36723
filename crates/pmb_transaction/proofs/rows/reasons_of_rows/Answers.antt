use Rattle.pmb_transaction.proofs.WorkedRows.{read_first, written_again, another_is_read, reply_with_wrong_code}
use Rattle.pmb_transaction.proofs.WorkedRows.{alert_with_wrong_code, nobody_there, nobody_in_a_group, no_such_command}
use Rattle.pmb_transaction.proofs.WorkedRows.{written_with_wrong_code, reply_too_long, alert_too_long, reply_too_short}
use Rattle.pmb_transaction.proofs.WorkedRows.{behind_refused_address, behind_whole_body}
use Rattle.pmb_transaction.proofs.rows.reasons_of_rows.Goals as goal

pub returns-clause-read_first : goal.returns-clause-read_first
returns-clause-read_first c = read_first c.pec_is_a_byte.ensures

pub returns-clause-written_again : goal.returns-clause-written_again
returns-clause-written_again c = written_again c.pec_is_a_byte.ensures

pub returns-clause-another_is_read : goal.returns-clause-another_is_read
returns-clause-another_is_read c = another_is_read c.pec_is_a_byte.ensures

pub returns-clause-reply_with_wrong_code : goal.returns-clause-reply_with_wrong_code
returns-clause-reply_with_wrong_code c = reply_with_wrong_code c.pec_is_a_byte.ensures

pub returns-clause-alert_with_wrong_code : goal.returns-clause-alert_with_wrong_code
returns-clause-alert_with_wrong_code c = alert_with_wrong_code c.pec_is_a_byte.ensures

pub returns-clause-nobody_there : goal.returns-clause-nobody_there
returns-clause-nobody_there c = nobody_there c.pec_is_a_byte.ensures

pub returns-clause-nobody_in_a_group : goal.returns-clause-nobody_in_a_group
returns-clause-nobody_in_a_group c = nobody_in_a_group c.pec_is_a_byte.ensures

pub returns-clause-no_such_command : goal.returns-clause-no_such_command
returns-clause-no_such_command c = no_such_command c.pec_is_a_byte.ensures

pub returns-clause-written_with_wrong_code : goal.returns-clause-written_with_wrong_code
returns-clause-written_with_wrong_code c = written_with_wrong_code c.pec_is_a_byte.ensures

pub returns-clause-reply_too_long : goal.returns-clause-reply_too_long
returns-clause-reply_too_long c = reply_too_long c.pec_is_a_byte.ensures

pub returns-clause-alert_too_long : goal.returns-clause-alert_too_long
returns-clause-alert_too_long c = alert_too_long c.pec_is_a_byte.ensures

pub returns-clause-reply_too_short : goal.returns-clause-reply_too_short
returns-clause-reply_too_short c = reply_too_short c.pec_is_a_byte.ensures

pub returns-clause-behind_refused_address : goal.returns-clause-behind_refused_address
returns-clause-behind_refused_address c = behind_refused_address c.pec_is_a_byte.ensures

pub returns-clause-behind_whole_body : goal.returns-clause-behind_whole_body
returns-clause-behind_whole_body c = behind_whole_body c.pec_is_a_byte.ensures
