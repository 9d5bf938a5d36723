-- What comes before the last two digits, and these.
use Rattle.std.proofs.Common.{arith}
use Rattle.pmb_json_text.proofs.Decimals.{number_appended}
use Rattle.pmb_json_text.proofs.number.append_four.Goals as goal

pub returns-else-number-lt100-clause-text : goal.returns-else-number-lt100-clause-text
returns-else-number-lt100-clause-text g c =
    number_appended c.args.number c.args.out.now.items (omega arith)
    (omega arith) c.append_two-else-number-lt100.ensures.text c.append_pair.ensures.text
