use Rattle.std.proofs.Common.{arith}
use Rattle.pmb_keys.specs.CommandView.{command_parts}
use Rattle.pmb_log_data.proofs.Joined.{two_bytes}
use Rattle.pmb_log_data.proofs.Texts.{at_most, called}
use Rattle.pmb_log_data.proofs.bits.append_status.Goals as goal

pub returns-in-len2 : goal.returns-in-len2
returns-in-len2 g c =
    called (two_bytes (command_parts c.args.command.now) c.from_le_bytes.result c.args.bytes.now
    (omega (arith, c.in-len2.len_at_least, c.in-len2.len_below)) (omega (arith, c.from_le_bytes.ensures)))
    (at_most 773 (omega arith) c.append_register-in-len2.ensures)
