use Rattle.std.proofs.Common.{arith}
use Rattle.pmb_log_data.proofs.Texts.{at_most, then}
use Rattle.pmb_log_data.proofs.voltage.append_mode.Goals as goal

pub returns : goal.returns
returns g c =
    at_most 39 (omega (arith, c.requires.short))
    (then (then (then (then c.append.ensures c.append_byte.ensures) c.append-2.ensures) c.append-3.ensures)
    c.append-4.ensures)
