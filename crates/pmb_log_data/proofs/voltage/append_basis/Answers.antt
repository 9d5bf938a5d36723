use Rattle.std.proofs.Common.{ap, sym, arith}
use Rattle.pmb_log_data.specs.Data.{basis_says}
use Rattle.pmb_log_data.proofs.Texts.{at_most, called, then}
use Rattle.pmb_log_data.proofs.voltage.append_basis.Goals as goal

pub returns-in-Assumed : goal.returns-in-Assumed
returns-in-Assumed g c = called (ap (basis_says c.args.mode) (sym c.in-Assumed.is))
    (at_most 23 (omega arith) (then (then c.append.ensures c.append_byte.ensures) c.append-in-Assumed.ensures))
