use Rattle.std.proofs.Common.{◌+ℤ◌, pos, unsigned_abs, arith}
use Rattle.pmb_linear.specs.machine.Fields.{word_at}
use Rattle.pmb_linear.proofs.FixedExponent.{rises-linear11_fixed}
use Rattle.pmb_value.proofs.laws.linear11_fixed_has_codes.Goals as goal

pub returns : goal.returns
returns c = λ e fits.
    let rises = rises-linear11_fixed e fits in
    let written = rises.written 0 (omega arith) in
    (word_at (unsigned_abs (e +ℤ pos 16)) 0, written.0)
