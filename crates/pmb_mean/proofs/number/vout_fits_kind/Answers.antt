use Rattle.std.proofs.Common.{subst, arith}
use Rattle.pmb_value.specs.NumberFormat.{IsVoutFormat}
use Rattle.pmb_mean.proofs.Values.{direct_fits_kind, signed_fits_kind, unsigned_fits_kind}
use Rattle.pmb_mean.proofs.number.vout_fits_kind.Goals as goal

pub returns-in-Unsigned : goal.returns-in-Unsigned
returns-in-Unsigned c =
    let fits = subst IsVoutFormat c.in-Unsigned.is c.keeps_ranges.ensures in
    rw c.in-Unsigned.is (λ assumed. unsigned_fits_kind _ c.args.word assumed fits (omega arith))

pub returns-in-Signed : goal.returns-in-Signed
returns-in-Signed c =
    let fits = subst IsVoutFormat c.in-Signed.is c.keeps_ranges.ensures in
    rw c.in-Signed.is (λ assumed. signed_fits_kind _ c.args.word assumed fits (omega arith))

pub returns-in-Direct : goal.returns-in-Direct
returns-in-Direct c =
    let numerator = c.numerator-numerator.ensures in
    rw c.in-Direct.is (λ assumed.
    direct_fits_kind c.in-Direct.direct c.args.word assumed c.denominator-denominator.ensures.positive
    (rw (← numerator.value) numerator.small))
