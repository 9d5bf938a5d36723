use Rattle.std.proofs.Common.{arith}
use Rattle.pmb_mean.proofs.Values.{half_fits_kind, linear11_fits_kind, vid_fits_kind}
use Rattle.pmb_mean.proofs.number.fits_kind.Goals as goal

pub returns-in-Linear11 : goal.returns-in-Linear11
returns-in-Linear11 c = rw c.in-Linear11.is (λ assumed. linear11_fits_kind c.args.word assumed (omega arith))

pub returns-in-Linear11Fixed : goal.returns-in-Linear11Fixed
returns-in-Linear11Fixed c = rw c.in-Linear11Fixed.is (λ assumed. linear11_fits_kind c.args.word assumed (omega arith))

pub returns-in-Word : goal.returns-in-Word
returns-in-Word c = rw c.in-Word.is c.vout_fits_kind.ensures

pub returns-in-Half : goal.returns-in-Half
returns-in-Half c =
    let numerator = c.numerator-numerator.ensures in
    rw c.in-Half.is (λ assumed. half_fits_kind c.args.word assumed (rw (← numerator.value) numerator.small))

pub returns-in-Vid : goal.returns-in-Vid
returns-in-Vid c =
    rw c.in-Vid.is (λ assumed. vid_fits_kind _ c.args.word assumed (omega arith))
