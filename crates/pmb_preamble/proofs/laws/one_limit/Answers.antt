use Rattle.pmb_preamble.proofs.Limits.{fits, long_cannot_fit, late_cannot_fit, none_fits_later}
use Rattle.pmb_preamble.proofs.laws.one_limit.Goals as goal

pub returns-clause-fits : goal.returns-clause-fits
returns-clause-fits c = fits

pub returns-clause-long : goal.returns-clause-long
returns-clause-long c = long_cannot_fit

pub returns-clause-late : goal.returns-clause-late
returns-clause-late c = late_cannot_fit

pub returns-clause-stays : goal.returns-clause-stays
returns-clause-stays c = none_fits_later
