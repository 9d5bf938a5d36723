use Rattle.pmb_half.proofs.Magnitudes.{magnitude_at}
use Rattle.pmb_half.proofs.half.code_at.Goals as goal

pub returns-clause-value : goal.returns-clause-value
returns-clause-value c = magnitude_at c.args.power c.args.count c.requires.power_fits c.requires.count_fits
    c.requires.large
