use Rattle.pmb_format.specs.Direct.{positive_part}
use Rattle.pmb_format.proofs.DirectLemmas.{denominator_positive}
use Rattle.pmb_format.proofs.direct.DirectCodes.denominator.Goals as goal

pub returns-clause-positive : goal.returns-clause-positive
returns-clause-positive c = denominator_positive c.args.self.now.m
    (positive_part c.args.self.now.r) c.m.ensures.kept.slope
