use Rattle.pmb_stats_counts.specs.declared.fail.Fail.TheVariants.{NoneRead}
use Rattle.pmb_stats_counts.proofs.Found.{holds_of}
use Rattle.pmb_stats_counts.proofs.fail.Signs.holds.Goals as goal

pub returns-in-NoneRead-clause-value : goal.returns-in-NoneRead-clause-value
returns-in-NoneRead-clause-value c profile facts stands =
    holds_of c.args.self.now profile facts stands c.args.fail NoneRead c.in-NoneRead.is
