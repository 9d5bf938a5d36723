use Rattle.pmb_stats_laws.proofs.Told.{counts_are_told}
use Rattle.pmb_stats_laws.proofs.laws.counts_are_those_of_json.Goals as goal

pub returns : goal.returns
returns c = counts_are_told
