use Rattle.pmb_fact_stream.specs.Before.{at_first}
use Rattle.pmb_stats_json.proofs.Facts.{facts_of_bytes}
use Rattle.pmb_stats_json.proofs.Observed.{all_are_observed, times_are_bytes}
use Rattle.pmb_summary.specs.Choice.{setting_of}
use Rattle.pmb_stats_json.proofs.laws.observations_fit.Goals as goal

pub returns-clause-observed : goal.returns-clause-observed
returns-clause-observed c = λ sums profile bytes bad facts counts formats from.
    all_are_observed (setting_of sums profile) facts formats
    (facts_of_bytes sums.ignored profile c.times_are_short.ensures.at sums.after_bad_token at_first bytes bad facts
    counts from)

pub returns-clause-times : goal.returns-clause-times
returns-clause-times c = λ sums profile bytes bad facts counts from.
    times_are_bytes facts
    (facts_of_bytes sums.ignored profile c.times_are_short.ensures.at sums.after_bad_token at_first bytes bad facts
    counts from)
