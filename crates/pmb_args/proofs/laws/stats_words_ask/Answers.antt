use Rattle.pmb_args.proofs.StatsWords.{asks_fail_on, asks_objects, bad_fail_on_asks_nothing}
use Rattle.pmb_args.proofs.laws.stats_words_ask.Goals as goal

pub returns-clause-json : goal.returns-clause-json
returns-clause-json c = asks_objects

pub returns-clause-fail_on : goal.returns-clause-fail_on
returns-clause-fail_on c = asks_fail_on

pub returns-clause-bad_fail_on : goal.returns-clause-bad_fail_on
returns-clause-bad_fail_on c = bad_fail_on_asks_nothing
