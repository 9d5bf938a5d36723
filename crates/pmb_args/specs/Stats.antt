-- What the words of `stats` ask for: `--json`, WHAT of `--fail-on`, and the flags that `json` has too.
use Rattle.std.specs.Prelude.{◌≡◌, ℕ, Option, None, List, codes, if◌then◌else◌}
use Rattle.clap.specs.Words.{Row, Text, first_of}
use Rattle.pmb_stats_counts.specs.declared.fail.Fail.{Fail}
use Rattle.pmb_args.specs.Facts.{FactsAsk, FactsWanted, json, stats, default_digits, facts_wanted_of}
use Rattle.pmb_args.specs.Fails.{ChoosesFails}
use Rattle.pmb_args.specs.Flags.{has_flag}
use Rattle.pmb_args.specs.declared.stats_arguments.StatsArguments.{StatsArguments}
use Rattle.pmb_args.specs.declared.stats_arguments.StatsForm.{StatsForm}
use Rattle.pmb_args.specs.declared.stats_arguments.StatsForm.TheVariants.{Table, Objects}

-- What is wanted: what the flags say that `json` has too, whether a table or objects are written, and what makes the
-- status 1, where that is said.
pub record StatsWanted : Type 0 where
  pub facts : FactsWanted
  pub form : StatsForm
  pub fail_on : Option (List Fail)

-- the same as it is kept
abbrev pub stats_wanted_of : StatsArguments → StatsWanted
stats_wanted_of choice = record {
  facts = facts_wanted_of choice.facts;
  form = choice.form;
  fail_on = choice.fail_on;
}

-- what is wanted with neither `--json` nor `--fail-on`
abbrev pub table_of : FactsWanted → StatsWanted
table_of facts = record { facts = facts; form = Table; fail_on = None }

-- ---- what is among the matches

-- objects are written with `--json`
abbrev pub stats_form_in : List Row → StatsForm
stats_form_in rows = if has_flag (codes "json") rows then Objects else Table

-- the most digits after a point, where there is no N: in objects as many as `json` has
abbrev pub digits_in_form : StatsForm → ℕ
digits_in_form Table = default_digits stats
digits_in_form Objects = default_digits json

-- WHAT, if any
abbrev pub fail_on_in : List Row → Option Text
fail_on_in rows = first_of (codes "fail-on") rows

-- The matches choose this.
pub record StatsAsk (rows : List Row) (wanted : StatsWanted) : Type 0 where
  pub form : wanted.form ≡ stats_form_in rows
  pub facts : FactsAsk (digits_in_form wanted.form) rows wanted.facts
  pub fail_on : ChoosesFails (fail_on_in rows) wanted.fail_on
