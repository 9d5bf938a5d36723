-- What `pmb stats` writes, as its words choose it, and which addresses its profile ignores.
use Rattle.std.specs.Prelude.{ℕ, Option, List}
use Rattle.pmb_args.specs.Stats.{StatsWanted}
use Rattle.pmb_args.specs.declared.stats_arguments.StatsForm.{StatsForm}
use Rattle.pmb_args.specs.declared.stats_arguments.StatsForm.TheVariants.{Table, Objects}
use Rattle.pmb_command.specs.Parts.{DeviceParts}
use Rattle.pmb_facts.specs.Fact.{FactData}
use Rattle.pmb_io.specs.Runs.{Job}
use Rattle.pmb_io.specs.declared.tally.Tally.{Tally}
use Rattle.pmb_summary.specs.Choice.{SumsData}
use Rattle.pmb_summary.specs.Summing.{objects_of, summing, table_of}
use Rattle.pmb_table.specs.Profile.{ProfileParts}

-- which sums are wanted, and what makes the status 1, where these addresses are ignored
abbrev pub sums_of : StatsWanted → Option (List ℕ) → SumsData
sums_of wanted ignored = record {
  digits = wanted.facts.digits;
  start = wanted.facts.start;
  devices = wanted.facts.devices;
  ignored = ignored;
  after_bad_token = wanted.facts.after_bad_token;
  fail_on = wanted.fail_on;
}

-- a table, or objects
abbrev pub text_in : StatsForm → SumsData → List DeviceParts → List FactData → List ℕ
text_in Table = table_of
text_in Objects = objects_of

abbrev pub summed : StatsForm → SumsData → List DeviceParts → Job Tally
summed form sums profile = summing (text_in form sums profile) sums profile

abbrev pub stats_of : StatsWanted → ProfileParts → Job Tally
stats_of wanted bus = summed wanted.form (sums_of wanted bus.ignored) bus.devices
