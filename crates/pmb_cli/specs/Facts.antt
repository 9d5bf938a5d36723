-- What `pmb json` and `pmb log` write, as their words choose it, and which addresses their profile ignores.
use Rattle.std.specs.Prelude.{ℕ, Option, List}
use Rattle.pmb_args.specs.Facts.{FactsWanted}
use Rattle.pmb_fact_stream.specs.Choice.{ChoiceData}
use Rattle.pmb_fact_stream.specs.declared.telling.Telling.{Telling}
use Rattle.pmb_fact_stream.specs.declared.telling.Telling.TheVariants.{Objects, Lines}
use Rattle.pmb_io.specs.Runs.{Job}
use Rattle.pmb_io.specs.declared.tally.Tally.{Tally}
use Rattle.pmb_log_lines.specs.Layout.{layout_of}
use Rattle.pmb_table.specs.Profile.{ProfileParts}
use Rattle.pmb_telling.specs.Tell.{telling_job}

-- which facts are wanted, and how they are told, where these addresses are ignored
abbrev pub choice_of : Telling → FactsWanted → Option (List ℕ) → ChoiceData
choice_of telling wanted ignored = record {
  digits = wanted.digits;
  start = wanted.start;
  devices = wanted.devices;
  ignored = ignored;
  telling = telling;
}

-- the facts of a capture, told so under a profile
abbrev pub told_as : Telling → FactsWanted → ProfileParts → Job Tally
told_as telling wanted bus =
    telling_job (choice_of telling wanted bus.ignored) bus.devices wanted.after_bad_token

-- `json` tells them as objects
abbrev pub json_of : FactsWanted → ProfileParts → Job Tally
json_of wanted bus = told_as Objects wanted bus

-- `log` as lines, whose columns are as wide as the profile has them
abbrev pub log_of : FactsWanted → ProfileParts → Job Tally
log_of wanted bus = told_as (Lines (layout_of bus.devices)) wanted bus
