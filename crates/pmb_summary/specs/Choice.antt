-- What a user may choose of the sums of a capture.
use Rattle.std.specs.Prelude.{ℕ, Option, List, [], option_map}
use Rattle.pmb_command.specs.Parts.{DeviceParts}
use Rattle.pmb_fact_stream.specs.Choice.{ChoiceData}
use Rattle.pmb_fact_stream.specs.Keeping.{setting_under}
use Rattle.pmb_fact_stream.specs.declared.telling.Telling.TheVariants.{Nothing}
use Rattle.pmb_keeper.specs.Setting.{Setting}
use Rattle.pmb_scan.specs.declared.after_bad_token.AfterBadToken.{AfterBadToken}
use Rattle.pmb_stats_counts.specs.declared.fail.Fail.{Fail}
use Rattle.pmb_summary.specs.declared.choice.SumsChoice.{SumsChoice}
use Rattle.pmb_unknown_start.specs.declared.start.Start.{Start}

-- The digits after a point, what is known of PAGE and VOUT_MODE at first, the devices whose sums are wanted, all
-- where none is named, the addresses that speak no PMBus, where a profile says which these are, what is done after
-- a bad token, and what makes the status 1, where something is said of it.
pub record SumsData : Type 0 where
  pub digits : ℕ
  pub start : Start
  pub devices : List ℕ
  pub ignored : Option (List ℕ)
  pub after_bad_token : AfterBadToken
  pub fail_on : Option (List Fail)

abbrev pub sums_data : SumsChoice → SumsData
sums_data choice = record {
  digits = choice.digits;
  start = choice.start;
  devices = choice.devices.now;
  ignored = option_map (λ addresses. addresses.now) choice.ignored;
  after_bad_token = choice.after_bad_token;
  fail_on = option_map (λ words. words.now) choice.fail_on;
}

-- all facts are kept, and no line of any is told
abbrev pub choice_of : SumsData → ChoiceData
choice_of sums = record {
  digits = sums.digits;
  start = sums.start;
  devices = [];
  ignored = sums.ignored;
  telling = Nothing;
}

-- where the facts are seen
abbrev pub setting_of : SumsData → List DeviceParts → Setting
setting_of sums profile = setting_under (choice_of sums) profile
