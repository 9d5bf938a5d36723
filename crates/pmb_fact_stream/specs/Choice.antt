-- What a user may choose of what is told of a capture.
use Rattle.std.specs.Prelude.{ℕ, Bool, Option, List, option_map}
use Rattle.std.specs.Option.{is_some}
use Rattle.pmb_unknown_start.specs.declared.start.Start.{Start}
use Rattle.pmb_fact_stream.specs.declared.choice.Choice.{Choice}
use Rattle.pmb_fact_stream.specs.declared.telling.Telling.{Telling}

-- The digits after a point, what is known of PAGE and VOUT_MODE at first and after a line that was
-- dropped, the devices whose facts are wanted, all where none is named, the addresses that speak no
-- PMBus, where a profile says which these are, and how facts are told.
pub record ChoiceData : Type 0 where
  pub digits : ℕ
  pub start : Start
  pub devices : List ℕ
  pub ignored : Option (List ℕ)
  pub telling : Telling

abbrev pub choice_data : Choice → ChoiceData
choice_data choice = record {
  digits = choice.digits;
  start = choice.start;
  devices = choice.devices.now;
  ignored = option_map (λ addresses. addresses.now) choice.ignored;
  telling = choice.telling;
}

-- the last objects tell how many others came, where the profile says which addresses these have
abbrev pub gives_others : ChoiceData → Bool
gives_others choice = is_some choice.ignored
