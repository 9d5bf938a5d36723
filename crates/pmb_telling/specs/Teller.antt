-- What a teller has put out of the text that it was given so far, by the definitions of `SoFar`, `Tell`
-- and `Text`.
use Rattle.std.specs.Prelude.{◌≡◌, ℕ, List}
use Rattle.pmb_command.specs.Bus.{IsBus}
use Rattle.pmb_command.specs.Parts.{DeviceParts}
use Rattle.pmb_fact_stream.specs.Choice.{ChoiceData}
use Rattle.pmb_io.specs.declared.tally.Tally.{Tally}
use Rattle.pmb_keeper.specs.Setting.{IsNothing}
use Rattle.pmb_keeper.specs.declared.nothing.Nothing.{Nothing}
use Rattle.pmb_scan.specs.declared.after_bad_token.AfterBadToken.{AfterBadToken}
use Rattle.pmb_telling.specs.declared.capture_teller.CaptureTeller.{CaptureTeller}
use Rattle.pmb_telling.specs.declared.engine.Teller.{Teller}
use Rattle.pmb_telling.specs.machine.Standing.{HasPutOut, teller_bad_words, teller_choice, teller_profile}
use Rattle.pmb_telling.specs.machine.Standing.{teller_tally}

-- how many packets it counted, and how many refusals and words that are no token
abbrev pub counted_by : CaptureTeller → Tally
counted_by teller = teller_tally teller.teller.value

-- It tells under this choice and this profile, which was accepted, and wants more: it was given these bytes
-- since it was made, and put out this text for them. By the law `tellers_have_told` the text is what is told
-- of the bytes so far.
pub record TellerStands (choice : ChoiceData) (profile : List DeviceParts) (after : AfterBadToken)
    (teller : CaptureTeller) (given told : List ℕ) : Type 0 where
  pub accepted : IsBus profile
  pub start : Teller Nothing
  pub same_choice : teller_choice start ≡ choice
  pub same_profile : teller_profile start ≡ profile
  pub same_after : teller_bad_words start ≡ after
  pub put_out : HasPutOut IsNothing start teller.teller.value given told
