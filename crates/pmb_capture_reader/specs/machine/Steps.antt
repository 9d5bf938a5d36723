-- What the steps of a call come to.
use Rattle.std.specs.Prelude.{◌≡◌, ℕ, List, ◌++◌}
use Rattle.pmb_capture_reader.specs.declared.reader.Fed.{Fed}
use Rattle.pmb_capture_reader.specs.declared.reader.Fed.TheVariants.{More, Ended, Memory}
use Rattle.pmb_command.specs.Parts.{DeviceParts}
use Rattle.pmb_fact_stream.specs.Choice.{ChoiceData}
use Rattle.pmb_scan.specs.declared.after_bad_token.AfterBadToken.{AfterBadToken}
use Rattle.pmb_telling.specs.Tell.{StopsTold}
use Rattle.pmb_telling.specs.Teller.{TellerStands, counted_by}
use Rattle.pmb_telling.specs.Text.{WritesTold}
use Rattle.pmb_telling.specs.declared.capture_teller.CaptureTeller.{CaptureTeller}

module _ (choice : ChoiceData) (profile : List DeviceParts) (after : AfterBadToken) (teller : CaptureTeller)
    (given told : List ℕ) where
  -- a teller after a piece, with all that it was given and has told
  abbrev pub AfterPiece : Fed → Type 0
  AfterPiece More = TellerStands choice profile after teller given told
  AfterPiece Ended = StopsTold choice profile after given told (counted_by teller)
  AfterPiece Memory = Unit {0}

  -- and after the end
  abbrev pub AfterEnd : Fed → Type 0
  AfterEnd More = ⊥
  AfterEnd Ended = WritesTold choice profile after given told (counted_by teller)
  AfterEnd Memory = Unit {0}

-- What a call made is ready after what was, and the call ended as what made it; or nothing more is ready.
abbrev pub Gathers : Fed → List ℕ → List ℕ → List ℕ → Fed → Type 0
Gathers made old new fresh More = (made ≡ More) × (new ≡ old ++ fresh)
Gathers made old new fresh Ended = (made ≡ Ended) × (new ≡ old ++ fresh)
Gathers made old new fresh Memory = new ≡ old
