-- What is done for what the words ask for.
use Rattle.std.specs.Prelude.{◌≡◌, ◌⊎◌, Ok, List, [], ℕ}
use Rattle.pmb_convert.specs.Lines.{converting}
use Rattle.pmb_convert.specs.Spelling.{Names}
use Rattle.pmb_convert.specs.declared.conversion.Conversion.{Conversion}
use Rattle.pmb_convert.specs.declared.conversion.Conversion.TheVariants as conversions
use Rattle.pmb_value.specs.declared.number_format.NumberFormat.{NumberFormat}
use Rattle.pmb_draft.specs.Draft.{drafting}
use Rattle.pmb_import.specs.Importing.{importing_of}
use Rattle.pmb_io.specs.Runs.{Done, PartDone}
use Rattle.pmb_io.specs.Told.{ReaderTold, WriterTold}
use Rattle.pmb_io.specs.declared.tally.Tally.{Tally}
use Rattle.pmb_args.specs.ExitStatus.{EndedWell, Failed, IsTold}
use Rattle.pmb_args.specs.declared.exit_status.ExitStatus.{ExitStatus}
use Rattle.pmb_args.specs.declared.exit_status.ExitStatus.TheVariants.{BadArguments, NoMemory}
use Rattle.pmb_args.specs.Asked.{Asking, Convert, Import, NamesNone, Scan, UnderProfile}
use Rattle.pmb_args.specs.declared.direction.Direction.{Direction}
use Rattle.pmb_args.specs.declared.direction.Direction.TheVariants.{Encode, Decode}
use Rattle.pmb_args.specs.declared.profile_place.ProfilePlace.TheVariants.{Front}
use Rattle.pmb_cli.specs.Memory.{ReadWithoutMemory}
use Rattle.pmb_cli.specs.Profiles.{HasBadProfile}
use Rattle.pmb_cli.specs.Statuses.{Does, StatusTells}
use Rattle.pmb_cli.specs.Works.{DoneUnder, PartDoneUnder, working}

-- what is asked for is done under the profile that comes first in the input
abbrev pub IsUnderFront : Asking → Type 0
IsUnderFront (UnderProfile place wanted) = place ≡ Front
IsUnderFront (Convert direction format) = ⊥
IsUnderFront (Import recorded) = ⊥
IsUnderFront Scan = ⊥

-- a first profile is what is asked for
abbrev pub IsScan : Asking → Type 0
IsScan (UnderProfile place wanted) = ⊥
IsScan (Convert direction format) = ⊥
IsScan (Import recorded) = ⊥
IsScan Scan = Unit {0}

-- the conversion in a format
abbrev pub conversion_of : Direction → NumberFormat → Conversion
conversion_of Encode format = conversions.Encode format
conversion_of Decode format = conversions.Decode format

-- The text names a format, and this holds of the conversion in it.
pub record InFormat (direction : Direction) (Holds : Conversion → Type 0) (text : List ℕ) : Type 0 where
  pub format : NumberFormat
  pub names : Names text (Ok format)
  pub holds : Holds (conversion_of direction format)

module _ {R W : Type 0} (reader_told : R → ReaderTold) (out_told : W → WriterTold) (sample : List ℕ) where
  -- All was written: for a capture or lines under the sample profile, or under the one that comes
  -- first, the answers to all lines in a format, the capture of a recording, or a first profile.
  abbrev pub WroteTask : Asking → R × W → R × W → Tally → Type 0
  WroteTask (UnderProfile place wanted) old new tally =
      DoneUnder reader_told out_told (working wanted) place sample tally old new
  WroteTask (Convert direction text) old new tally =
      InFormat direction (λ conversion. Done reader_told out_told (converting conversion) tally [] old new) text
  WroteTask (Import recorded) old new tally = Done reader_told out_told (importing_of recorded) tally [] old new
  WroteTask Scan old new tally = Done reader_told out_told drafting tally [] old new

  -- Where a read failed, or there were too many, the part determined by the bytes read.
  abbrev pub WroteTaskPart : Asking → R × W → R × W → Type 0
  WroteTaskPart (UnderProfile place wanted) old new =
      PartDoneUnder reader_told out_told (working wanted) place sample old new
  WroteTaskPart (Convert direction text) old new =
      InFormat direction (λ conversion. PartDone reader_told out_told (converting conversion) [] old new) text
  WroteTaskPart (Import recorded) old new = PartDone reader_told out_told (importing_of recorded) [] old new
  WroteTaskPart Scan old new = PartDone reader_told out_told drafting [] old new

-- What was done for what was asked for: by the reader, standard output and standard error, before
-- and after, and the status.
pub record DidTask {R W E : Type 0} (reader_told : R → ReaderTold) (out_told : W → WriterTold)
    (err_told : E → WriterTold) (sample : List ℕ) (asking : Asking) (old new : R × W × E)
    (status : ExitStatus) : Type 0 where
  -- What was written is all that is asked for. Where a read failed or there were too many, it is
  -- the part for the bytes read.
  pub did : Does (WroteTask reader_told out_told sample asking (old.0, old.1) (new.0, new.1))
      (WroteTaskPart reader_told out_told sample asking (old.0, old.1) (new.0, new.1)) (out_told old.1)
      (out_told new.1) status
  -- The status says what failed, and how many reads were made.
  pub tells : StatusTells reader_told out_told (old.0, old.1) (new.0, new.1) status
  -- It is BadArguments only where a text names no format, or the profile that comes first is too long or has a fault,
  -- or where a first profile is asked for and there is none.
  pub bad : status ≡ BadArguments → NamesNone asking
      ⊎ ((IsUnderFront asking × HasBadProfile reader_told old.0 new.0) ⊎ IsScan asking)
  -- Where the text names no format, nothing is read.
  pub bad_format : NamesNone asking → ((status ≡ BadArguments) ⊎ (status ≡ NoMemory)) × (new.0 ≡ old.0)
  -- Where there was no memory, nothing was read, or the profile alone: the capture or the lines after it were not.
  pub memory : status ≡ NoMemory → ReadWithoutMemory reader_told asking old.0 new.0
  -- Standard error gets some text where anything went wrong, and else stays as it is.
  pub err_text : Failed status → IsTold (err_told old.2) (err_told new.2)
  pub quiet : EndedWell status → new.2 ≡ old.2
