-- What a run of `pmb` does, whatever its words.
use Rattle.std.specs.Prelude.{◌≡◌, ◌≢◌, ◌⊎◌, List, [], ℕ}
use Rattle.pmb_io.specs.Told.{ReaderTold, WriterTold}
use Rattle.pmb_args.specs.ExitStatus.{EndedWell, Failed, IsTold, Tells}
use Rattle.pmb_args.specs.declared.exit_status.ExitStatus.{ExitStatus}
use Rattle.pmb_args.specs.declared.exit_status.ExitStatus.TheVariants.{Done, Refusals, BadArguments, IoFailed, NoMemory}
use Rattle.pmb_args.specs.Asked.{AskFor, AskForNothing, Asking, HasBadFormat, Json, Stats, UnderProfile}
use Rattle.pmb_args.specs.Facts.{FactsWanted}
use Rattle.pmb_args.specs.Stats.{StatsWanted}
use Rattle.pmb_args.specs.declared.profile_place.ProfilePlace.{ProfilePlace}
use Rattle.pmb_args.specs.declared.stats_arguments.StatsForm.TheVariants.{Objects}
use Rattle.pmb_args.specs.Words.{AreRefused, AskToTell, MayBeRefused, faults_of}
use Rattle.pmb_cli.specs.JsonOutput.{TellsBytes, WroteJson}
use Rattle.pmb_cli.specs.Profiles.{HasBadProfile}
use Rattle.pmb_cli.specs.Statuses.{StatusTells}
use Rattle.pmb_cli.specs.Tasks.{DidTask, IsScan, IsUnderFront}

-- By its words, by the reader, standard output and standard error, before and after, and by the status.
pub record RanProgram {R W E : Type 0} (reader_told : R → ReaderTold) (out_told : W → WriterTold)
    (err_told : E → WriterTold) (sample : List ℕ) (words : List (List ℕ)) (old new : R × W × E)
    (status : ExitStatus) : Type 0 where
  -- What the words ask for was done, if they ask for something: so a bad FORMAT is looked at before anything is read.
  pub did : (asking : Asking) → AskFor words asking → DidTask reader_told out_told err_told sample asking old new status
  -- What `json` writes is lines of JSON, whatever the profile and the capture, if the reader tells its bytes.
  pub json : (place : ProfilePlace) (wanted : FactsWanted) → AskFor words (UnderProfile place (Json wanted))
      → TellsBytes (reader_told old.0) → WroteJson (out_told old.1) (out_told new.1) status
  -- So is what `stats` writes with `--json`, whatever the reader.
  pub sums : (place : ProfilePlace) (wanted : StatsWanted) → AskFor words (UnderProfile place (Stats wanted))
      → wanted.form ≡ Objects → WroteJson (out_told old.1) (out_told new.1) status
  -- The words are looked at first. Where `clap` finds a fault in them, of which a call for help or
  -- the version is one, nothing
  -- is read; with Done some text is on standard output, and the status is never Refusals.
  pub unread : faults_of words ≢ [] → new.0 ≡ old.0
  pub out_text : faults_of words ≢ [] → status ≡ Done → Tells (out_told old.1) (out_told new.1)
  pub not_refusals : faults_of words ≢ [] → status ≢ Refusals
  -- A call for help or the version is done, unless standard output fails or there is no memory.
  pub helped : AskToTell words → (status ≡ Done) ⊎ (status ≡ IoFailed) ⊎ (status ≡ NoMemory)
  -- Any other fault is that of bad words, with nothing on standard output.
  pub refused : AreRefused words → (status ≡ BadArguments) ⊎ (status ≡ NoMemory)
  pub unwritten : AreRefused words → new.1 ≡ old.1
  -- So are words without a fault that ask for nothing.
  pub nothing : AskForNothing words → (status ≡ BadArguments) ⊎ (status ≡ NoMemory)
  pub nothing_unread : AskForNothing words → new.0 ≡ old.0
  -- It is BadArguments only for these, for a FORMAT that names none, for a profile that is too long or has a fault, and
  -- where a first profile is asked for and there is none.
  pub bad : status ≡ BadArguments → (MayBeRefused words ⊎ AskForNothing words)
      ⊎ (HasBadFormat words ⊎ ((asking : Asking) × AskFor words asking
      × ((IsUnderFront asking × HasBadProfile reader_told old.0 new.0) ⊎ IsScan asking)))
  -- Whatever the words, the status says what failed, and how many reads were made; standard error
  -- gets some text where anything went wrong, and else stays as it is.
  pub tells : StatusTells reader_told out_told (old.0, old.1) (new.0, new.1) status
  pub err_text : Failed status → IsTold (err_told old.2) (err_told new.2)
  pub quiet : EndedWell status → new.2 ≡ old.2
