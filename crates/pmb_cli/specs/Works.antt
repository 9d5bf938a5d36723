-- What `pmb show`, `pmb check`, `pmb json`, `pmb log`, `pmb stats`, `pmb build`, `pmb run` and `pmb profile` write of
-- what they read, and which of them take memory for it.
use Rattle.std.specs.Prelude.{◌≡◌, ◌⊎◌, ℕ, Bool, true, false, List, []}
use Rattle.std.specs.Io.KnownBytes.{IsAtEnd}
use Rattle.pmb_build.specs.Lines.{building}
use Rattle.pmb_capture.specs.Check.{checking}
use Rattle.pmb_capture.specs.Show.{showing}
use Rattle.pmb_io.specs.Runs.{Done, Job, OpenBefore, PartDone}
use Rattle.pmb_io.specs.Told.{ReaderTold, WriterTold, told_by}
use Rattle.pmb_io.specs.Tally.{IsTallyOf}
use Rattle.pmb_io.specs.declared.tally.Tally.{Tally}
use Rattle.pmb_preamble.specs.Front.{FirstMark, Undecided}
use Rattle.pmb_run.specs.Lines.{running}
use Rattle.pmb_profile_text.specs.Table.{bus_text}
use Rattle.pmb_table.specs.Profile.{ProfileParts}
use Rattle.pmb_cli.specs.Profiles.{PartUnderFront, UnderFront, UnderSample}
use Rattle.pmb_cli.specs.Facts.{json_of, log_of}
use Rattle.pmb_cli.specs.Stats.{stats_of}
use Rattle.pmb_args.specs.Asked.{Wanted, Show, Check, Json, Log, Stats, Build, Run, Profile}
use Rattle.pmb_args.specs.declared.profile_place.ProfilePlace.{ProfilePlace}
use Rattle.pmb_args.specs.declared.profile_place.ProfilePlace.TheVariants.{Sample, Front}

-- The text of the bus was written, and nothing was counted.
pub record IsDescribed (bus : ProfileParts) (tally : Tally) (text : List ℕ) : Type 0 where
  pub whole : text ≡ bus_text bus.ignored bus.devices
  pub counts : IsTallyOf 0 0 tally

-- What `profile` is to write: the text of the bus, whatever follows its profile. Of that nothing is wanted, so that it
-- never reads on to the end of it.
abbrev pub describing : ProfileParts → Job Tally
describing bus = record {
  Whole = λ tally bytes text. ⊥;
  Stops = λ tally bytes text. IsDescribed bus tally text;
  Front = λ bytes text. ⊥;
  IsOpen = λ bytes. ⊥;
}

-- What each work is to write under a profile. Only `json`, `log`, `stats` and `profile` look at the addresses that
-- it ignores.
abbrev pub working : Wanted → ProfileParts → Job Tally
working Show bus = showing bus.devices
working Check bus = checking bus.devices
working (Json wanted) bus = json_of wanted bus
working (Log wanted) bus = log_of wanted bus
working (Stats wanted) bus = stats_of wanted bus
working Build bus = building bus.devices
working Run bus = running bus.devices
working Profile bus = describing bus

-- the works that take memory, before they read or write: for the devices of a bus, and for sums
abbrev pub takes_memory : Wanted → Bool
takes_memory Show = false
takes_memory Check = false
takes_memory (Json wanted) = false
takes_memory (Log wanted) = false
takes_memory (Stats wanted) = true
takes_memory Build = false
takes_memory Run = true
takes_memory Profile = false

-- What was read but for a last piece left something open: nothing was decided of the profile, or
-- the job wants more of what
-- follows it.
abbrev pub OpenUnderFront : (List ℕ → Type 0) → List ℕ → Type 0
OpenUnderFront IsOpen read = Undecided read
    ⊎ ((profile : List ℕ) × (rest : List ℕ) × FirstMark read profile rest × IsOpen rest)

module _ {R W : Type 0} (reader_told : R → ReaderTold) (writer_told : W → WriterTold)
    (job : ProfileParts → Job Tally) where
  -- The text was written for what follows a profile: the reader ended, or no more was wanted, from
  -- the last piece on, which
  -- came by one read.
  abbrev pub WritesRest : R → R → Tally → ProfileParts → List ℕ → List ℕ → List ℕ → Type 0
  WritesRest old new tally bus rest text read =
      ((job bus).Whole tally rest text × ((reader_told new).ended ≡ true) × IsAtEnd (reader_told new).left)
      ⊎ ((job bus).Stops tally rest text × OpenBefore reader_told (OpenUnderFront (job bus).IsOpen) [] old new read)

  -- a job is done under the profile that comes first in its input
  abbrev pub DoneUnderFront : Tally → R × W → R × W → Type 0
  DoneUnderFront tally old new = UnderFront (WritesRest old.0 new.0 tally) (told_by reader_told writer_told old)
      (told_by reader_told writer_told new)

  -- a part of it is
  abbrev pub PartDoneUnderFront : R × W → R × W → Type 0
  PartDoneUnderFront old new = PartUnderFront (λ bus. (job bus).Front) (told_by reader_told writer_told old)
      (told_by reader_told writer_told new)

  -- it is done under the sample profile
  abbrev pub DoneUnderSample : List ℕ → Tally → R × W → R × W → Type 0
  DoneUnderSample sample tally old new = UnderSample
      (λ bus. Done reader_told writer_told (job bus) tally [] old new) sample

  abbrev pub PartDoneUnderSample : List ℕ → R × W → R × W → Type 0
  PartDoneUnderSample sample old new = UnderSample
      (λ bus. PartDone reader_told writer_told (job bus) [] old new) sample

  -- the same, by where the profile is
  abbrev pub DoneUnder : ProfilePlace → List ℕ → Tally → R × W → R × W → Type 0
  DoneUnder Sample sample tally old new = DoneUnderSample sample tally old new
  DoneUnder Front sample tally old new = DoneUnderFront tally old new

  abbrev pub PartDoneUnder : ProfilePlace → List ℕ → R × W → R × W → Type 0
  PartDoneUnder Sample sample old new = PartDoneUnderSample sample old new
  PartDoneUnder Front sample old new = PartDoneUnderFront old new
