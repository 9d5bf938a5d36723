-- What the words ask for, where `clap` finds no fault in them.
use Rattle.std.specs.Prelude.{◌≡◌, Option, Some, Err, List, [], codes, unwrap_or, if◌then◌else◌}
use Rattle.clap.specs.Words.{Row, Text, first_of, subcommand_of}
use Rattle.pmb_convert.specs.Spelling.{Names}
use Rattle.pmb_convert.specs.declared.format_fault.FormatFault.{FormatFault}
use Rattle.pmb_args.specs.declared.direction.Direction.{Direction}
use Rattle.pmb_args.specs.declared.direction.Direction.TheVariants.{Encode, Decode}
use Rattle.pmb_args.specs.declared.profile_place.ProfilePlace.{ProfilePlace}
use Rattle.pmb_args.specs.declared.profile_place.ProfilePlace.TheVariants.{Sample, Front}
use Rattle.pmb_args.specs.declared.tasks.Task.{Task}
use Rattle.pmb_args.specs.declared.tasks.Task.TheVariants as tasks
use Rattle.pmb_args.specs.declared.subcommand.Subcommand.{Subcommand}
use Rattle.pmb_args.specs.declared.subcommand.Subcommand.TheVariants as works
use Rattle.pmb_recorder.specs.Recorded.{Recorded, recorded_of}
use Rattle.pmb_args.specs.Flags.{has_flag}
use Rattle.pmb_args.specs.Import.{ImportAsks}
use Rattle.pmb_args.specs.Facts.{FactsAsk, FactsCommand, FactsWanted, json, log, stats, at_first, default_digits}
use Rattle.pmb_args.specs.Facts.{facts_wanted_of}
use Rattle.pmb_args.specs.Stats.{StatsAsk, StatsWanted, stats_wanted_of, table_of}
use Rattle.pmb_args.specs.Words.{faults_of, pmb_app}

-- What is wanted under a profile: a capture is shown, checked, written in JSON or as lines for people, or summed up,
-- packets are built from lines, requests are run, or the bus is described.
pub data Wanted : Type 0 where
  Show : Wanted
  Check : Wanted
  Json : (choice : FactsWanted) → Wanted
  Log : (choice : FactsWanted) → Wanted
  Stats : (choice : StatsWanted) → Wanted
  Build : Wanted
  Run : Wanted
  Profile : Wanted

-- the same as it is kept
abbrev pub wanted_of : Subcommand → Wanted
wanted_of works.Show = Show
wanted_of works.Check = Check
wanted_of (works.Json choice) = Json (facts_wanted_of choice)
wanted_of (works.Log choice) = Log (facts_wanted_of choice)
wanted_of (works.Stats choice) = Stats (stats_wanted_of choice)
wanted_of works.Build = Build
wanted_of works.Run = Run
wanted_of works.Profile = Profile

-- A capture is made of a recording; or something is wanted under a profile, the sample or the one that comes first in
-- the input; or the numbers of lines are converted, in the format that a text names; or a first profile is made of a
-- capture.
pub data Asking : Type 0 where
  Import : (recorded : Recorded) → Asking
  UnderProfile : (place : ProfilePlace) → (wanted : Wanted) → Asking
  Convert : (direction : Direction) → (format : Text) → Asking
  Scan : Asking

-- the same as it is kept
abbrev pub asking_of : Task → Asking
asking_of (tasks.Import recorder) = Import (recorded_of recorder)
asking_of (tasks.UnderProfile place work) = UnderProfile place (wanted_of work)
asking_of (tasks.Convert direction format) = Convert direction format.now
asking_of tasks.Scan = Scan

-- ---- the subcommand, and its matches

-- the subcommand that asks for a work
abbrev pub name_of : Wanted → Text
name_of Show = codes "show"
name_of Check = codes "check"
name_of (Json choice) = codes "json"
name_of (Log choice) = codes "log"
name_of (Stats choice) = codes "stats"
name_of Build = codes "build"
name_of Run = codes "run"
name_of Profile = codes "profile"

-- and the one that converts in this direction
abbrev pub converter : Direction → Text
converter Encode = codes "encode"
converter Decode = codes "decode"

-- what `json`, `log` or `stats` asks for, where the flags that all three have choose this, and `stats` has no other
abbrev pub wanted_by : FactsCommand → FactsWanted → Wanted
wanted_by json choice = Json choice
wanted_by log choice = Log choice
wanted_by stats choice = Stats (table_of choice)

-- the profile is the sample with `--sample`
abbrev pub place_in : List Row → ProfilePlace
place_in rows = if has_flag (codes "sample") rows then Sample else Front

-- FORMAT among them, and no text where there is none
abbrev pub format_in : List Row → Text
format_in rows = unwrap_or (first_of (codes "FORMAT") rows) []

-- the flags of `json`, `log` and `stats` say more of what is wanted, and nothing of any other
abbrev pub FlagsAsk : List Row → Wanted → Type 0
FlagsAsk rows Show = Unit {0}
FlagsAsk rows Check = Unit {0}
FlagsAsk rows (Json choice) = FactsAsk (default_digits json) rows choice
FlagsAsk rows (Log choice) = FactsAsk (default_digits log) rows choice
FlagsAsk rows (Stats choice) = StatsAsk rows choice
FlagsAsk rows Build = Unit {0}
FlagsAsk rows Run = Unit {0}
FlagsAsk rows Profile = Unit {0}

-- no flag but `--sample` is needed to ask for this
abbrev pub NeedsNoFlag : Wanted → Type 0
NeedsNoFlag Show = Unit {0}
NeedsNoFlag Check = Unit {0}
NeedsNoFlag (Json choice) = choice ≡ at_first json
NeedsNoFlag (Log choice) = choice ≡ at_first log
NeedsNoFlag (Stats choice) = choice ≡ table_of (at_first stats)
NeedsNoFlag Build = Unit {0}
NeedsNoFlag Run = Unit {0}
NeedsNoFlag Profile = Unit {0}

-- the subcommand of this name asks for this, by its matches
abbrev pub NameAsks : Text → List Row → Wanted → Type 0
NameAsks name rows wanted = (name ≡ name_of wanted) × FlagsAsk rows wanted

-- what is asked for by the subcommand that `clap` found, of which it tells the name and the matches
abbrev pub SubcommandAsks : Option (Text × List Row) → Asking → Type 0
SubcommandAsks subcommand (Import recorded) = (rows : List Row) × (subcommand ≡ Some (codes "import", rows))
    × ImportAsks rows recorded
SubcommandAsks subcommand (UnderProfile place wanted) = (rows : List Row) × (subcommand ≡ Some (name_of wanted, rows))
    × (place ≡ place_in rows) × FlagsAsk rows wanted
SubcommandAsks subcommand (Convert direction format) = (rows : List Row)
    × (subcommand ≡ Some (converter direction, rows)) × (format ≡ format_in rows)
SubcommandAsks subcommand Scan = (rows : List Row) × (subcommand ≡ Some (codes "scan", rows))

-- it asks for nothing
abbrev pub AsksNothing : Option (Text × List Row) → Type 0
AsksNothing subcommand = (asking : Asking) → SubcommandAsks subcommand asking → ⊥

-- ---- the words

-- `clap` finds no fault in the words, and they ask for this
pub record AskFor (words : List Text) (asking : Asking) : Type 0 where
  pub no_fault : faults_of words ≡ []
  pub asks : SubcommandAsks (subcommand_of pmb_app words) asking

-- `clap` finds no fault in them, and they ask for nothing
pub record AskForNothing (words : List Text) : Type 0 where
  pub no_fault : faults_of words ≡ []
  pub nothing : AsksNothing (subcommand_of pmb_app words)

-- the text of the format that is asked for names none
abbrev pub NamesNone : Asking → Type 0
NamesNone (Import recorded) = ⊥
NamesNone (UnderProfile place wanted) = ⊥
NamesNone (Convert direction format) = (fault : FormatFault) × Names format (Err fault)
NamesNone Scan = ⊥

-- they ask for lines in a format, but its text names none
pub record HasBadFormat (words : List Text) : Type 0 where
  pub direction : Direction
  pub format : Text
  pub asks : AskFor words (Convert direction format)
  pub fault : FormatFault
  pub bad : Names format (Err fault)
