-- The words that `pmb` takes, after its own name: `import SOURCE` with its flags, `show`, `check`, `build`, `run` and
-- `profile`, each with or without `--sample`, `json`, `log` and `stats` with their flags, `scan`, `encode FORMAT`
-- and `decode FORMAT`.
use Rattle.std.specs.Prelude.{◌≡◌, ◌≢◌, ◌⊎◌, ◌++◌, true, Some, List, [], ◌∷◌, codes}
use Rattle.clap.specs.Words.{App, IsAmong, Kinds, Rule, Text, fault_of, new_app, new_rule, with_rule, with_subcommand}
use Rattle.clap.specs.declared.builder.action.ArgAction.{ArgAction}
use Rattle.clap.specs.declared.builder.action.ArgAction.TheVariants.{Append, Set, SetTrue}
use Rattle.clap.specs.declared.error.kind.ErrorKind.{ErrorKind}
use Rattle.clap.specs.declared.error.kind.ErrorKind.TheVariants.{DisplayHelp, DisplayVersion}

-- a flag of this name
abbrev pub flag : Text → Rule
flag name = record (new_rule name) { long = Some name; action = Some SetTrue }

-- the flag `--sample`
abbrev pub sample : Rule
sample = flag (codes "sample")

-- `show`, `check`, `build`, `run` or `profile` with its flag
abbrev pub sampled_app : Text → App
sampled_app name = with_rule (new_app name) sample

-- a flag of this name that a word follows: it is given once at most, or any number of times
abbrev pub valued : Text → ArgAction → Rule
valued name uses = record (new_rule name) { long = Some name; action = Some uses; value_names = 1 }

-- a subcommand with the flags that `json`, `log` and `stats` have
abbrev pub with_fact_flags : App → App
with_fact_flags app =
    with_rule (with_rule (with_rule (with_rule (with_rule (with_rule app sample) (flag (codes "late")))
    (flag (codes "fixed-vout-mode"))) (flag (codes "keep-going"))) (valued (codes "digits") Set))
    (valued (codes "device") Append)

-- `json` or `log` with its flags
abbrev pub facts_app : Text → App
facts_app name = with_fact_flags (new_app name)

-- `stats` with its flags
abbrev pub stats_app : App
stats_app =
    with_rule (with_fact_flags (with_rule (new_app (codes "stats")) (flag (codes "json"))))
    (valued (codes "fail-on") Set)

-- a word of this name, which has to be there
abbrev pub required_word : Text → Rule
required_word name = record (new_rule name) { action = Some Set; required = true }

-- `import` with its word SOURCE and its flags
abbrev pub import_app : App
import_app =
    with_rule (with_rule (with_rule (with_rule (new_app (codes "import")) (required_word (codes "SOURCE")))
    (valued (codes "bus") Set)) (valued (codes "rate") Set)) (flag (codes "unshifted"))

-- the word FORMAT
abbrev pub format_rule : Rule
format_rule = required_word (codes "FORMAT")

-- `encode` or `decode` with its word
abbrev pub lines_app : Text → App
lines_app name = with_rule (new_app name) format_rule

-- a subcommand has to be there; no arguments prints help; --version exists
abbrev pub top_app : App → App
top_app a = record a {
  top = record a.top {
    subcommand_required = true;
    arg_required_else_help = true;
    has_version =
        true;
  };
}

-- `pmb` with `import`
abbrev pub recording_app : App
recording_app = with_subcommand (top_app (new_app (codes "pmb"))) import_app.top

-- and with the subcommands that read a capture
abbrev pub capture_app : App
capture_app =
    with_subcommand (with_subcommand (with_subcommand (with_subcommand (with_subcommand recording_app
    (sampled_app (codes "show")).top) (sampled_app (codes "check")).top) (facts_app (codes "json")).top)
    (facts_app (codes "log")).top) stats_app.top

-- `scan`, which has no flags
abbrev pub scan_app : App
scan_app = new_app (codes "scan")

-- `parts`, of which help is all that is here
abbrev pub parts_app : App
parts_app = new_app (codes "parts")

-- and with all others
abbrev pub pmb_app : App
pmb_app =
    with_subcommand (with_subcommand (with_subcommand (with_subcommand (with_subcommand (with_subcommand
    (with_subcommand capture_app (sampled_app (codes "build")).top) (sampled_app (codes "run")).top)
    (sampled_app (codes "profile")).top) scan_app.top) parts_app.top) (lines_app (codes "encode")).top) (lines_app (codes "decode")).top

-- the kinds of fault that `clap` may find in the words; a call for help or for the version counts as one
abbrev pub faults_of : List Text → Kinds
faults_of words = fault_of pmb_app words

-- a text about `pmb` is asked for, and nothing else: its help, or its version
pub data AskToTell (words : List Text) : Type 0 where
  help : faults_of words ≡ DisplayHelp ∷ [] → AskToTell words
  version : faults_of words ≡ DisplayVersion ∷ [] → AskToTell words

-- what tells about `pmb`, where it is no fault
abbrev pub IsTelling : ErrorKind → Type 0
IsTelling kind = (kind ≡ DisplayHelp) ⊎ (kind ≡ DisplayVersion)

-- the words have a fault, and it is no call for help or for the version
pub record AreRefused (words : List Text) : Type 0 where
  pub some : faults_of words ≢ []
  pub no_help : ¬ IsAmong DisplayHelp (faults_of words)
  pub no_version : ¬ IsAmong DisplayVersion (faults_of words)

-- the words may have a fault other than such a call
pub record MayBeRefused (words : List Text) : Type 0 where
  pub kind : ErrorKind
  pub no_telling : ¬ IsTelling kind
  pub among : IsAmong kind (faults_of words)

-- a word that begins with a hyphen
abbrev pub IsFlag : Text → Type 0
IsFlag word = (rest : Text) × (word ≡ codes "-" ++ rest)
