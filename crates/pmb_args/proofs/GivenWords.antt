-- What `clap` finds in the words of `pmb json`, `pmb log` or `pmb stats` with one flag that a word follows, as
-- `--digits N`: for the laws `fact_words_ask` and `stats_words_ask`. The walk over the words is followed to the value,
-- which begins with no hyphen. Of each of these lines the words but the value are known, and computed.
use Rattle.std.proofs.Common.{◌≡◌, Some, List, [], ◌∷◌, codes, false, refl, sym, ap, ap₂, ◌∙◌}
use Rattle.clap.specs.Faults.{level_fault, step_fault, walk_fault}
use Rattle.clap.specs.Kinds.{or_else}
use Rattle.clap.specs.Simple.{built_leaf}
use Rattle.clap.specs.Walk.{Held, Step, Walk, after_step, finished, nothing_held, option, plain_word, walk, walk_from}
use Rattle.clap.specs.Walk.{walked}
use Rattle.clap.specs.Words.{App, Kinds, Row, Rule, Shape, Text, subcommand_of}
use Rattle.clap.proofs.OnLiterals.{clap_on_literals}
use Rattle.pmb_args.specs.Asked.{AskFor, AskForNothing, AsksNothing, FlagsAsk, UnderProfile, Wanted, name_of, place_in}
use Rattle.pmb_args.specs.Facts.{FactsCommand, json, log, stats, command_name}
use Rattle.pmb_args.specs.declared.profile_place.ProfilePlace.TheVariants.{Front}
use Rattle.pmb_args.specs.Words.{facts_app, faults_of, pmb_app, stats_app}
use Rattle.pmb_args.proofs.AskedWords.{IsNoFlag, after_walk, value_is_no_fault, value_met}

abbrev pub fact_words : FactsCommand → Text → List Text → List Text
fact_words command name words = name ∷ command_name command ∷ words

-- ---- a flag that a word follows

-- the subcommands, each with such a flag
pub data Given : Type 0 where
  json_digits : Given
  json_device : Given
  log_digits : Given
  log_device : Given
  stats_digits : Given
  stats_device : Given
  stats_fail_on : Given

abbrev pub command_of : Given → FactsCommand
command_of json_digits = json
command_of json_device = json
command_of log_digits = log
command_of log_device = log
command_of stats_digits = stats
command_of stats_device = stats
command_of stats_fail_on = stats

-- `--digits` and `--device` of each
abbrev pub digits_to : FactsCommand → Given
digits_to json = json_digits
digits_to log = log_digits
digits_to stats = stats_digits

abbrev pub device_to : FactsCommand → Given
device_to json = json_device
device_to log = log_device
device_to stats = stats_device

abbrev id_of : Given → Text
id_of json_digits = codes "digits"
id_of json_device = codes "device"
id_of log_digits = codes "digits"
id_of log_device = codes "device"
id_of stats_digits = codes "digits"
id_of stats_device = codes "device"
id_of stats_fail_on = codes "fail-on"

abbrev pub flag_of : Given → Text
flag_of json_digits = codes "--digits"
flag_of json_device = codes "--device"
flag_of log_digits = codes "--digits"
flag_of log_device = codes "--device"
flag_of stats_digits = codes "--digits"
flag_of stats_device = codes "--device"
flag_of stats_fail_on = codes "--fail-on"

abbrev given : Given → Text → List Text
given v word = flag_of v ∷ word ∷ []

-- the words of the command
abbrev pub words_given : Given → Text → Text → List Text
words_given v name word = fact_words (command_of v) name (given v word)

-- the subcommand as it is built
abbrev app_of_command : FactsCommand → App
app_of_command json = facts_app (codes "json")
app_of_command log = facts_app (codes "log")
app_of_command stats = stats_app

abbrev leaf : Given → Shape
leaf v = built_leaf (app_of_command (command_of v)).top

abbrev rules : Given → List Rule
rules v = (leaf v).rules

-- after the flag
abbrev start : Given → Walk
start v = walked (rules v) [] (walk_from nothing_held) (flag_of v)

-- what the word is there
abbrev met : Given → Text → Held × Step
met v word = plain_word (rules v) (option (id_of v)) word (start v).held

abbrev end_by : Given → Text → Held × Step → Walk
end_by v word how = after_step (rules v) word (start v) how.0 how.1

abbrev fault_by : Given → Kinds → Held × Step → Kinds
fault_by v fault how = or_else (or_else fault (step_fault (leaf v) 1 how.0 how.1)) []

walk_given : (v : Given) (word : Text) → IsNoFlag word → walk (rules v) [] nothing_held (given v word)
    ≡ end_by v word (met v word)
unfolding clap_on_literals
walk_given json_digits word plain = ap (end_by json_digits word)
    (value_met (rules json_digits) 1 (codes "digits") word (start json_digits).held plain)
walk_given json_device word plain = ap (end_by json_device word)
    (value_met (rules json_device) 1 (codes "device") word (start json_device).held plain)
walk_given log_digits word plain = ap (end_by log_digits word)
    (value_met (rules log_digits) 1 (codes "digits") word (start log_digits).held plain)
walk_given log_device word plain = ap (end_by log_device word)
    (value_met (rules log_device) 1 (codes "device") word (start log_device).held plain)
walk_given stats_digits word plain = ap (end_by stats_digits word)
    (value_met (rules stats_digits) 1 (codes "digits") word (start stats_digits).held plain)
walk_given stats_device word plain = ap (end_by stats_device word)
    (value_met (rules stats_device) 1 (codes "device") word (start stats_device).held plain)
walk_given stats_fail_on word plain = ap (end_by stats_fail_on word)
    (value_met (rules stats_fail_on) 1 (codes "fail-on") word (start stats_fail_on).held plain)

walk_fault_given : (v : Given) (word : Text) → IsNoFlag word
    → walk_fault (leaf v) [] (walk_from nothing_held) (given v word) ≡ fault_by v [] (met v word)
unfolding clap_on_literals
walk_fault_given json_digits word plain =
    ap₂ (fault_by json_digits)
    (value_is_no_fault (leaf json_digits) (codes "digits") word (start json_digits).held plain)
    (value_met (rules json_digits) 1 (codes "digits") word (start json_digits).held plain)
walk_fault_given json_device word plain =
    ap₂ (fault_by json_device)
    (value_is_no_fault (leaf json_device) (codes "device") word (start json_device).held plain)
    (value_met (rules json_device) 1 (codes "device") word (start json_device).held plain)
walk_fault_given log_digits word plain =
    ap₂ (fault_by log_digits)
    (value_is_no_fault (leaf log_digits) (codes "digits") word (start log_digits).held plain)
    (value_met (rules log_digits) 1 (codes "digits") word (start log_digits).held plain)
walk_fault_given log_device word plain =
    ap₂ (fault_by log_device)
    (value_is_no_fault (leaf log_device) (codes "device") word (start log_device).held plain)
    (value_met (rules log_device) 1 (codes "device") word (start log_device).held plain)
walk_fault_given stats_digits word plain =
    ap₂ (fault_by stats_digits)
    (value_is_no_fault (leaf stats_digits) (codes "digits") word (start stats_digits).held plain)
    (value_met (rules stats_digits) 1 (codes "digits") word (start stats_digits).held plain)
walk_fault_given stats_device word plain =
    ap₂ (fault_by stats_device)
    (value_is_no_fault (leaf stats_device) (codes "device") word (start stats_device).held plain)
    (value_met (rules stats_device) 1 (codes "device") word (start stats_device).held plain)
walk_fault_given stats_fail_on word plain =
    ap₂ (fault_by stats_fail_on)
    (value_is_no_fault (leaf stats_fail_on) (codes "fail-on") word (start stats_fail_on).held plain)
    (value_met (rules stats_fail_on) 1 (codes "fail-on") word (start stats_fail_on).held plain)

level_given : (v : Given) (word : Text) → IsNoFlag word
    → level_fault (leaf v) [] nothing_held (given v word) false []
    ≡ after_walk (leaf v) (fault_by v [] (met v word)) (end_by v word (met v word))
level_given v word plain = ap₂ (after_walk (leaf v)) (walk_fault_given v word plain) (walk_given v word plain)

takes_given : (v : Given) (word : Text)
    → after_walk (leaf v) (fault_by v [] (met v word)) (end_by v word (met v word)) ≡ []
unfolding clap_on_literals
takes_given json_digits word = refl
takes_given json_device word = refl
takes_given log_digits word = refl
takes_given log_device word = refl
takes_given stats_digits word = refl
takes_given stats_device word = refl
takes_given stats_fail_on word = refl

enters_given : (v : Given) (name word : Text) → faults_of (words_given v name word)
    ≡ or_else (level_fault (leaf v) [] nothing_held (given v word) false []) []
unfolding clap_on_literals
enters_given json_digits name word = refl
enters_given json_device name word = refl
enters_given log_digits name word = refl
enters_given log_device name word = refl
enters_given stats_digits name word = refl
enters_given stats_device name word = refl
enters_given stats_fail_on name word = refl

no_fault_given : (v : Given) (name word : Text) → IsNoFlag word → faults_of (words_given v name word) ≡ []
no_fault_given v name word plain = enters_given v name word
    ∙ ap (λ (k : Kinds). or_else k []) (level_given v word plain ∙ takes_given v word)

-- the matches
abbrev pub rows_given : Given → Text → List Row
rows_given v word = finished (rules v) (end_by v word (met v word)).held

walk_rows : (v : Given) (name word : Text) → subcommand_of pmb_app (words_given v name word)
    ≡ Some (command_name (command_of v), finished (rules v) (walk (rules v) [] nothing_held (given v word)).held)
unfolding clap_on_literals
walk_rows json_digits name word = refl
walk_rows json_device name word = refl
walk_rows log_digits name word = refl
walk_rows log_device name word = refl
walk_rows stats_digits name word = refl
walk_rows stats_device name word = refl
walk_rows stats_fail_on name word = refl

subcommand_given : (v : Given) (name word : Text) → IsNoFlag word → subcommand_of pmb_app (words_given v name word)
    ≡ Some (command_name (command_of v), rows_given v word)
subcommand_given v name word plain = walk_rows v name word
    ∙ ap (λ (end : Walk). Some (command_name (command_of v), finished (rules v) end.held)) (walk_given v word plain)

-- the profile is the one that comes first
front_given : (v : Given) (word : Text) → Front ≡ place_in (rows_given v word)
unfolding clap_on_literals
front_given json_digits word = refl
front_given json_device word = refl
front_given log_digits word = refl
front_given log_device word = refl
front_given stats_digits word = refl
front_given stats_device word = refl
front_given stats_fail_on word = refl

-- what the matches choose is asked for
pub choice_given : (v : Given) (name word : Text) (wanted : Wanted) → name_of wanted ≡ command_name (command_of v)
    → IsNoFlag word → FlagsAsk (rows_given v word) wanted
    → AskFor (words_given v name word) (UnderProfile Front wanted)
choice_given v name word wanted named plain asks = record {
  no_fault = no_fault_given v name word plain;
  asks = (
    rows_given v word,
    subcommand_given v name word plain ∙ ap (λ (n : Text). Some (n, rows_given v word)) (sym named),
    front_given v word,
    asks,
  );
}

-- or nothing, where they have a fault
pub nothing_given : (v : Given) (name word : Text) → IsNoFlag word
    → (subcommand_of pmb_app (words_given v name word) ≡ Some (command_name (command_of v), rows_given v word)
    → AsksNothing (subcommand_of pmb_app (words_given v name word))) → AskForNothing (words_given v name word)
nothing_given v name word plain nothing = record {
  no_fault = no_fault_given v name word plain;
  nothing = nothing (subcommand_given v name word plain);
}
