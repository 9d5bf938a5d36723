-- What `clap` finds in the words of a subcommand without more flags than `--sample`, in `pmb
-- encode FORMAT` and `pmb decode FORMAT`, and in calls for help and the version: the law
-- `words_ask`. A word that doesn't begin with a hyphen (byte 45) is a value of the subcommand;
-- words that are known are computed.
use Rattle.std.proofs.Common.{◌≡◌, ◌≢◌, ℕ, false, eqb, Some, None, List, [], ◌∷◌, codes, refl, sym, ap, ap₂, ◌∙◌, subst}
use Rattle.std.specs.Str.{bytes_eq}
use Rattle.std.proofs.lemmas.Bool.{ne_eqb}
use Rattle.clap.specs.Faults.{check_fault, defaults_fault, level_fault, settle_fault, step_fault, walk_fault}
use Rattle.clap.specs.Faults.{word_fault}
use Rattle.clap.specs.Kinds.{or_else}
use Rattle.clap.specs.Lexer.{strip_byte}
use Rattle.clap.specs.Simple.{built_leaf}
use Rattle.clap.specs.Walk.{Held, Step, Walk, after_step, arg_by_index, finished, idle, nothing_held, option, plain_word, settled}
use Rattle.clap.specs.Walk.{to_positional, value, walk, walk_from, walked, word_met}
use Rattle.clap.specs.Words.{Kinds, Row, Rule, Shape, Text, subcommand_of}
use Rattle.clap.proofs.OnLiterals.{clap_on_literals}
use Rattle.pmb_args.specs.Asked.{AskFor, Convert, NeedsNoFlag, Scan, UnderProfile, Wanted, Show, Check, Json, Log, Stats}
use Rattle.pmb_args.specs.Asked.{Build, Run, Profile, converter, format_in, name_of, wanted_by}
use Rattle.pmb_args.specs.Facts.{FactsCommand, FactsWanted, SpellDevices, json, log, stats, at_first, command_name}
use Rattle.pmb_args.specs.Stats.{StatsWanted}
use Rattle.pmb_args.specs.declared.direction.Direction.{Direction}
use Rattle.pmb_args.specs.declared.direction.Direction.TheVariants.{Encode, Decode}
use Rattle.pmb_args.specs.declared.profile_place.ProfilePlace.TheVariants.{Sample, Front}
use Rattle.clap.specs.declared.error.kind.ErrorKind.TheVariants.{DisplayHelp, DisplayVersion, InvalidSubcommand}
use Rattle.pmb_args.specs.Words.{AskToTell, IsFlag, help, version, faults_of, lines_app, pmb_app}

-- a word that does not begin with a hyphen
abbrev pub IsNoFlag : Text → Type 0
IsNoFlag [] = Unit {0}
IsNoFlag (c ∷ cs) = c ≢ 45

pub no_flag : (word : Text) → (IsFlag word → ⊥) → IsNoFlag word
no_flag [] plain = tt
no_flag (c ∷ cs) plain = λ is. plain (cs, ap (λ b. b ∷ cs) is)

-- it is not `--`
pub is_no_end : (word : Text) → IsNoFlag word → bytes_eq word (45 ∷ 45 ∷ []) ≡ false
is_no_end [] plain = refl
is_no_end (c ∷ cs) plain = let test : eqb c 45 ≡ false = ne_eqb c 45 plain in rw test refl

-- it has none to take off
pub has_no_hyphen : (word : Text) → IsNoFlag word → strip_byte 45 word ≡ None
has_no_hyphen [] plain = refl
has_no_hyphen (c ∷ cs) plain = let test : eqb c 45 ≡ false = ne_eqb c 45 plain in rw test refl

-- it is a value, where no subcommand is named and nothing waits
is_value : (rules : List Rule) (position : ℕ) (word : Text) (h : Held) → IsNoFlag word
    → word_met rules [] false idle position word h ≡ (h, value)
is_value rules position word h plain =
    let no_end = is_no_end word plain in
    let no_hyphen = has_no_hyphen word plain in
    rw (no_end, no_hyphen, no_hyphen) refl

-- and no fault
is_no_fault : (s : Shape) (word : Text) (h : Held) → IsNoFlag word → word_fault s [] false idle word h ≡ []
is_no_fault s word h plain =
    let no_end = is_no_end word plain in
    let no_hyphen = has_no_hyphen word plain in
    rw (no_end, no_hyphen, no_hyphen) refl

-- it is the value of a flag that waits for one
pub value_met : (rules : List Rule) (position : ℕ) (id word : Text) (h : Held) → IsNoFlag word
    → word_met rules [] false (option id) position word h ≡ plain_word rules (option id) word h
value_met rules position id word h plain =
    let no_end = is_no_end word plain in
    let no_hyphen = has_no_hyphen word plain in
    rw (no_end, no_hyphen, no_hyphen) refl

-- which is no fault either
pub value_is_no_fault : (s : Shape) (id word : Text) (h : Held) → IsNoFlag word → word_fault s [] false (option id) word h
    ≡ []
value_is_no_fault s id word h plain =
    let no_end = is_no_end word plain in
    let no_hyphen = has_no_hyphen word plain in
    rw (no_end, no_hyphen, no_hyphen) refl

-- ---- a subcommand with that word alone

-- where the walk over it ends
pub walk_one : (rules : List Rule) (word : Text) → IsNoFlag word → walk rules [] nothing_held (word ∷ [])
    ≡ to_positional rules (arg_by_index rules 1) word (walk_from nothing_held) nothing_held
unfolding walked
walk_one rules word plain = ap (λ (met : Held × Step). after_step rules word (walk_from nothing_held) met.0 met.1)
    (is_value rules 1 word nothing_held plain)

pub walk_fault_one : (s : Shape) (word : Text) → IsNoFlag word → walk_fault s [] (walk_from nothing_held) (word ∷ [])
    ≡ or_else (or_else [] (step_fault s 1 nothing_held value)) []
unfolding walk_fault walked
walk_fault_one s word plain =
    ap₂ (λ (fault : Kinds) (met : Held × Step). or_else (or_else fault (step_fault s 1 met.0 met.1)) [])
    (is_no_fault s word nothing_held plain) (is_value s.rules 1 word nothing_held plain)

-- the faults of a level, by those of its walk
abbrev pub after_walk : Shape → Kinds → Walk → Kinds
after_walk s fault end =
    or_else fault (or_else [] (or_else (settle_fault s.rules s.args_override_self end.held)
    (or_else (defaults_fault (settled s.rules end.held).rows s.rules)
    (check_fault s (finished s.rules end.held) false))))

-- `encode` or `decode` as it is built
abbrev leaf : Direction → Shape
leaf direction = built_leaf (lines_app (converter direction)).top

-- where the walk over FORMAT ends in it
abbrev end_of : Direction → Text → Walk
end_of direction word = to_positional (leaf direction).rules (arg_by_index (leaf direction).rules 1) word
    (walk_from nothing_held) nothing_held

abbrev leaf_fault : Direction → Text → Kinds
leaf_fault direction word = level_fault (leaf direction) [] nothing_held (word ∷ []) false []

abbrev words_of : Direction → Text → Text → List Text
words_of direction name word = name ∷ converter direction ∷ word ∷ []

one_word : (direction : Direction) (word : Text) → IsNoFlag word
    → leaf_fault direction word ≡ after_walk (leaf direction)
    (or_else (or_else [] (step_fault (leaf direction) 1 nothing_held value)) []) (end_of direction word)
one_word direction word plain = ap₂ (after_walk (leaf direction)) (walk_fault_one (leaf direction) word plain)
    (walk_one (leaf direction).rules word plain)

-- it has no fault there
takes : (direction : Direction) (word : Text)
    → after_walk (leaf direction) (or_else (or_else [] (step_fault (leaf direction) 1 nothing_held value)) [])
    (end_of direction word) ≡ []
unfolding clap_on_literals
takes Encode word = refl
takes Decode word = refl

enters : (direction : Direction) (name word : Text) → faults_of (words_of direction name word)
    ≡ or_else (leaf_fault direction word) []
unfolding clap_on_literals
enters Encode name word = refl
enters Decode name word = refl

-- the matches of a walk's end
abbrev pub rows_of_walk : Direction → Walk → List Row
rows_of_walk direction end = finished (leaf direction).rules end.held

rows_found : (direction : Direction) (name word : Text) → subcommand_of pmb_app (words_of direction name word)
    ≡ Some (converter direction, rows_of_walk direction (walk (leaf direction).rules [] nothing_held (word ∷ [])))
unfolding clap_on_literals
rows_found Encode name word = refl
rows_found Decode name word = refl

has_format : (direction : Direction) (word : Text) → word ≡ format_in (rows_of_walk direction (end_of direction word))
unfolding clap_on_literals
has_format Encode word = refl
has_format Decode word = refl

-- `pmb encode FORMAT` and `pmb decode FORMAT` are taken, and ask for what FORMAT says.
pub asks_to_convert : (name format : Text) (direction : Direction) → (IsFlag format → ⊥)
    → AskFor (words_of direction name format) (Convert direction format)
asks_to_convert name format direction no_hyphen =
    let plain = no_flag format no_hyphen in
    record {
      no_fault = enters direction name format ∙ ap (λ (k : Kinds). or_else k [])
          (one_word direction format plain ∙ takes direction format);
      asks = (
        _,
        rows_found direction name format ∙ ap (λ (end : Walk). Some (converter direction, rows_of_walk direction end))
            (walk_one (leaf direction).rules format plain),
        has_format direction format,
      );
    }

-- ---- a subcommand with the flag `--sample` alone, or without it

-- no words spell no devices
pub no_device : SpellDevices [] []
no_device = record { addresses = []; spell = tt; once = refl }

-- `json`, `log` and `stats`
facts_sampled : (name : Text) (command : FactsCommand)
    → AskFor (name ∷ command_name command ∷ codes "--sample" ∷ [])
    (UnderProfile Sample (wanted_by command (at_first command)))
unfolding clap_on_literals
facts_sampled name json = record {
  no_fault = refl;
  asks = (_, refl, refl, record { start = refl; after_bad_token = refl; digits = refl; devices = no_device });
}
facts_sampled name log = record {
  no_fault = refl;
  asks = (_, refl, refl, record { start = refl; after_bad_token = refl; digits = refl; devices = no_device });
}
facts_sampled name stats = record {
  no_fault = refl;
  asks = (
    _,
    refl,
    refl,
    record {
      form = refl;
      facts = record { start = refl; after_bad_token = refl; digits = refl; devices = no_device };
      fail_on = refl;
    },
  );
}

facts_unsampled : (name : Text) (command : FactsCommand) → AskFor (name ∷ command_name command ∷ [])
    (UnderProfile Front (wanted_by command (at_first command)))
unfolding clap_on_literals
facts_unsampled name json = record {
  no_fault = refl;
  asks = (_, refl, refl, record { start = refl; after_bad_token = refl; digits = refl; devices = no_device });
}
facts_unsampled name log = record {
  no_fault = refl;
  asks = (_, refl, refl, record { start = refl; after_bad_token = refl; digits = refl; devices = no_device });
}
facts_unsampled name stats = record {
  no_fault = refl;
  asks = (
    _,
    refl,
    refl,
    record {
      form = refl;
      facts = record { start = refl; after_bad_token = refl; digits = refl; devices = no_device };
      fail_on = refl;
    },
  );
}

pub asks_sampled : (name : Text) (wanted : Wanted) → NeedsNoFlag wanted
    → AskFor (name ∷ name_of wanted ∷ codes "--sample" ∷ []) (UnderProfile Sample wanted)
unfolding clap_on_literals
-- each subcommand: no fault, and the matches that clap builds of these words
asks_sampled name Show plain = record { no_fault = refl; asks = (_, refl, refl, tt) }
asks_sampled name Check plain = record { no_fault = refl; asks = (_, refl, refl, tt) }
asks_sampled name (Json choice) plain =
    subst (λ (j : FactsWanted). AskFor (name ∷ codes "json" ∷ codes "--sample" ∷ []) (UnderProfile Sample (Json j)))
    (sym plain) (facts_sampled name json)
asks_sampled name (Log choice) plain =
    subst (λ (l : FactsWanted). AskFor (name ∷ codes "log" ∷ codes "--sample" ∷ []) (UnderProfile Sample (Log l)))
    (sym plain) (facts_sampled name log)
asks_sampled name (Stats choice) plain =
    subst (λ (s : StatsWanted). AskFor (name ∷ codes "stats" ∷ codes "--sample" ∷ []) (UnderProfile Sample (Stats s)))
    (sym plain) (facts_sampled name stats)
asks_sampled name Build plain = record { no_fault = refl; asks = (_, refl, refl, tt) }
asks_sampled name Run plain = record { no_fault = refl; asks = (_, refl, refl, tt) }
asks_sampled name Profile plain = record { no_fault = refl; asks = (_, refl, refl, tt) }

pub asks_unsampled : (name : Text) (wanted : Wanted) → NeedsNoFlag wanted
    → AskFor (name ∷ name_of wanted ∷ []) (UnderProfile Front wanted)
unfolding clap_on_literals
-- the same without the flag
asks_unsampled name Show plain = record { no_fault = refl; asks = (_, refl, refl, tt) }
asks_unsampled name Check plain = record { no_fault = refl; asks = (_, refl, refl, tt) }
asks_unsampled name (Json choice) plain =
    subst (λ (j : FactsWanted). AskFor (name ∷ codes "json" ∷ []) (UnderProfile Front (Json j))) (sym plain)
    (facts_unsampled name json)
asks_unsampled name (Log choice) plain =
    subst (λ (l : FactsWanted). AskFor (name ∷ codes "log" ∷ []) (UnderProfile Front (Log l))) (sym plain)
    (facts_unsampled name log)
asks_unsampled name (Stats choice) plain =
    subst (λ (s : StatsWanted). AskFor (name ∷ codes "stats" ∷ []) (UnderProfile Front (Stats s))) (sym plain)
    (facts_unsampled name stats)
asks_unsampled name Build plain = record { no_fault = refl; asks = (_, refl, refl, tt) }
asks_unsampled name Run plain = record { no_fault = refl; asks = (_, refl, refl, tt) }
asks_unsampled name Profile plain = record { no_fault = refl; asks = (_, refl, refl, tt) }

-- ---- a subcommand without any flag

pub asks_to_scan : (name : Text) → AskFor (name ∷ codes "scan" ∷ []) Scan
unfolding clap_on_literals
asks_to_scan name = record { no_fault = refl; asks = (_, refl) }

-- ---- help and the version

-- The help and the version are asked for.
help_fault : (name : Text) → faults_of (name ∷ codes "--help" ∷ []) ≡ DisplayHelp ∷ []
unfolding clap_on_literals
help_fault name = refl

version_fault : (name : Text) → faults_of (name ∷ codes "--version" ∷ []) ≡ DisplayVersion ∷ []
unfolding clap_on_literals
version_fault name = refl

pub asks_for_help : (name : Text) → AskToTell (name ∷ codes "--help" ∷ [])
asks_for_help name = help (help_fault name)

pub asks_for_version : (name : Text) → AskToTell (name ∷ codes "--version" ∷ [])
asks_for_version name = version (version_fault name)

-- After `help` any words may be a call for help or name no command.
pub has_help_fault : (name : Text) (words : List Text) → faults_of (name ∷ codes "help" ∷ words) ≡ DisplayHelp
    ∷ InvalidSubcommand ∷ []
unfolding clap_on_literals
has_help_fault name words = refl
