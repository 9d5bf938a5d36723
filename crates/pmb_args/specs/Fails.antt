-- WHAT of `--fail-on`: how a list is spelled of what makes the status 1.
use Rattle.std.specs.Prelude.{◌≡◌, ◌≢◌, Bool, Option, Some, None, List, [], codes, map}
use Rattle.std.specs.List.{join_with_byte}
use Rattle.std.specs.Str.{byte, bytes_eq}
use Rattle.clap.specs.Words.{Text}
use Rattle.pmb_stats_counts.specs.declared.fail.Fail.{Fail}
use Rattle.pmb_stats_counts.specs.declared.fail.Fail.TheVariants.{Refusals, BadTokens, Nacks, Alerts}
use Rattle.pmb_stats_counts.specs.declared.fail.Fail.TheVariants.{Faults, NoneRead}
use Rattle.pmb_args.specs.Once.{each_once}

-- the word of each
abbrev pub fail_word : Fail → Text
fail_word Refusals = codes "refusals"
fail_word BadTokens = codes "bad-tokens"
fail_word Nacks = codes "nacks"
fail_word Alerts = codes "alerts"
fail_word Faults = codes "faults"
fail_word NoneRead = codes "none-read"

-- two that have the same word
abbrev pub same_fail : Fail → Fail → Bool
same_fail a b = bytes_eq (fail_word a) (fail_word b)

-- the words of a list, with a comma between each two
abbrev pub spelled : List Fail → Text
spelled fails = join_with_byte (byte ",") (map fail_word fails)

-- WHAT: the words of a list that is not empty, of which each counts once
pub record SpellsFails (WHAT : Text) (fails : List Fail) : Type 0 where
  pub named : List Fail
  pub some : named ≢ []
  pub spell : WHAT ≡ spelled named
  pub once : fails ≡ each_once same_fail named

-- what is chosen: the list that WHAT spells, and none where there is no WHAT
abbrev pub ChoosesFails : Option Text → Option (List Fail) → Type 0
ChoosesFails None chosen = chosen ≡ None
ChoosesFails (Some WHAT) None = ⊥
ChoosesFails (Some WHAT) (Some fails) = SpellsFails WHAT fails

-- there is a WHAT, and it spells no list
abbrev pub SpellsNoFails : Option Text → Type 0
SpellsNoFails None = ⊥
SpellsNoFails (Some WHAT) = (fails : List Fail) → ¬ (SpellsFails WHAT fails)
