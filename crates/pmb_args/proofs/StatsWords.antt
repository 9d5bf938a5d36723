-- What `clap` finds in the words of `pmb stats` with `--json` or `--fail-on WHAT`: the law `stats_words_ask`. No
-- word of WHAT begins with a hyphen (byte 45), so that `clap` takes it for the value of the flag.
use Rattle.std.proofs.Common.{Some, List, [], ◌∷◌, ◌++◌, codes, refl, sym, subst, arith}
use Rattle.std.specs.Str.{byte}
use Rattle.std.proofs.lemmas.List.{append-nil}
use Rattle.clap.specs.Words.{Text}
use Rattle.clap.proofs.OnLiterals.{clap_on_literals}
use Rattle.pmb_stats_counts.specs.declared.fail.Fail.{Fail}
use Rattle.pmb_stats_counts.specs.declared.fail.Fail.TheVariants.{Refusals, BadTokens, Nacks, Alerts}
use Rattle.pmb_stats_counts.specs.declared.fail.Fail.TheVariants.{Faults, NoneRead}
use Rattle.pmb_args.specs.Asked.{AskFor, AskForNothing, Stats, UnderProfile}
use Rattle.pmb_args.specs.Facts.{json, stats, at_first}
use Rattle.pmb_args.specs.Fails.{SpellsFails, fail_word, spelled}
use Rattle.pmb_args.specs.Faults.{AreWrongStats}
use Rattle.pmb_args.specs.Stats.{StatsAsk, table_of}
use Rattle.pmb_args.specs.Words.{IsFlag}
use Rattle.pmb_args.specs.declared.profile_place.ProfilePlace.TheVariants.{Front}
use Rattle.pmb_args.specs.declared.stats_arguments.StatsForm.TheVariants.{Objects}
use Rattle.pmb_args.specs.declared.stats_fault.StatsFault.TheVariants.{BadFailOn}
use Rattle.pmb_args.proofs.AskedOnce.{stats_nothing}
use Rattle.pmb_args.proofs.AskedWords.{IsNoFlag, no_device, no_flag}
use Rattle.pmb_args.proofs.GivenWords.{choice_given, nothing_given, rows_given, stats_fail_on}

-- objects, with as many digits as `json` has
pub asks_objects : (name : Text) → AskFor (name ∷ codes "stats" ∷ codes "--json" ∷ [])
    (UnderProfile Front (Stats (record (table_of (at_first json)) { form = Objects })))
unfolding clap_on_literals
asks_objects name = record {
  no_fault = refl;
  asks = (
    _,
    refl,
    refl,
    record {
      form = refl;
      facts = record { start = refl; after_bad_token = refl; digits = refl; devices = no_device };
      fail_on = refl;
    },
  );
}

-- ---- `--fail-on WHAT`

word_is_no_flag : (fail : Fail) (rest : Text) → IsNoFlag (fail_word fail ++ rest)
word_is_no_flag Refusals rest = λ hyphen. omega (arith, hyphen)
word_is_no_flag BadTokens rest = λ hyphen. omega (arith, hyphen)
word_is_no_flag Nacks rest = λ hyphen. omega (arith, hyphen)
word_is_no_flag Alerts rest = λ hyphen. omega (arith, hyphen)
word_is_no_flag Faults rest = λ hyphen. omega (arith, hyphen)
word_is_no_flag NoneRead rest = λ hyphen. omega (arith, hyphen)

spelled_is_no_flag : (named : List Fail) → IsNoFlag (spelled named)
spelled_is_no_flag [] = tt
spelled_is_no_flag (fail ∷ []) = subst IsNoFlag (append-nil (fail_word fail)) (word_is_no_flag fail [])
spelled_is_no_flag (fail ∷ next ∷ more) = word_is_no_flag fail (byte "," ∷ spelled (next ∷ more))

fails_are_no_flag : (WHAT : Text) (fails : List Fail) → SpellsFails WHAT fails → IsNoFlag WHAT
fails_are_no_flag WHAT fails spells = subst IsNoFlag (sym spells.spell) (spelled_is_no_flag spells.named)

fails_ask : (WHAT : Text) (fails : List Fail) → SpellsFails WHAT fails
    → StatsAsk (rows_given stats_fail_on WHAT) (record (table_of (at_first stats)) { fail_on = Some fails })
unfolding clap_on_literals
fails_ask WHAT fails spells = record {
  form = refl;
  facts = record { start = refl; after_bad_token = refl; digits = refl; devices = no_device };
  fail_on = spells;
}

pub asks_fail_on : (name WHAT : Text) (fails : List Fail) → SpellsFails WHAT fails
    → AskFor (name ∷ codes "stats" ∷ codes "--fail-on" ∷ WHAT ∷ [])
    (UnderProfile Front (Stats (record (table_of (at_first stats)) { fail_on = Some fails })))
asks_fail_on name WHAT fails spells = choice_given stats_fail_on name WHAT _ refl (fails_are_no_flag WHAT fails spells)
    (fails_ask WHAT fails spells)

-- another WHAT is wrong
fails_wrong : (WHAT : Text) → ((fails : List Fail) → ¬ (SpellsFails WHAT fails))
    → AreWrongStats (rows_given stats_fail_on WHAT) BadFailOn
unfolding clap_on_literals
fails_wrong WHAT none = none

pub bad_fail_on_asks_nothing : (name WHAT : Text) → (IsFlag WHAT → ⊥)
    → ((fails : List Fail) → ¬ (SpellsFails WHAT fails))
    → AskForNothing (name ∷ codes "stats" ∷ codes "--fail-on" ∷ WHAT ∷ [])
bad_fail_on_asks_nothing name WHAT no_hyphen none = nothing_given stats_fail_on name WHAT (no_flag WHAT no_hyphen)
    (λ is. stats_nothing _ _ BadFailOn is (fails_wrong WHAT none))
