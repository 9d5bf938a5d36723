-- The matches of `stats` choose one thing, or have a fault and choose nothing: for `read_stats`, `work_of` and the
-- law `one_asking`.
use Rattle.std.proofs.Common.{◌≡◌, Option, Some, None, List, sym, ap, ◌∙◌, subst}
use Rattle.clap.specs.Words.{Row, Text}
use Rattle.pmb_stats_counts.specs.declared.fail.Fail.{Fail}
use Rattle.pmb_args.specs.Facts.{FactsAsk, FactsWanted}
use Rattle.pmb_args.specs.Fails.{ChoosesFails, SpellsNoFails}
use Rattle.pmb_args.specs.Faults.{AreWrongStats}
use Rattle.pmb_args.specs.Stats.{StatsAsk, StatsWanted, digits_in_form, fail_on_in}
use Rattle.pmb_args.specs.declared.stats_arguments.StatsForm.{StatsForm}
use Rattle.pmb_args.specs.declared.stats_fault.StatsFault.{StatsFault}
use Rattle.pmb_args.specs.declared.stats_fault.StatsFault.TheVariants.{Facts, BadFailOn}
use Rattle.pmb_args.proofs.FactsOnce.{one_wanted, wrong_asks_nothing}
use Rattle.pmb_args.proofs.FailWords.{one_list_of_fails}

-- WHAT chooses one list, or none is chosen
one_choice_of_fails : (WHAT : Option Text) (a b : Option (List Fail)) → ChoosesFails WHAT a → ChoosesFails WHAT b
    → a ≡ b
one_choice_of_fails None a b left right = left ∙ sym right
one_choice_of_fails (Some WHAT) None b left right = absurd left
one_choice_of_fails (Some WHAT) (Some a) None left right = absurd right
one_choice_of_fails (Some WHAT) (Some a) (Some b) left right =
    ap (λ (fails : List Fail). Some fails) (one_list_of_fails WHAT a b left right)

-- a WHAT that spells no list chooses none
no_fails_chosen : (WHAT : Option Text) (fails : Option (List Fail)) → SpellsNoFails WHAT → ¬ (ChoosesFails WHAT fails)
no_fails_chosen None fails none chosen = none
no_fails_chosen (Some WHAT) None none chosen = chosen
no_fails_chosen (Some WHAT) (Some fails) none chosen = none fails chosen

abbrev made : FactsWanted → StatsForm → Option (List Fail) → StatsWanted
made facts form fail_on = record { facts = facts; form = form; fail_on = fail_on }

-- One thing is wanted.
pub one_stats : (rows : List Row) (a b : StatsWanted) → StatsAsk rows a → StatsAsk rows b → a ≡ b
one_stats rows a b left right =
    let same : a.form ≡ b.form = left.form ∙ sym right.form in
    let facts = subst (λ (form : StatsForm). FactsAsk (digits_in_form form) rows a.facts) same left.facts in
    ap (λ (form : StatsForm). made a.facts form a.fail_on) same
    ∙ ap (λ (wanted : FactsWanted). made wanted b.form a.fail_on)
    (one_wanted (digits_in_form b.form) rows a.facts b.facts facts right.facts)
    ∙ ap (made b.facts b.form)
    (one_choice_of_fails (fail_on_in rows) a.fail_on b.fail_on left.fail_on right.fail_on)

-- Where something is wrong, nothing is.
pub wrong_asks_no_stats : (rows : List Row) (fault : StatsFault) → AreWrongStats rows fault → (wanted : StatsWanted)
    → ¬ (StatsAsk rows wanted)
wrong_asks_no_stats rows (Facts fault) wrong wanted asks =
    wrong_asks_nothing (digits_in_form wanted.form) rows fault wrong wanted.facts asks.facts
wrong_asks_no_stats rows BadFailOn wrong wanted asks =
    no_fails_chosen (fail_on_in rows) wanted.fail_on wrong asks.fail_on
