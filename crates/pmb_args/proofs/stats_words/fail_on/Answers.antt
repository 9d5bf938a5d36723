use Rattle.std.proofs.Common.{◌∙◌, Option, Some, None, ap, codes, option_map, refl, subst, sym}
use Rattle.clap.specs.Words.{Text, found_of}
use Rattle.clap.proofs.WalkLemmas.{first_value-rows}
use Rattle.pmb_args.specs.Fails.{ChoosesFails, SpellsNoFails}
use Rattle.pmb_args.proofs.stats_words.fail_on.Goals as goal

-- WHAT is there, and spells a list,
pub returns-in-Some-read_fails : goal.returns-in-Some-read_fails
returns-in-Some-read_fails c =
    let found = c.get_str.ensures ∙ first_value-rows (found_of c.args.arguments.now) (codes "fail-on") in
    let some = sym (ap (option_map (λ s. s.now)) c.in-Some.is) ∙ found in
    subst (λ (WHAT : Option Text). ChoosesFails WHAT (Some c.in-Some-read_fails.fails)) some
    c.in-Some-read_fails.ensures

-- or none
pub returns-in-None-read_fails : goal.returns-in-None-read_fails
returns-in-None-read_fails c =
    let found = c.get_str.ensures ∙ first_value-rows (found_of c.args.arguments.now) (codes "fail-on") in
    let some = sym (ap (option_map (λ s. s.now)) c.in-Some.is) ∙ found in
    (refl, subst SpellsNoFails some c.in-None-read_fails.ensures)

-- or it is not there
pub returns-in-None : goal.returns-in-None
returns-in-None c =
    let found = c.get_str.ensures ∙ first_value-rows (found_of c.args.arguments.now) (codes "fail-on") in
    let none = sym (ap (option_map (λ s. s.now)) c.in-None.is) ∙ found in
    subst (λ (WHAT : Option Text). ChoosesFails WHAT None) none refl
