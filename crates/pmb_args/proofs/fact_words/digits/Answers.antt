use Rattle.std.proofs.Common.{◌≡◌, ◌∙◌, ℕ, Option, Some, MatchOption, ap, codes, option_map, refl, subst, sym}
use Rattle.clap.specs.Words.{Text, found_of}
use Rattle.clap.proofs.WalkLemmas.{first_value-rows}
use Rattle.pmb_args.specs.Facts.{ChoosesDigits, SpellsNone}
use Rattle.pmb_args.proofs.fact_words.digits.Goals as goal

-- N is there.
pub returns-in-Some : goal.returns-in-Some
returns-in-Some c =
    let found = c.get_str.ensures ∙ first_value-rows (found_of c.args.arguments.now) (codes "digits") in
    let some = sym (ap (option_map (λ s. s.now)) c.in-Some.is) ∙ found in
    subst (λ (N : Option Text). MatchOption c.read_digits.result (SpellsNone N) (ChoosesDigits c.args.default_digits N))
    some c.read_digits.ensures

-- or it is not
pub returns-in-None : goal.returns-in-None
returns-in-None c =
    let found = c.get_str.ensures ∙ first_value-rows (found_of c.args.arguments.now) (codes "digits") in
    let none = sym (ap (option_map (λ s. s.now)) c.in-None.is) ∙ found in
    let default : c.new.result ≡ Some c.args.default_digits = c.new.ensures.some c.requires.few in
    subst (λ (N : Option Text). MatchOption c.new.result (SpellsNone N) (ChoosesDigits c.args.default_digits N)) none
    (subst (λ (chosen : Option ℕ). MatchOption chosen ⊥ (λ n. n ≡ c.args.default_digits)) (sym default) refl)
