use Rattle.std.proofs.Common.{ℕ, ap, arith, take, drop, ◌∙◌}
use Rattle.pmb_sample_fields.proofs.DigitLemmas.{digits_dropped, digits_fit, digits_taken}
use Rattle.pmb_sample_fields.proofs.numbers.split_digits.Goals as goal

pub split_at-requires : goal.split_at-requires
split_at-requires c = omega (arith, digits_fit c.args.text.now)

pub returns-clause-front : goal.returns-clause-front
returns-clause-front c =
    c.split_at.ensures.front ∙ ap (λ (n : ℕ). take n c.args.text.now) c.count_digits.ensures
    ∙ digits_taken c.args.text.now

pub returns-clause-rest : goal.returns-clause-rest
returns-clause-rest c =
    c.split_at.ensures.back ∙ ap (λ (n : ℕ). drop n c.args.text.now) c.count_digits.ensures
    ∙ digits_dropped c.args.text.now
