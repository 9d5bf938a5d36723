use Rattle.std.proofs.Common.{◌≡◌, ◌+◌, min, SFits, unsigned_abs, ap, ◌∙◌, rules, arith}
use Rattle.std.specs.Int.{w128}
use Rattle.std.proofs.lemmas.Int.{ints, to_z-of_z}
use Rattle.pmb_format.specs.Coding.{scaled}
use Rattle.pmb_format.proofs.StepLemmas.{one_more}
use Rattle.pmb_half.specs.Half.{half}
use Rattle.pmb_half.proofs.HalfNearest.{greatest_reaches, IsPlaced, count_fits, count_large, has_room, placed_nearest}
use Rattle.pmb_half.proofs.half.nearest.Goals as goal

pub least_power-power-requires-clause-in_range : goal.least_power-power-requires-clause-in_range
least_power-power-requires-clause-in_range c =
    let t_fits : SFits w128 c.scaled-target.result = search rules in
    let size_is : c.unsigned_abs-size.result ≡ unsigned_abs (scaled half c.args.quantity.now) =
    c.unsigned_abs-size.ensures.value
    ∙ ap unsigned_abs (to_z-of_z w128 c.scaled-target.result t_fits ∙ c.scaled-target.ensures.value) in
    let denominator_is : c.from-denominator.result ≡ c.args.quantity.now.denominator =
    omega (arith, ints, c.from-denominator.ensures, c.unsigned_abs.ensures.value, c.den.ensures.value) in
    greatest_reaches c.args.quantity.now c.unsigned_abs-size.result c.from-denominator.result
    c.den.ensures.holds.positive c.requires size_is denominator_is

placed : (c : goal.After-rounded_quotient-count)
    → IsPlaced c.args.quantity.now c.from-denominator.result c.least_power-power.result c.spacing_at.result
    c.unsigned_abs-size.result c.rounded_quotient-count.result
placed c =
    let t_fits : SFits w128 c.scaled-target.result = search rules in
    record {
      positive = c.den.ensures.holds.positive;
      range = c.requires;
      size_is = c.unsigned_abs-size.ensures.value
          ∙ ap unsigned_abs (to_z-of_z w128 c.scaled-target.result t_fits ∙ c.scaled-target.ensures.value);
      denominator_is = omega
          (arith, ints, c.from-denominator.ensures, c.unsigned_abs.ensures.value, c.den.ensures.value);
      power_fits = c.least_power-power.ensures.power;
      reaches = c.least_power-power.ensures.reaches;
      least = c.least_power-power.ensures.least;
      spacing_is = c.spacing_at.ensures.value;
      rounds = c.rounded_quotient-count.ensures.value;
    }

pub overflow_cast-count : goal.overflow_cast-count
overflow_cast-count c =
    let fits = count_fits c.args.quantity.now c.from-denominator.result c.least_power-power.result c.spacing_at.result
    c.unsigned_abs-size.result c.rounded_quotient-count.result (placed c) in
    omega (arith, fits)

pub code_at-requires-clause-count_fits : goal.code_at-requires-clause-count_fits
code_at-requires-clause-count_fits c = count_fits c.args.quantity.now c.from-denominator.result
    c.least_power-power.result c.spacing_at.result c.unsigned_abs-size.result c.rounded_quotient-count.result (placed c)

pub code_at-requires-clause-room : goal.code_at-requires-clause-room
code_at-requires-clause-room c = has_room c.args.quantity.now c.from-denominator.result
    c.least_power-power.result c.spacing_at.result c.unsigned_abs-size.result c.rounded_quotient-count.result (placed c)

pub code_at-requires-clause-large : goal.code_at-requires-clause-large
code_at-requires-clause-large c = count_large c.args.quantity.now c.from-denominator.result
    c.least_power-power.result c.spacing_at.result c.unsigned_abs-size.result c.rounded_quotient-count.result (placed c)

pub returns-clause-nearest : goal.returns-clause-nearest
returns-clause-nearest c =
    let t_fits : SFits w128 c.scaled-target.result = search rules in
    let target_is = to_z-of_z w128 c.scaled-target.result t_fits ∙ c.scaled-target.ensures.value in
    let is : IsPlaced c.args.quantity.now c.from-denominator.result c.least_power-power.result c.spacing_at.result
    c.unsigned_abs-size.result c.rounded_quotient-count.result =
    record {
      positive = c.den.ensures.holds.positive;
      range = c.requires;
      size_is = c.unsigned_abs-size.ensures.value ∙ ap unsigned_abs target_is;
      denominator_is = omega
          (arith, ints, c.from-denominator.ensures, c.unsigned_abs.ensures.value, c.den.ensures.value);
      power_fits = c.least_power-power.ensures.power;
      reaches = c.least_power-power.ensures.reaches;
      least = c.least_power-power.ensures.least;
      spacing_is = c.spacing_at.ensures.value;
      rounds = c.rounded_quotient-count.ensures.value;
    } in
    placed_nearest c.args.quantity.now c.from-denominator.result c.least_power-power.result c.spacing_at.result
    c.unsigned_abs-size.result c.rounded_quotient-count.result is c.with_sign_of.result c.with_sign_of.ensures.written
    (λ at_least. omega (arith, ints, c.with_sign_of.ensures.positive (rw target_is at_least), c.code_at.ensures.value))
    (λ less. omega (arith, ints, c.with_sign_of.ensures.negative (rw target_is less), c.code_at.ensures.value))
    (c.with_sign_of.ensures.parity ∙ c.code_at.ensures.parity)

pub returns-clause-steps : goal.returns-clause-steps
returns-clause-steps c =
    let turns = min (c.least_power-power.result + 1) 29 in
    record {
      steps = turns + 1;
      at_least = omega arith;
      at_most = omega arith;
      count_is = one_more c.args.steps.now turns c.least_power-power.new.steps c.rounded_quotient-count.new.steps
          c.least_power-power.ensures.steps c.rounded_quotient-count.ensures.steps;
    }
