use Rattle.std.proofs.Common.{◌≡◌, ◌+◌, min, SFits, rules, arith}
use Rattle.std.specs.Int.{w128}
use Rattle.std.proofs.lemmas.Int.{ints, to_z-of_z}
use Rattle.pmb_format.proofs.StepLemmas.{one_more}
use Rattle.pmb_linear.proofs.Linear11Nearest.{greatest_reaches, IsPlaced, index_fits, index_large, has_room}
use Rattle.pmb_linear.proofs.Linear11Nearest.{placed_nearest}
use Rattle.pmb_linear.proofs.linear11.nearest.Goals as goal

pub least_power-power-requires-clause-in_range : goal.least_power-power-requires-clause-in_range
least_power-power-requires-clause-in_range c =
    let t_fits : SFits w128 c.scaled-target.result = search rules in
    let denominator_is : c.from-denominator.result ≡ c.args.quantity.now.denominator =
    omega (arith, ints, c.from-denominator.ensures, c.unsigned_abs.ensures.value, c.den.ensures.value) in
    rw (to_z-of_z w128 c.scaled-target.result t_fits)
    (greatest_reaches c.args.quantity.now c.scaled-target.result c.from-denominator.result c.den.ensures.holds.positive
    c.requires c.scaled-target.ensures.value denominator_is)

placed : (c : goal.After-rounded_quotient-index)
    → IsPlaced c.args.quantity.now c.scaled-target.result c.from-denominator.result c.least_power-power.result
    c.spacing_at-spacing.result c.from_least.result c.rounded_quotient-index.result
placed c =
    let t_fits : SFits w128 c.scaled-target.result = search rules in
    let denominator_is : c.from-denominator.result ≡ c.args.quantity.now.denominator =
    omega (arith, ints, c.from-denominator.ensures, c.unsigned_abs.ensures.value, c.den.ensures.value) in
    let least = simp to_z-of_z at c.least_power-power.ensures.least in
    let from_least = simp to_z-of_z at c.from_least.ensures.value in
    record {
      positive = c.den.ensures.holds.positive;
      range = c.requires;
      target_is = c.scaled-target.ensures.value;
      denominator_is = denominator_is;
      power_fits = c.least_power-power.ensures.power;
      least = least;
      spacing_is = c.spacing_at-spacing.ensures.value;
      from_least = from_least;
      below = c.from_least.ensures.below;
      rounds = c.rounded_quotient-index.ensures.value;
    }

pub code_at-requires-clause-index_fits : goal.code_at-requires-clause-index_fits
code_at-requires-clause-index_fits c = index_fits c.args.quantity.now c.scaled-target.result c.from-denominator.result
    c.least_power-power.result c.spacing_at-spacing.result c.from_least.result c.rounded_quotient-index.result
    (placed c)

pub overflow_cast-index : goal.overflow_cast-index
overflow_cast-index c = let fits = index_fits c.args.quantity.now c.scaled-target.result c.from-denominator.result
    c.least_power-power.result c.spacing_at-spacing.result c.from_least.result c.rounded_quotient-index.result
    (placed c) in omega (arith, fits)

pub code_at-requires-clause-room : goal.code_at-requires-clause-room
code_at-requires-clause-room c = has_room c.args.quantity.now c.scaled-target.result c.from-denominator.result
    c.least_power-power.result c.spacing_at-spacing.result c.from_least.result c.rounded_quotient-index.result
    (placed c)

pub code_at-requires-clause-large : goal.code_at-requires-clause-large
code_at-requires-clause-large c = index_large c.args.quantity.now c.scaled-target.result c.from-denominator.result
    c.least_power-power.result c.spacing_at-spacing.result c.from_least.result c.rounded_quotient-index.result
    (placed c)

pub returns-clause-nearest : goal.returns-clause-nearest
returns-clause-nearest c =
    let is : IsPlaced c.args.quantity.now c.scaled-target.result c.from-denominator.result c.least_power-power.result
    c.spacing_at-spacing.result c.from_least.result c.rounded_quotient-index.result =
    let t_fits : SFits w128 c.scaled-target.result = search rules in
    let denominator_is : c.from-denominator.result ≡ c.args.quantity.now.denominator =
    omega (arith, ints, c.from-denominator.ensures, c.unsigned_abs.ensures.value, c.den.ensures.value) in
    let least = simp to_z-of_z at c.least_power-power.ensures.least in
    let from_least = simp to_z-of_z at c.from_least.ensures.value in
    record {
      positive = c.den.ensures.holds.positive;
      range = c.requires;
      target_is = c.scaled-target.ensures.value;
      denominator_is = denominator_is;
      power_fits = c.least_power-power.ensures.power;
      least = least;
      spacing_is = c.spacing_at-spacing.ensures.value;
      from_least = from_least;
      below = c.from_least.ensures.below;
      rounds = c.rounded_quotient-index.ensures.value;
    } in
    placed_nearest c.args.quantity.now c.scaled-target.result c.from-denominator.result c.least_power-power.result
    c.spacing_at-spacing.result c.from_least.result c.rounded_quotient-index.result is c.code_at.result
    c.code_at.ensures.written c.code_at.ensures.value c.code_at.ensures.parity

pub returns-clause-steps : goal.returns-clause-steps
returns-clause-steps c =
    let turns = min (c.least_power-power.result + 1) 31 in
    record {
      steps = turns + 1;
      at_least = omega arith;
      at_most = omega arith;
      count_is = one_more c.args.steps.now turns c.least_power-power.new.steps c.rounded_quotient-index.new.steps
          c.least_power-power.ensures.steps c.rounded_quotient-index.ensures.steps;
    }
