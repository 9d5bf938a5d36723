use Rattle.std.proofs.Common.{◌-◌, ◌*◌, ◌^◌, ◌≤◌, pos, sym, arith}
use Rattle.std.specs.Int.{w64}
use Rattle.std.proofs.lemmas.Int.{to_z_pos}
use Rattle.pmb_quantity.proofs.Decimals.{decimal_coprime, decimal_lowest, decimal_numerator, decimal_denominator}
use Rattle.pmb_quantity.proofs.FractionLemmas.{lowest_of_gcd}
use Rattle.pmb_quantity.proofs.Tens.{parts_positive, shifted_fives}
use Rattle.pmb_quantity.proofs.TextLemmas.{ten_at_most}
use Rattle.pmb_quantity.proofs.quantity.Quantity.from_decimal.Goals as goal

pub invariant_of-result : goal.invariant_of-result
invariant_of-result c =
    let n = c.args.number in
    let p = c.args.places in
    let t = c.common_halvings-twos.result in
    let rest = c.without_fives-numerator.result.0 in
    let l = c.without_fives-numerator.result.1 in
    let few_twos = c.common_halvings-twos.ensures.few in
    let few_fives = c.without_fives-numerator.ensures.fewer in
    let twos = c.common_halvings-twos.ensures.value in
    let fives = c.without_fives-numerator.ensures.value in
    let none = c.without_fives-numerator.ensures.lowest in
    let small : rest ≤ n = decimal_numerator n p t rest l few_twos few_fives twos fives none in
    let ten : 5 ^ l * 2 ^ (p - t) ≤ 10 ^ p = decimal_denominator n p t rest l few_twos few_fives twos fives none in
    rw (to_z_pos w64 rest (omega arith), c.power_of_five.ensures, shifted_fives l (p - t) (omega arith) (omega arith))
    (record {
      numerator_fits = omega arith;
      denominator_fits = omega (arith, ten, ten_at_most p 18 c.requires.few);
      positive = parts_positive l (p - t);
      lowest = lowest_of_gcd (record { numerator = pos rest; denominator = 5 ^ l * 2 ^ (p - t) })
          (decimal_coprime n p t rest l few_twos few_fives twos fives none);
    })

pub returns : goal.returns
returns c =
    let n = c.args.number in
    let p = c.args.places in
    let t = c.common_halvings-twos.result in
    let rest = c.without_fives-numerator.result.0 in
    let l = c.without_fives-numerator.result.1 in
    let few_twos = c.common_halvings-twos.ensures.few in
    let few_fives = c.without_fives-numerator.ensures.fewer in
    let twos = c.common_halvings-twos.ensures.value in
    let fives = c.without_fives-numerator.ensures.value in
    let none = c.without_fives-numerator.ensures.lowest in
    let small : rest ≤ n = decimal_numerator n p t rest l few_twos few_fives twos fives none in
    rw (to_z_pos w64 rest (omega arith), c.power_of_five.ensures, shifted_fives l (p - t) (omega arith) (omega arith))
    (sym (decimal_lowest n p t rest l few_twos few_fives twos fives none))

pub overflow_cast-result : goal.overflow_cast-result
overflow_cast-result c =
    let n = c.args.number in
    let p = c.args.places in
    let few_twos = c.common_halvings-twos.ensures.few in
    let few_fives = c.without_fives-numerator.ensures.fewer in
    let twos = c.common_halvings-twos.ensures.value in
    let fives = c.without_fives-numerator.ensures.value in
    let none = c.without_fives-numerator.ensures.lowest in
    omega (
      arith,
      decimal_numerator n p c.common_halvings-twos.result c.without_fives-numerator.result.0
          c.without_fives-numerator.result.1 few_twos few_fives twos fives none,
    )
