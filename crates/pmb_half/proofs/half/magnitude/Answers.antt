use Rattle.std.proofs.Common.{◌*◌, ◌-◌, ◌^◌, ◌≤◌, arith}
use Rattle.std.proofs.lemmas.Nat.{mul-le}
use Rattle.std.proofs.Math.Nat.{mod-le, pow-le-pow_right}
use Rattle.pmb_half.proofs.half.magnitude.Goals as goal

pub returns-in_default-clause-small : goal.returns-in_default-clause-small
returns-in_default-clause-small c =
    let field : c.exponent_field.result - 1 ≤ 30 = omega (arith, c.exponent_field.ensures.small) in
    let power : 2 ^ (c.exponent_field.result - 1) ≤ 2 ^ 30 =
    pow-le-pow_right {n = 2} (omega arith) field in
    let count : c.from-in_default.result ≤ 2047 =
    omega (arith, c.from-in_default.ensures, c.fraction-in_default.ensures.small) in
    let product = mul-le c.from-in_default.result (2 ^ (c.exponent_field.result - 1)) 2047 (2 ^ 30) count power in
    omega (arith, product, mod-le (c.from-in_default.result * 2 ^ (c.exponent_field.result - 1)) (2 ^ 64))
