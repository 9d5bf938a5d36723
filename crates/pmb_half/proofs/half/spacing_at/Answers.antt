use Rattle.std.proofs.Common.{◌*◌, ◌-◌, ◌^◌, ◌≤◌, arith}
use Rattle.std.proofs.lemmas.Nat.{mul-le}
use Rattle.std.proofs.Math.Nat.{mod-le, pow-le-pow_right}
use Rattle.pmb_half.proofs.half.spacing_at.Goals as goal

pub returns-clause-small : goal.returns-clause-small
returns-clause-small c =
    let power : 2 ^ c.args.power ≤ 2 ^ 29 = pow-le-pow_right {n = 2} (omega arith) c.requires.power_is_small in
    let product = mul-le c.args.denominator (2 ^ c.args.power) (2 ^ 62 - 1) (2 ^ 29)
    (omega (arith, c.requires.denominator_is_small)) power in
    omega (arith, product, mod-le (c.args.denominator * 2 ^ c.args.power) (2 ^ 128))
