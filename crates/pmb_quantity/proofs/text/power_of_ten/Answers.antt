use Rattle.std.proofs.Common.{arith}
use Rattle.pmb_quantity.proofs.TextLemmas.{ten_small, ten_positive}
use Rattle.pmb_quantity.proofs.text.power_of_ten.Goals as goal

pub pow-requires : goal.pow-requires
pow-requires c = omega (arith, ten_small c.args.places c.requires)

pub returns : goal.returns
returns c =
    let small = ten_small c.args.places c.requires in
    let positive = ten_positive c.args.places in
    record { value = c.pow.ensures; small = omega (arith, c.pow.ensures); positive = omega (arith, c.pow.ensures) }
