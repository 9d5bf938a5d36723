use Rattle.std.proofs.Common.{SFits, rules}
use Rattle.std.specs.Int.{w64}
use Rattle.std.proofs.lemmas.Int.{to_z-of_z}
use Rattle.pmb_quantity.proofs.Quotient.{quotient-value, quotient-none, quotient-in_range}
use Rattle.pmb_quantity.proofs.quantity.Quantity.new.Goals as goal

pub returns : goal.returns
returns c =
    let n = c.args.numerator in
    let d = c.args.denominator in
    let n_fits : SFits w64 n = search rules in
    let d_fits : SFits w64 d = search rules in
    let is = simp to_z-of_z at c.divided.ensures in
    record {
      value = is;
      same_value = quotient-value n d c.divided.result is;
      too_large = quotient-none n d c.divided.result is;
      in_range = quotient-in_range n d c.divided.result is;
    }
