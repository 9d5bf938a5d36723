use Rattle.pmb_decimal.proofs.Numbers.{rounded_is_number}
use Rattle.pmb_json_fields.proofs.number.nearest_is_number.Goals as goal

pub returns : goal.returns
returns c = rounded_is_number c.args.digits c.args.quantity.now c.num.ensures.holds
