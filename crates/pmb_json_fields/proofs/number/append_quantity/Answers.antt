use Rattle.pmb_json_fields.proofs.Pieces.{then}
use Rattle.pmb_json_fields.proofs.number.append_quantity.Goals as goal

pub returns : goal.returns
returns g c = then c.append_exact.ensures c.append_nearest.ensures
