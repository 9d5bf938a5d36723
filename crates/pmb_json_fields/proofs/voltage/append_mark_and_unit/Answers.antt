use Rattle.pmb_json_fields.proofs.Pieces.{then_some}
use Rattle.pmb_json_fields.proofs.voltage.append_mark_and_unit.Goals as goal

pub returns : goal.returns
returns g c = then_some c.append_basis.ensures c.append_voltage_unit.ensures
