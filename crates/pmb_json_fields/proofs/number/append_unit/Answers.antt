-- Numbers without a unit have no member.
use Rattle.std.proofs.Common.{ap}
use Rattle.pmb_json_fields.specs.Value.{unit_members}
use Rattle.pmb_json_fields.proofs.Pieces.{called, nothing}
use Rattle.pmb_json_fields.proofs.number.append_unit.Goals as goal

pub returns-in-None : goal.returns-in-None
returns-in-None g c = called (ap unit_members c.in-None.ensures.unit) (nothing 118 c.args.out.now.items)
