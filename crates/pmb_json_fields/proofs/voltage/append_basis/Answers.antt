-- A mode that was told has no mark.
use Rattle.std.proofs.Common.{ap, sym}
use Rattle.pmb_json_fields.specs.Value.{basis_members}
use Rattle.pmb_json_fields.proofs.Pieces.{called, nothing}
use Rattle.pmb_json_fields.proofs.voltage.append_basis.Goals as goal

pub returns-in-Told : goal.returns-in-Told
returns-in-Told g c = called (sym (ap basis_members c.in-Told.is)) (nothing 65 c.args.out.now.items)
