-- A value, and then its mark.
use Rattle.std.proofs.Common.{Result, ◌∙◌, ap, sym}
use Rattle.pmb_quantity.specs.Fraction.{Fraction}
use Rattle.pmb_value.specs.declared.number_format.WordFault.{WordFault}
use Rattle.pmb_keys.specs.CommandView.{command_parts}
use Rattle.pmb_json_fields.specs.Value.{marked_members}
use Rattle.pmb_json_fields.proofs.Pieces.{called, then_some}
use Rattle.pmb_json_fields.proofs.voltage.append_in_format.Goals as goal

pub returns-in-Ok : goal.returns-in-Ok
returns-in-Ok g c =
    called (ap (λ (value : Result Fraction WordFault). marked_members c.args.digits
    (command_parts c.args.command.now).unit c.args.format.is_ratio c.args.basis value)
    (sym c.in-Ok.is ∙ c.value.ensures))
    (then_some c.append_voltage_value.ensures c.append_mark_and_unit.ensures)
