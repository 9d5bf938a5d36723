-- A factor has no unit.
use Rattle.std.proofs.Common.{Bool, true, ◌≡◌, ap, rules, sym}
use Rattle.pmb_keys.specs.CommandView.{command_parts}
use Rattle.pmb_json_fields.specs.Value.{voltage_unit}
use Rattle.pmb_json_fields.proofs.Pieces.{called, nothing}
use Rattle.pmb_json_fields.proofs.number.append_voltage_unit.Goals as goal

pub returns-else-not-is_ratio : goal.returns-else-not-is_ratio
returns-else-not-is_ratio g c =
    let ratio : c.args.is_ratio ≡ true = search rules in
    called (ap (λ (b : Bool). voltage_unit b (command_parts c.args.command.now).unit) (sym ratio))
    (nothing 118 c.args.out.now.items)
