-- What the kind says is all, or the text is.
use Rattle.std.proofs.Common.{arith, refl}
use Rattle.pmb_voltage.specs.Voltage.{voltages_data}
use Rattle.pmb_command.specs.declared.entry.Kind.TheVariants.{Number, Vout, VoutSigned, Status}
use Rattle.pmb_keys.specs.CommandView.{command_parts}
use Rattle.pmb_json_fields.proofs.Pieces.{at_most, called}
use Rattle.pmb_json_fields.proofs.Texts.{all_by_kind, all_by_text}
use Rattle.pmb_json_fields.proofs.data.append_data.Goals as goal

pub returns-in-Raw : goal.returns-in-Raw
returns-in-Raw g c =
    called (all_by_text c.args.digits c.args.access (voltages_data c.args.voltages.now) c.args.basis
    (command_parts c.args.command.now) c.args.bytes.now c.in-Raw.is)
    (at_most 3142 (omega arith) c.append_data_text.ensures)

pub returns-in-Number : goal.returns-in-Number
returns-in-Number g c =
    called (all_by_kind c.args.digits c.args.access (voltages_data c.args.voltages.now) c.args.basis
    (command_parts c.args.command.now) (Number c.in-Number.format) c.args.bytes.now c.in-Number.is refl)
    (at_most 3142 (omega arith) c.append_number.ensures)

pub returns-in-Vout : goal.returns-in-Vout
returns-in-Vout g c =
    called (all_by_kind c.args.digits c.args.access (voltages_data c.args.voltages.now) c.args.basis
    (command_parts c.args.command.now) Vout c.args.bytes.now c.in-Vout.is refl)
    (at_most 3142 (omega arith) c.append_voltage.ensures)

pub returns-in-VoutSigned : goal.returns-in-VoutSigned
returns-in-VoutSigned g c =
    called (all_by_kind c.args.digits c.args.access (voltages_data c.args.voltages.now) c.args.basis
    (command_parts c.args.command.now) VoutSigned c.args.bytes.now c.in-VoutSigned.is refl)
    (at_most 3142 (omega arith) c.append_voltage-in-VoutSigned.ensures)

pub returns-in-Status : goal.returns-in-Status
returns-in-Status g c =
    called (all_by_kind c.args.digits c.args.access (voltages_data c.args.voltages.now) c.args.basis
    (command_parts c.args.command.now) Status c.args.bytes.now c.in-Status.is refl)
    c.append_status.ensures
