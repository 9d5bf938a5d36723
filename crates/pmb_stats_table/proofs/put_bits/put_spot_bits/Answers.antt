use Rattle.std.proofs.Common.{◌≡◌, List, None, Some, sym, ap, ◌∙◌, arith}
use Rattle.pmb_command.specs.Parts.{DeviceParts, device_with}
use Rattle.pmb_json_objects.specs.Seen.{command_of}
use Rattle.pmb_keys.specs.CommandView.{command_parts}
use Rattle.pmb_observed.specs.Observed.{reads_at}
use Rattle.pmb_observed.specs.Observing.{observations}
use Rattle.pmb_stats_table.specs.Rows.{bit_heading, bit_row}
use Rattle.pmb_stats_table.proofs.Headed.{if_ok, puts_lines_of, puts_none}
use Rattle.pmb_stats_table.proofs.Spots.{no_bits, register_told, register_is_there}
use Rattle.pmb_stats_table.proofs.put_bits.put_spot_bits.Goals as goal

-- no register
pub returns-in_default-clause-lines : goal.returns-in_default-clause-lines
returns-in_default-clause-lines g c = λ setting facts stands.
    puts_lines_of (bit_heading c.args.widths) (bit_row c.args.widths)
    (sym (no_bits setting.profile (observations setting facts) c.args.spot (c.in_default.ensures setting facts stands)))
    (puts_none (bit_heading c.args.widths) (bit_row c.args.widths) c.args.place (g.W.Sink.told c.args.writer.now).held
    c.args.waiting.now.items)

-- a register is a command of the device
pub returns-in_default-command_at-clause-lines : goal.returns-in_default-command_at-clause-lines
returns-in_default-command_at-clause-lines g c = λ setting facts stands.
    let spot = c.args.spot in
    let absent : None ≡ command_of (device_with spot.addr setting.profile) spot.code = c.in_default-command_at.ensures
    ∙ ap (λ (profile : List DeviceParts). command_of (device_with spot.addr profile) spot.code)
    (c.profile.ensures setting facts stands) in
    puts_lines_of (bit_heading c.args.widths) (bit_row c.args.widths)
    (register_is_there setting.profile (observations setting facts) spot (c.in-Some.ensures setting facts stands).0
    absent)
    (puts_none (bit_heading c.args.widths) (bit_row c.args.widths) c.args.place
    (g.W.Sink.told c.args.writer.now).held c.args.waiting.now.items)

-- the bits of the register
pub returns-clause-lines : goal.returns-clause-lines
returns-clause-lines g c = λ setting facts stands.
    let spot = c.args.spot in
    let told = observations setting facts in
    let register = c.in-Some.ensures setting facts stands in
    let command = command_parts c.in-Some-command_at.command.now in
    let is : Some command ≡ command_of (device_with spot.addr setting.profile) spot.code = c.in-Some-command_at.ensures
    ∙ ap (λ (profile : List DeviceParts). command_of (device_with spot.addr profile) spot.code)
    (c.profile.ensures setting facts stands) in
    if_ok c.put_register.result (λ next lines.
    puts_lines_of (bit_heading c.args.widths) (bit_row c.args.widths)
    (register_told setting.profile told spot command register.0 is) lines)
    (c.put_register.ensures.lines (reads_at spot told) register.1 (omega (arith, register.2)))
