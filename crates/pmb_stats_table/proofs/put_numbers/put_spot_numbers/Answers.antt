use Rattle.std.proofs.Common.{◌≡◌, List, None, Some, sym, ap, ◌∙◌}
use Rattle.pmb_command.specs.Parts.{DeviceParts, device_with}
use Rattle.pmb_json_objects.specs.Seen.{command_of}
use Rattle.pmb_keys.specs.CommandView.{command_parts}
use Rattle.pmb_observed.specs.Observed.{numbers_at}
use Rattle.pmb_observed.specs.Observing.{observations}
use Rattle.pmb_stats_table.specs.Rows.{number_heading, number_row}
use Rattle.pmb_stats_table.proofs.Headed.{if_ok, puts_lines_of, puts_none}
use Rattle.pmb_stats_table.proofs.Spots.{no_numbers, command_told, command_is_there}
use Rattle.pmb_stats_table.proofs.put_numbers.put_spot_numbers.Goals as goal

-- no numbers
pub returns-in_default-clause-lines : goal.returns-in_default-clause-lines
returns-in_default-clause-lines g c = λ setting facts stands.
    puts_lines_of (number_heading c.args.widths) (number_row c.args.widths c.args.digits)
    (sym (no_numbers setting.profile (observations setting facts) c.args.spot
    (c.in_default.ensures setting facts stands)))
    (puts_none (number_heading c.args.widths) (number_row c.args.widths c.args.digits) c.args.place
    (g.W.Sink.told c.args.writer.now).held c.args.waiting.now.items)

-- what has numbers is a command of the device
pub returns-in_default-command_at-clause-lines : goal.returns-in_default-command_at-clause-lines
returns-in_default-command_at-clause-lines g c = λ setting facts stands.
    let spot = c.args.spot in
    let absent : None ≡ command_of (device_with spot.addr setting.profile) spot.code = c.in_default-command_at.ensures
    ∙ ap (λ (profile : List DeviceParts). command_of (device_with spot.addr profile) spot.code)
    (c.profile.ensures setting facts stands) in
    puts_lines_of (number_heading c.args.widths) (number_row c.args.widths c.args.digits)
    (command_is_there setting.profile (observations setting facts) spot (c.in-Some.ensures setting facts stands).0
    absent)
    (puts_none (number_heading c.args.widths) (number_row c.args.widths c.args.digits) c.args.place
    (g.W.Sink.told c.args.writer.now).held c.args.waiting.now.items)

-- its numbers
pub returns-clause-lines : goal.returns-clause-lines
returns-clause-lines g c = λ setting facts stands.
    let spot = c.args.spot in
    let told = observations setting facts in
    let numbers = c.in-Some.ensures setting facts stands in
    let command = command_parts c.in-Some-command_at.command.now in
    let is : Some command ≡ command_of (device_with spot.addr setting.profile) spot.code = c.in-Some-command_at.ensures
    ∙ ap (λ (profile : List DeviceParts). command_of (device_with spot.addr profile) spot.code)
    (c.profile.ensures setting facts stands) in
    if_ok c.put_command.result (λ next lines.
    puts_lines_of (number_heading c.args.widths) (number_row c.args.widths c.args.digits)
    (command_told setting.profile told spot command numbers.0 is) lines)
    (c.put_command.ensures.lines (numbers_at spot told) numbers.1)
