use Rattle.std.proofs.Common.{◌≤◌, List, ap, arith, length, take, ◌∙◌}
use Rattle.std.specs.List.{flat_map}
use Rattle.pmb_command.specs.Parts.{device_with}
use Rattle.pmb_keys.specs.CommandView.{command_parts}
use Rattle.pmb_observed.specs.declared.spot.PhaseKey.{PhaseKey}
use Rattle.pmb_observed.specs.Observing.{observations}
use Rattle.pmb_observed.specs.Spot.{phase_keys}
use Rattle.pmb_observed.specs.Told.{spot_numbers}
use Rattle.pmb_stats_table.specs.Rows.{number_heading, number_row}
use Rattle.pmb_stats_table.proofs.Headed.{puts_both, puts_lines_of, puts_none}
use Rattle.pmb_stats_table.proofs.Phases.{no_command, no_device, phases_are}
use Rattle.pmb_stats_table.proofs.Texts.{all_elements, elements_more}
use Rattle.pmb_stats_table.proofs.put_numbers.put_code_numbers.Goals as goal

-- no device
pub returns-in_default-clause-lines : goal.returns-in_default-clause-lines
returns-in_default-clause-lines g c = λ setting facts stands.
    let numbers = spot_numbers setting.profile (observations setting facts) c.args.addr c.args.page c.args.code in
    let none = c.in_default.ensures.device ∙ ap (device_with c.args.addr) (c.profile.ensures setting facts stands) in
    puts_lines_of (number_heading c.args.widths) (number_row c.args.widths c.args.digits)
    (ap (λ (phases : List PhaseKey). flat_map numbers phases) (no_device setting.profile c.args.addr c.args.code none))
    (puts_none (number_heading c.args.widths) (number_row c.args.widths c.args.digits) c.args.place
    (g.W.Sink.told c.args.writer.now).held c.args.waiting.now.items)

-- no command
pub returns-in_default-command-clause-lines : goal.returns-in_default-command-clause-lines
returns-in_default-command-clause-lines g c = λ setting facts stands.
    let numbers = spot_numbers setting.profile (observations setting facts) c.args.addr c.args.page c.args.code in
    let known = c.in-Some.ensures.device ∙ ap (device_with c.args.addr) (c.profile.ensures setting facts stands) in
    puts_lines_of (number_heading c.args.widths) (number_row c.args.widths c.args.digits)
    (ap (λ (phases : List PhaseKey). flat_map numbers phases)
    (no_command setting.profile c.args.addr c.args.code c.in-Some.device.now known c.in_default-command.ensures))
    (puts_none (number_heading c.args.widths) (number_row c.args.widths c.args.digits) c.args.place
    (g.W.Sink.told c.args.writer.now).held c.args.waiting.now.items)

-- the numbers of one phase more
pub loop-index-preserved : goal.loop-index-preserved
loop-index-preserved g c = record {
  lines = λ setting facts stands.
      let heading = number_heading c.args.widths in
      let row = number_row c.args.widths c.args.digits in
      let index = c.loop-index.index in
      let phase = c.phase_at-phase.result in
      let phases = phase_keys c.phases_of-phases.result in
      let numbers = spot_numbers setting.profile (observations setting facts) c.args.addr c.args.page c.args.code in
      puts_lines_of heading row (elements_more numbers phases index phase c.phase_at-phase.ensures)
      (puts_both heading row (flat_map numbers (take index phases)) (numbers phase)
      (c.loop-index.invariant.lines setting facts stands) (c.in_ok-place.ensures.lines setting facts stands));
  failures = c.in_ok-place.ensures.failed ∙ c.loop-index.invariant.failures;
}

pub returns-clause-lines : goal.returns-clause-lines
returns-clause-lines g c = λ setting facts stands.
    let numbers = spot_numbers setting.profile (observations setting facts) c.args.addr c.args.page c.args.code in
    let phases = phase_keys c.phases_of-phases.result in
    let known = c.in-Some.ensures.device ∙ ap (device_with c.args.addr) (c.profile.ensures setting facts stands) in
    let past : length phases ≤ c.loop-index.index =
    omega (arith, c.loop-index-test.false, c.phase_count-index-end.ensures.count) in
    puts_lines_of (number_heading c.args.widths) (number_row c.args.widths c.args.digits)
    (all_elements numbers phases c.loop-index.index past
    ∙ ap (λ (these : List PhaseKey). flat_map numbers these)
    (phases_are setting.profile c.args.addr c.args.code c.in-Some.device.now
    (command_parts c.in-Some-command.command.now) c.phases_of-phases.result known c.in-Some-command.ensures
    c.phases_of-phases.ensures)) (c.loop-index.invariant.lines setting facts stands)
