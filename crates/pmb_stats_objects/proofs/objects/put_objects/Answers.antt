use Rattle.std.proofs.Common.{sym}
use Rattle.std.specs.List.{range_with_len}
use Rattle.pmb_json_text.specs.Member.{object_line}
use Rattle.pmb_stats_objects.specs.machine.Standing.{device_lines}
use Rattle.pmb_stats_objects.specs.Objects.{end_object}
use Rattle.pmb_stats_objects.proofs.ObjectLines.{all_lines}
use Rattle.pmb_stats_objects.proofs.Putting.{appended, no_ok, puts_as}
use Rattle.pmb_stats_objects.proofs.objects.put_objects.Goals as goal

pub returns-in_err-put_devices-clause-puts : goal.returns-in_err-put_devices-clause-puts
returns-in_err-put_devices-clause-puts g c = λ setting facts stands.
    no_ok _ c.from_residual.result c.from_residual.ensures.0

pub returns-in_err-make_room-clause-puts : goal.returns-in_err-make_room-clause-puts
returns-in_err-make_room-clause-puts g c = λ setting facts stands.
    no_ok _ c.from_residual-in_err-make_room.result c.from_residual-in_err-make_room.ensures.0

pub returns-clause-puts : goal.returns-clause-puts
returns-clause-puts g c = λ setting facts stands.
    let add = c.texts_add_up.ensures.both in
    let whole = appended add c.texts_add_up.ensures.waits (object_line (end_object facts).members)
    c.in_ok-make_room.ensures.ok (c.append_whole.ensures.line setting facts stands) in
    puts_as (sym (all_lines c.args.devices.now c.args.digits setting facts (range_with_len 0 128)))
    (add _ _ _ _ _ _ (device_lines c.args.digits setting facts c.args.devices.now (range_with_len 0 128))
    (object_line (end_object facts).members) (c.in_ok-put_devices.ensures.puts setting facts stands) whole)
