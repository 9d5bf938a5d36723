-- The head, the device, the command, what was sent and replied, and what that says.
use Rattle.pmb_json_objects.proofs.Lists.{ended, joined, joined_to_begun, of_seen_device}
use Rattle.pmb_json_objects.proofs.packet.call_line.Goals as goal

pub returns-clause-line : goal.returns-clause-line
returns-clause-line g c = λ known sees.
    let old = c.args.out.now.items in
    let device = of_seen_device _ c.args.addr sees.profile c.append_device.ensures.members in
    let to = joined_to_begun old _ _ _ c.begin_object.ensures.begun device in
    let command = joined_to_begun old _ _ _ to (c.append_command.ensures.members known sees) in
    let said = joined c.hex_member-2.new.out.items _ _ c.bool_member.ensures.member
    (c.append_call.ensures.members known sees) in
    let replied = joined c.hex_member.new.out.items _ _ c.hex_member-2.ensures.member said in
    let sent = joined c.append_command.new.out.items _ _ c.hex_member.ensures.member replied in
    ended old _ (joined_to_begun old _ _ _ command sent) c.end.ensures.ended
