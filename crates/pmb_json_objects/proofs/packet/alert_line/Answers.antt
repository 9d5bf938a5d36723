-- The head, the device, and two members.
use Rattle.pmb_json_objects.proofs.Lists.{ended, joined, joined_to_begun}
use Rattle.pmb_json_objects.proofs.packet.alert_line.Goals as goal

pub returns-clause-line : goal.returns-clause-line
returns-clause-line g c =
    let old = c.args.out.now.items in
    let device = joined_to_begun old _ _ _ c.begin_object.ensures.begun c.append_device.ensures.members in
    let bytes = joined c.append_device.new.out.items _ _ c.append_byte.ensures.member c.bool_member.ensures.member in
    ended old _ (joined_to_begun old _ _ _ device bytes) c.end.ensures.ended
