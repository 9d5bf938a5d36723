-- The head, and the device.
use Rattle.pmb_json_objects.proofs.Lists.{ended, joined_to_begun}
use Rattle.pmb_json_objects.proofs.packet.other_line.Goals as goal

pub returns-clause-line : goal.returns-clause-line
returns-clause-line g c =
    let old = c.args.out.now.items in
    ended old _ (joined_to_begun old _ _ _ c.begin_object.ensures.begun c.append_byte.ensures.member)
    c.end.ensures.ended
