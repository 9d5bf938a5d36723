-- The head, which part it is, the device, the command, and what was written.
use Rattle.std.proofs.Common.{[], ◌∷◌, ◌++◌, codes, ap, ◌∙◌}
use Rattle.pmb_json_fields.specs.declared.access.Access.TheVariants.{Write}
use Rattle.pmb_json_text.specs.declared.item_order.ItemOrder.TheVariants.{Later}
use Rattle.pmb_json_text.specs.Member.{digits, members_text, named}
use Rattle.pmb_json_objects.specs.Packets.{said_of}
use Rattle.pmb_json_objects.proofs.Lists.{ended, joined, joined_to_begun, of_seen_device}
use Rattle.pmb_json_objects.proofs.packet.write_line.Goals as goal

pub returns-clause-line : goal.returns-clause-line
returns-clause-line g c = λ known sees.
    let old = c.args.out.now.items in
    let commanded = c.append_command.new.out.items in
    let part = joined_to_begun old _ _ _ c.begin_object.ensures.begun c.append_part.ensures.members in
    let device = of_seen_device _ c.args.written.now.addr sees.profile c.append_device.ensures.members in
    let to = joined_to_begun old _ _ _ part device in
    let command = joined_to_begun old _ _ _ to (c.append_command.ensures.members known sees) in
    let written = c.hex_member.ensures.member
    ∙ ap (λ bs. commanded ++ members_text Later (named (codes "bytes") (digits bs) ∷ []))
    c.as_slice.ensures.value in
    let told = c.append_data.ensures.members known sees
    ∙ ap (λ bs. c.bool_member.new.out.items ++ members_text Later
    (said_of known Write c.args.written.now.addr c.args.written.now.code bs)) c.as_slice-2.ensures.value in
    let said = joined c.hex_member.new.out.items _ _ c.bool_member.ensures.member told in
    ended old _ (joined_to_begun old _ _ _ command (joined commanded _ _ written said)) c.end.ensures.ended
