-- The head, the device, what was refused, what was sent, and the error code that was due.
use Rattle.std.proofs.Common.{[], ◌∷◌, ◌++◌, codes, ap, ◌∙◌}
use Rattle.pmb_json_text.specs.Json.{string}
use Rattle.pmb_json_text.specs.Member.{members_text, named}
use Rattle.pmb_json_text.specs.declared.item_order.ItemOrder.TheVariants.{Later}
use Rattle.pmb_json_objects.proofs.Lists.{ended, joined, joined_to_begun, of_seen_device}
use Rattle.pmb_json_objects.proofs.refused.refused_line.Goals as goal

pub returns-clause-line : goal.returns-clause-line
returns-clause-line g c = λ known sees.
    let old = c.args.out.now.items in
    let part = joined_to_begun old _ _ _ c.begin_object.ensures.begun c.append_part.ensures.members in
    let device = of_seen_device _ c.args.addr sees.profile c.append_device.ensures.members in
    let to = joined_to_begun old _ _ _ part device in
    let what = c.text_member.ensures.member ∙ ap
    (λ t. c.append_device.new.out.items ++ members_text Later (named (codes "refused") (string t) ∷ []))
    c.refused_name.ensures.name in
    let command = joined c.append_device.new.out.items _ _ what (c.append_sent_command.ensures.members known sees) in
    let sent = joined c.append_sent_command.new.out.items _ _ c.hex_member.ensures.member
    (c.append_check.ensures.members known sees) in
    ended old _ (joined_to_begun old _ _ _ (joined_to_begun old _ _ _ to command) sent) c.end.ensures.ended
