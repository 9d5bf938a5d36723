-- The head, and seven lists of members.
use Rattle.std.proofs.Common.{[], ◌∷◌, ◌++◌, codes, ap, ◌∙◌}
use Rattle.pmb_json_text.specs.declared.item_order.ItemOrder.TheVariants.{Later}
use Rattle.pmb_json_text.specs.Json.{string}
use Rattle.pmb_json_text.specs.Member.{members_text, named}
use Rattle.pmb_partial_packet.specs.PartialPacket.{said_device}
use Rattle.pmb_json_objects.specs.Refusals.{right_pec_members, said_device_members}
use Rattle.pmb_json_objects.proofs.Lists.{ended, joined, joined_to_begun}
use Rattle.pmb_json_objects.proofs.refusal.refusal_line.Goals as goal

pub returns-clause-line : goal.returns-clause-line
returns-clause-line g c = λ known profile front sees viable stands.
    let reason = c.text_member.ensures.member
    ∙ ap (λ t. c.begin_object.new.out.items ++ members_text Later (named (codes "reason") (string t) ∷ []))
    c.name.ensures.name in
    let device = c.append_said_device.ensures.members
    ∙ ap (λ d. c.append_got.new.out.items ++ members_text Later (said_device_members c.args.seen.now.profile.now d))
    (c.device.ensures front stands)
    ∙ ap (λ profile. c.append_got.new.out.items ++ members_text Later
    (said_device_members profile (said_device front))) sees.profile in
    let right = c.append_right_pec.ensures.members
    ∙ ap (λ r. c.append_reply.new.out.items ++ members_text Later (right_pec_members r))
    (c.right_pec.ensures front stands) in
    let written = c.append_written.ensures.members known profile front sees viable stands in
    let reply = c.append_reply.ensures.members profile front viable stands in
    let old = c.args.out.now.items in
    let why = joined c.begin_object.new.out.items _ _ reason
    (joined c.text_member.new.out.items _ _ c.append_kinds.ensures.member
    (joined c.append_kinds.new.out.items _ _ c.append_got.ensures.member device)) in
    let said = joined_to_begun old _ _ _ (joined_to_begun old _ _ _ c.begin_object.ensures.begun why) written in
    let all = joined_to_begun old _ _ _ (joined_to_begun old _ _ _ said reply) right in
    ended old _ all c.end.ensures.ended
