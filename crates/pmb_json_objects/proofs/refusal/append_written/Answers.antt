-- The command and the bytes, or nothing.
use Rattle.std.proofs.Common.{Some, ◌++◌, ap, ◌∙◌}
use Rattle.pmb_json_text.specs.declared.item_order.ItemOrder.TheVariants.{Later}
use Rattle.pmb_json_text.specs.Member.{members_text}
use Rattle.pmb_partial_packet.specs.PartialPacket.{sent}
use Rattle.pmb_json_objects.specs.Refusals.{written_members}
use Rattle.pmb_json_objects.proofs.Lists.{joined, nothing}
use Rattle.pmb_json_objects.proofs.refusal.append_written.Goals as goal

pub returns-in_default-clause-members : goal.returns-in_default-clause-members
returns-in_default-clause-members g c = λ known profile front sees viable stands.
    nothing c.args.out.now.items
    ∙ ap (λ addr. c.args.out.now.items ++ members_text Later (written_members known addr (sent front)))
    (c.in_default.ensures front stands)

pub returns-in_default-sent-clause-members : goal.returns-in_default-sent-clause-members
returns-in_default-sent-clause-members g c = λ known profile front sees viable stands.
    nothing c.args.out.now.items
    ∙ ap (λ bytes. c.args.out.now.items ++ members_text Later (written_members known (Some c.in-Some.addr) bytes))
    (c.in_default-sent.ensures.bytes profile front viable stands)
    ∙ ap (λ addr. c.args.out.now.items ++ members_text Later (written_members known addr (sent front)))
    (c.in-Some.ensures front stands)

pub returns-clause-members : goal.returns-clause-members
returns-clause-members g c = λ known profile front sees viable stands.
    joined c.args.out.now.items _ _ (c.append_sent_command.ensures.members known sees) c.hex_member.ensures.member
    ∙ ap (λ bytes. c.args.out.now.items ++ members_text Later (written_members known (Some c.in-Some.addr) bytes))
    (c.in-Some-sent.ensures.bytes profile front viable stands)
    ∙ ap (λ addr. c.args.out.now.items ++ members_text Later (written_members known addr (sent front)))
    (c.in-Some.ensures front stands)
