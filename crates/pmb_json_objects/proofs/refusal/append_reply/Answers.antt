-- A member, or none.
use Rattle.std.proofs.Common.{◌++◌, ap, ◌∙◌}
use Rattle.pmb_json_text.specs.declared.item_order.ItemOrder.TheVariants.{Later}
use Rattle.pmb_json_text.specs.Member.{members_text}
use Rattle.pmb_json_objects.specs.Refusals.{reply_members}
use Rattle.pmb_json_objects.proofs.Lists.{nothing}
use Rattle.pmb_json_objects.proofs.refusal.append_reply.Goals as goal

pub returns-in-Some-clause-members : goal.returns-in-Some-clause-members
returns-in-Some-clause-members g c = λ profile front viable stands.
    c.hex_member.ensures.member
    ∙ ap (λ bytes. c.args.out.now.items ++ members_text Later (reply_members bytes))
    (c.in-Some.ensures.bytes profile front viable stands)

pub returns-in_default-clause-members : goal.returns-in_default-clause-members
returns-in_default-clause-members g c = λ profile front viable stands.
    nothing c.args.out.now.items
    ∙ ap (λ bytes. c.args.out.now.items ++ members_text Later (reply_members bytes))
    (c.in_default.ensures.bytes profile front viable stands)
