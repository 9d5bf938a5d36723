-- The address, and the name that the profile gives it.
use Rattle.std.proofs.Common.{◌++◌, ap, ◌∙◌}
use Rattle.pmb_json_text.specs.declared.item_order.ItemOrder.TheVariants.{Later}
use Rattle.pmb_json_text.specs.Member.{members_text}
use Rattle.pmb_json_objects.specs.Members.{name_members}
use Rattle.pmb_json_objects.proofs.Lists.{joined}
use Rattle.pmb_json_objects.proofs.members.append_device.Goals as goal

pub returns-clause-members : goal.returns-clause-members
returns-clause-members g c =
    let named = c.append_name.ensures.members
    ∙ ap (λ name. c.append_byte.new.out.items ++ members_text Later (name_members name)) c.name_at.ensures.name in
    joined c.args.out.now.items _ _ c.append_byte.ensures.member named
