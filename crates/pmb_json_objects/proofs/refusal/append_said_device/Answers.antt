-- A member, or none.
use Rattle.std.proofs.Common.{◌++◌, sym, ap, ◌∙◌}
use Rattle.pmb_json_text.specs.declared.item_order.ItemOrder.TheVariants.{Later}
use Rattle.pmb_json_text.specs.Member.{members_text}
use Rattle.pmb_json_objects.specs.Refusals.{said_device_members}
use Rattle.pmb_json_objects.proofs.Lists.{nothing}
use Rattle.pmb_json_objects.proofs.refusal.append_said_device.Goals as goal

pub returns-in_default-clause-members : goal.returns-in_default-clause-members
returns-in_default-clause-members g c =
    nothing c.args.out.now.items
    ∙ ap (λ device. c.args.out.now.items ++ members_text Later (said_device_members c.args.profile.now device))
    (sym c.in_default.is)

pub returns-in-Some-clause-members : goal.returns-in-Some-clause-members
returns-in-Some-clause-members g c =
    c.append_device.ensures.members
    ∙ ap (λ device. c.args.out.now.items ++ members_text Later (said_device_members c.args.profile.now device))
    (sym c.in-Some.is)
