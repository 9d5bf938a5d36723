-- A member, or none.
use Rattle.std.proofs.Common.{◌++◌, sym, ap, ◌∙◌}
use Rattle.std.specs.Prelude.{option_map}
use Rattle.pmb_json_text.specs.declared.item_order.ItemOrder.TheVariants.{Later}
use Rattle.pmb_json_text.specs.Member.{members_text}
use Rattle.pmb_json_objects.specs.Members.{time_members}
use Rattle.pmb_json_objects.proofs.Lists.{nothing}
use Rattle.pmb_json_objects.proofs.members.append_time.Goals as goal

pub returns-in_default-clause-members : goal.returns-in_default-clause-members
returns-in_default-clause-members g c =
    nothing c.args.out.now.items
    ∙ ap (λ time. c.args.out.now.items ++ members_text Later (time_members (option_map (λ t. t.now) time)))
    (sym c.in_default.is)
