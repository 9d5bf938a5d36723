-- A member, or none.
use Rattle.std.proofs.Common.{◌++◌, sym, ap, ◌∙◌}
use Rattle.pmb_json_text.specs.declared.item_order.ItemOrder.TheVariants.{Later}
use Rattle.pmb_json_text.specs.Member.{members_text}
use Rattle.pmb_json_objects.specs.Refusals.{right_pec_members}
use Rattle.pmb_json_objects.proofs.Lists.{nothing}
use Rattle.pmb_json_objects.proofs.refusal.append_right_pec.Goals as goal

pub returns-in-Some-clause-members : goal.returns-in-Some-clause-members
returns-in-Some-clause-members g c =
    c.append_byte.ensures.member ∙ ap (λ right. c.args.out.now.items ++ members_text Later (right_pec_members right))
    (sym c.in-Some.is)

pub returns-in_default-clause-members : goal.returns-in_default-clause-members
returns-in_default-clause-members g c =
    nothing c.args.out.now.items ∙ ap (λ right. c.args.out.now.items ++ members_text Later (right_pec_members right))
    (sym c.in_default.is)
