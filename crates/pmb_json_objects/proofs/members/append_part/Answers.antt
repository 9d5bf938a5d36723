-- Two members, or none.
use Rattle.std.proofs.Common.{◌++◌, sym, ap, ◌∙◌}
use Rattle.pmb_json_text.specs.declared.item_order.ItemOrder.TheVariants.{Later}
use Rattle.pmb_json_text.specs.Member.{members_text}
use Rattle.pmb_json_objects.proofs.Lists.{joined, nothing}
use Rattle.pmb_json_objects.proofs.Parts.{of_several, the_only}
use Rattle.pmb_json_objects.proofs.members.append_part.Goals as goal

pub returns-then-parts-gt1-clause-members : goal.returns-then-parts-gt1-clause-members
returns-then-parts-gt1-clause-members g c =
    joined c.args.out.now.items _ _ c.number_member.ensures.member c.number_member-then-parts-gt1.ensures.member
    ∙ ap (λ ms. c.args.out.now.items ++ members_text Later ms)
    (sym (of_several c.args.part c.args.parts c.if-parts-gt1.true))

pub returns-else-parts-gt1-clause-members : goal.returns-else-parts-gt1-clause-members
returns-else-parts-gt1-clause-members g c =
    nothing c.args.out.now.items ∙ ap (λ ms. c.args.out.now.items ++ members_text Later ms)
    (sym (the_only c.args.part c.args.parts c.if-parts-gt1.false))
