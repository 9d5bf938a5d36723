-- A member, or none.
use Rattle.std.proofs.Common.{[], ◌∷◌, ◌++◌, codes, sym, ap, ◌∙◌}
use Rattle.pmb_json_text.specs.declared.item_order.ItemOrder.TheVariants.{Later}
use Rattle.pmb_json_text.specs.Member.{count, members_text, named}
use Rattle.pmb_json_objects.specs.Counts.{others_members}
use Rattle.pmb_json_objects.proofs.Lists.{nothing}
use Rattle.pmb_json_objects.proofs.last.append_others.Goals as goal

pub returns-then-gives_others-clause-members : goal.returns-then-gives_others-clause-members
returns-then-gives_others-clause-members g c = λ known is.
    c.number_member.ensures.member
    ∙ ap (λ n. c.args.out.now.items ++ members_text Later (named (codes "others") (count n) ∷ [])) is
    ∙ ap (λ gives. c.args.out.now.items ++ members_text Later (others_members gives known)) (sym c.if-gives_others.true)

pub returns-else-gives_others-clause-members : goal.returns-else-gives_others-clause-members
returns-else-gives_others-clause-members g c = λ known is.
    nothing c.args.out.now.items
    ∙ ap (λ gives. c.args.out.now.items ++ members_text Later (others_members gives known))
    (sym c.if-gives_others.false)
