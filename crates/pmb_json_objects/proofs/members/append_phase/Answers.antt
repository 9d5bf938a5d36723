-- A member, or none.
use Rattle.std.proofs.Common.{[], ◌∷◌, ◌++◌, codes, sym, ap, ◌∙◌}
use Rattle.pmb_json_text.specs.declared.item_order.ItemOrder.TheVariants.{Later}
use Rattle.pmb_json_text.specs.Member.{members_text, named}
use Rattle.pmb_json_objects.specs.Members.{phase_member, selected_value}
use Rattle.pmb_json_objects.specs.Seen.{phase_at}
use Rattle.pmb_json_objects.proofs.Lists.{nothing}
use Rattle.pmb_json_objects.proofs.members.append_phase.Goals as goal

pub returns-then-phased-clause-members : goal.returns-then-phased-clause-members
returns-then-phased-clause-members g c = λ known sees.
    c.append_selected.ensures.member
    ∙ ap (λ phase. c.args.out.now.items ++ members_text Later (named (codes "phase") (selected_value phase) ∷ []))
    (c.phase.ensures known sees)
    ∙ ap (λ phased. c.args.out.now.items ++ members_text Later (phase_member phased (phase_at known c.args.addr)))
    (sym c.if-phased.true)

pub returns-else-phased-clause-members : goal.returns-else-phased-clause-members
returns-else-phased-clause-members g c = λ known sees.
    nothing c.args.out.now.items
    ∙ ap (λ phased. c.args.out.now.items ++ members_text Later (phase_member phased (phase_at known c.args.addr)))
    (sym c.if-phased.false)
