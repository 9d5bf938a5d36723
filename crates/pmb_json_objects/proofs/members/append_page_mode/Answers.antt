-- The mark, or none.
use Rattle.std.proofs.Common.{[], ◌∷◌, ◌++◌, codes, if◌then◌else◌, sym, ap, ◌∙◌}
use Rattle.pmb_json_text.specs.Json.{string}
use Rattle.pmb_json_text.specs.declared.item_order.ItemOrder.TheVariants.{Later}
use Rattle.pmb_json_text.specs.Member.{members_text, named}
use Rattle.pmb_json_objects.proofs.Lists.{nothing}
use Rattle.pmb_json_objects.proofs.members.append_page_mode.Goals as goal

pub returns-then-is_marked-clause-members : goal.returns-then-is_marked-clause-members
returns-then-is_marked-clause-members g c =
    c.text_member.ensures.member
    ∙ ap (λ marked. c.args.out.now.items
    ++ members_text Later (if marked then named (codes "page_mode") (string (codes "assumed")) ∷ [] else []))
    (sym c.if-is_marked.true ∙ c.is_marked.ensures)

pub returns-else-is_marked-clause-members : goal.returns-else-is_marked-clause-members
returns-else-is_marked-clause-members g c =
    nothing c.args.out.now.items
    ∙ ap (λ marked. c.args.out.now.items
    ++ members_text Later (if marked then named (codes "page_mode") (string (codes "assumed")) ∷ [] else []))
    (sym c.if-is_marked.false ∙ c.is_marked.ensures)
