-- The verdict, and the right code.
use Rattle.std.proofs.Common.{[], ◌∷◌, ◌++◌, codes, ap, ◌∙◌}
use Rattle.pmb_json_text.specs.declared.item_order.ItemOrder.TheVariants.{Later}
use Rattle.pmb_json_text.specs.Json.{string}
use Rattle.pmb_json_text.specs.Member.{members_text, named}
use Rattle.pmb_json_objects.specs.Packets.{right_members}
use Rattle.pmb_json_objects.proofs.Lists.{joined}
use Rattle.pmb_json_objects.proofs.refused.append_right.Goals as goal

pub returns-clause-members : goal.returns-clause-members
returns-clause-members g c = λ small.
    let verdict = c.text_member.ensures.member
    ∙ ap (λ t. c.args.out.now.items ++ members_text Later (named (codes "pec") (string t) ∷ []))
    c.verdict.ensures.text in
    joined c.args.out.now.items _ _ verdict c.append_byte.ensures.member
    ∙ ap (λ right. c.args.out.now.items ++ members_text Later (right_members c.args.last right))
    (c.write_code-right.ensures small)
