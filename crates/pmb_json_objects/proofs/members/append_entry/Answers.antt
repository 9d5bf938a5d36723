-- The name, the page, and the phase.
use Rattle.std.proofs.Common.{[], ◌∷◌, ◌++◌, codes, ap, ◌∙◌}
use Rattle.pmb_json_text.specs.Json.{string}
use Rattle.pmb_json_text.specs.declared.item_order.ItemOrder.TheVariants.{Later}
use Rattle.pmb_json_text.specs.Member.{members_text, named}
use Rattle.pmb_json_objects.specs.Members.{phase_member}
use Rattle.pmb_json_objects.specs.Seen.{phase_at}
use Rattle.pmb_json_objects.proofs.Lists.{joined}
use Rattle.pmb_json_objects.proofs.members.append_entry.Goals as goal

pub returns-clause-members : goal.returns-clause-members
returns-clause-members g c = λ known sees.
    let name = c.text_member.ensures.member ∙ ap
    (λ t. c.args.out.now.items ++ members_text Later (named (codes "command") (string t) ∷ []))
    (c.as_bytes.ensures.value ∙ c.deref.ensures.0) in
    let phase = c.append_phase.ensures.members known sees
    ∙ ap (λ phased. c.append_page.new.out.items
    ++ members_text Later (phase_member phased (phase_at known c.args.addr))) c.has_phases.ensures in
    let selected = joined c.text_member.new.out.items _ _ (c.append_page.ensures.members known sees) phase in
    joined c.args.out.now.items _ _ name selected
