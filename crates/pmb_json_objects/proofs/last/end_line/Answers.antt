-- The kind, and four totals.
use Rattle.std.proofs.Common.{[], ◌∷◌, ◌++◌, codes, ap, ◌∙◌}
use Rattle.pmb_json_text.specs.declared.item_order.ItemOrder.TheVariants.{Later}
use Rattle.pmb_json_text.specs.Member.{count, members_text, named}
use Rattle.pmb_json_objects.proofs.Lists.{ended, joined, joined_to_begun}
use Rattle.pmb_json_objects.proofs.last.end_line.Goals as goal

pub returns-clause-line : goal.returns-clause-line
returns-clause-line g c = λ known counts.
    let old = c.args.out.now.items in
    let packets = c.number_member.ensures.member
    ∙ ap (λ n. c.begin_last.new.out.items ++ members_text Later (named (codes "packets") (count n) ∷ []))
    (c.packets.ensures ∙ counts.packets) in
    let refusals = c.number_member-2.ensures.member
    ∙ ap (λ n. c.number_member.new.out.items ++ members_text Later (named (codes "refusals") (count n) ∷ []))
    (c.refusals.ensures ∙ counts.refusals) in
    let bad = c.number_member-3.ensures.member
    ∙ ap (λ n. c.number_member-2.new.out.items ++ members_text Later (named (codes "bad_tokens") (count n) ∷ []))
    (c.bad_tokens.ensures ∙ counts.bad_tokens) in
    let others = c.append_others.ensures.members known.others (c.others.ensures ∙ counts.others) in
    let last = joined c.number_member-2.new.out.items _ _ bad others in
    let totals = joined c.begin_last.new.out.items _ _ packets
    (joined c.number_member.new.out.items _ _ refusals last) in
    ended old _ (joined_to_begun old _ _ _ c.begin_last.ensures.begun totals) c.end.ensures.ended
