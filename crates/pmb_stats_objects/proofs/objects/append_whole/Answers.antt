use Rattle.std.proofs.Common.{[], ◌∷◌, ℕ, ap, codes}
use Rattle.pmb_json_text.specs.declared.item_order.ItemOrder.TheVariants.{Later}
use Rattle.pmb_json_text.specs.Member.{count, named}
use Rattle.pmb_stats_objects.specs.Members.{count_member, text_member}
use Rattle.pmb_stats_objects.proofs.Pieces.{line_appended, said, then}
use Rattle.pmb_stats_objects.proofs.objects.append_whole.Goals as goal

pub returns-clause-line : goal.returns-clause-line
returns-clause-line g c = λ setting facts stands.
    let totals = c.totals-totals.ensures setting facts stands in
    let packets = said Later _ (ap (λ (n : ℕ). named (codes "packets") (count n) ∷ []) (c.packets.ensures facts totals))
    c.number_member.ensures.member in
    let bad = said Later _ (ap (count_member (codes "bad_tokens")) (c.bad_tokens.ensures facts totals))
    c.append_count.ensures.items in
    let first = said Later _ (ap (text_member (codes "first")) (c.first.ensures.time setting facts stands))
    c.append_text.ensures.items in
    let last = said Later _ (ap (text_member (codes "last")) (c.last.ensures.time setting facts stands))
    c.append_text-2.ensures.items in
    line_appended _ _ _ _ c.begin_object.ensures.begun
    (then _ _ _ packets
    (then _ _ _ (then _ _ _ (then _ _ _ (c.append_counts.ensures.members facts totals) bad) first) last))
    c.end.ensures.ended
