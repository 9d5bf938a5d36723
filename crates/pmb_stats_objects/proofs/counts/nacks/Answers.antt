use Rattle.std.proofs.Common.{◌≡◌, ◌∙◌, ◌++◌, ℕ, ap, codes}
use Rattle.pmb_json_text.specs.declared.item_order.ItemOrder.TheVariants.{First}
use Rattle.pmb_json_text.specs.Member.{members_text}
use Rattle.pmb_stats_objects.specs.Members.{count_member}
use Rattle.pmb_stats_objects.proofs.Pieces.{alone, then_some}
use Rattle.pmb_stats_objects.proofs.counts.nacks.Goals as goal

-- members of four counts, by equal counts
same_nacks : {a a' b b' c c' d d' : ℕ} → a ≡ a' → b ≡ b' → c ≡ c' → d ≡ d'
    → count_member (codes "address") a ++ count_member (codes "code") b ++ count_member (codes "byte") c
    ++ count_member (codes "read address") d
    ≡ count_member (codes "address") a' ++ count_member (codes "code") b' ++ count_member (codes "byte") c'
    ++ count_member (codes "read address") d'
same_nacks first second third fourth = cc

pub returns-clause-members : goal.returns-clause-members
returns-clause-members g c = λ facts given.
    let all = then_some (then_some (then_some c.append_count-place.ensures c.append_count-place-2.ensures)
    c.append_count-place-3.ensures) c.append_count.ensures in
    alone First _ _ c.new-out.ensures all.items
    ∙ ap (members_text First) (same_nacks (c.count-at_address.ensures facts given)
    (c.count-at_code.ensures facts given) (c.count-at_byte.ensures facts given)
    (c.count-at_read_address.ensures facts given))
