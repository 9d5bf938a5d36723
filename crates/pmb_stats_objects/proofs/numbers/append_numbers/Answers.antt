use Rattle.std.proofs.Common.{[], ◌∷◌, ℕ, ap, codes}
use Rattle.pmb_json_text.specs.declared.item_order.ItemOrder.TheVariants.{Later}
use Rattle.pmb_json_text.specs.Member.{count, named}
use Rattle.pmb_stats_objects.specs.Members.{count_member, fraction_member}
use Rattle.pmb_stats_objects.proofs.Pieces.{object_item, said, then}
use Rattle.pmb_stats_objects.proofs.numbers.append_numbers.Goals as goal

pub returns-clause-item : goal.returns-clause-item
returns-clause-item g c = λ page numbers stands.
    let digits = c.args.digits in
    let found = said Later _ (ap (λ (n : ℕ). named (codes "count") (count n) ∷ []) (c.count.ensures numbers stands))
    c.number_member.ensures.member in
    let assumed = said Later _ (ap (count_member (codes "assumed")) (c.assumed.ensures numbers stands))
    c.append_count.ensures.items in
    let least = said Later _ (ap (fraction_member digits (codes "least")) (c.least.ensures numbers stands))
    c.append_fraction.ensures.items in
    let greatest = said Later _ (ap (fraction_member digits (codes "greatest")) (c.greatest.ensures numbers stands))
    c.append_fraction-2.ensures.items in
    let last = said Later _ (ap (fraction_member digits (codes "last")) (c.last.ensures numbers stands))
    c.append_fraction-3.ensures.items in
    object_item c.args.place _ _ _ _ c.begin_item.ensures.begun
    (then _ _ _ found
    (then _ _ _ (then _ _ _ (then _ _ _ (then _ _ _ (then _ _ _ assumed least)
    (c.append_mean.ensures.member numbers stands)) greatest) last) c.append_unit.ensures.items))
    c.append.ensures
