use Rattle.std.proofs.Common.{[], ◌∷◌, ℕ, List, Option, ap, codes}
use Rattle.pmb_json_text.specs.declared.item_order.ItemOrder.TheVariants.{Later}
use Rattle.pmb_json_text.specs.Member.{count, named}
use Rattle.pmb_stats_objects.specs.Members.{text_member}
use Rattle.pmb_stats_objects.proofs.Pieces.{object_item, said, then}
use Rattle.pmb_stats_objects.proofs.bit.append_bit.Goals as goal

pub returns-clause-item : goal.returns-clause-item
returns-clause-item g c = λ page reads stands.
    let bit = c.args.bit in
    let time = λ (key : List ℕ) (time : Option (List ℕ)). text_member key time in
    let found = said Later _ (ap (λ (n : ℕ). named (codes "count") (count n) ∷ []) (c.count.ensures reads bit stands))
    c.number_member.ensures.member in
    let first = said Later _ (ap (time (codes "first")) (c.first.ensures.time reads bit stands))
    c.append_text.ensures.items in
    let last = said Later _ (ap (time (codes "last")) (c.last.ensures.time reads bit stands))
    c.append_text-2.ensures.items in
    let gone = said Later _ (ap (time (codes "gone")) (c.gone.ensures.time reads bit stands))
    c.append_text-3.ensures.items in
    object_item c.args.place _ _ _ _ c.begin_item.ensures.begun
    (then _ _ _ c.append_name.ensures.member (then _ _ _ found (then _ _ _ (then _ _ _ first last) gone)))
    c.append.ensures
