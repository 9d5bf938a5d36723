use Rattle.std.proofs.Common.{◌∙◌, ap, codes}
use Rattle.pmb_json_text.specs.declared.item_order.ItemOrder.TheVariants.{Later}
use Rattle.pmb_stats_objects.specs.Counts.{nack_members, reason_members, reasons}
use Rattle.pmb_stats_objects.specs.Members.{count_member}
use Rattle.pmb_stats_objects.proofs.Pieces.{said, then}
use Rattle.pmb_stats_objects.proofs.counts.append_counts.Goals as goal

pub returns-clause-members : goal.returns-clause-members
returns-clause-members g c = λ facts given.
    let writes = said Later _ (ap (count_member (codes "writes")) (c.count.ensures facts given))
    c.append_count.ensures.items in
    let reads = said Later _ (ap (count_member (codes "reads")) (c.count-2.ensures facts given))
    c.append_count-2.ensures.items in
    let calls = said Later _ (ap (count_member (codes "calls")) (c.count-3.ensures facts given))
    c.append_count-3.ensures.items in
    let alerts = said Later _ (ap (count_member (codes "alerts")) (c.count-4.ensures facts given))
    c.append_count-4.ensures.items in
    let nacks = c.append_object.ensures.object (nack_members facts)
    (c.as_slice.ensures.value ∙ c.nacks.ensures.members facts given) in
    let refusals = c.append_object-2.ensures.object (reason_members facts reasons)
    (c.as_slice-2.ensures.value ∙ c.refusals.ensures.members facts given) in
    let others = said Later _ (ap (count_member (codes "others")) (c.count-5.ensures facts given))
    c.append_count-5.ensures.items in
    then _ _ _ (then _ _ _ (then _ _ _ (then _ _ _ (then _ _ _ (then _ _ _ writes reads) calls) alerts) nacks)
    refusals) others
