use Rattle.std.proofs.Common.{◌≡◌, ◌∙◌, ◌++◌, Option, Some, None, List, ℕ, ap, append_assoc, codes, refl, sym}
use Rattle.pmb_json_objects.specs.Members.{device_member, device_members, kind_member, name_at, name_members}
use Rattle.pmb_json_text.specs.declared.item_order.ItemOrder.TheVariants.{First, Later}
use Rattle.pmb_json_text.specs.Member.{members_text}
use Rattle.pmb_stats_objects.specs.Counts.{counts_members}
use Rattle.pmb_stats_objects.specs.Members.{text_member}
use Rattle.pmb_stats_objects.proofs.Pieces.{in_order, said, then}
use Rattle.pmb_stats_objects.proofs.objects.begin_device.Goals as goal

same_name : (name : Option (List ℕ)) → text_member (codes "name") name ≡ name_members name
same_name None = refl
same_name (Some name) = refl

pub returns-clause-begun : goal.returns-clause-begun
returns-clause-begun g c = λ facts given.
    let old = c.args.out.now.items in
    let profile = c.args.profile.now in
    let addr = c.args.addr in
    let kind = kind_member (codes "device") in
    let device = device_members profile addr in
    let name = said Later _ (ap (text_member (codes "name")) c.name_at.ensures.name ∙ same_name (name_at profile addr))
    c.append_text.ensures.items in
    let begun = c.begin_object.ensures.begun ∙ sym (append_assoc old (codes "{") (members_text First kind)) in
    in_order First Later (kind ++ device) (counts_members facts) (old ++ codes "{") refl
    (in_order First Later kind device (old ++ codes "{") refl begun
    (then (device_member addr) (name_members (name_at profile addr)) _ c.hex_member.ensures.member name))
    (c.append_counts.ensures.members facts given)
    ∙ append_assoc old (codes "{") (members_text First ((kind ++ device) ++ counts_members facts))
