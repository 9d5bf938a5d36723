-- The kind, the device, and six numbers.
use Rattle.std.proofs.Common.{List, [], ◌∷◌, ◌++◌, codes, ap, ◌∙◌}
use Rattle.pmb_json_text.specs.declared.item_order.ItemOrder.TheVariants.{Later}
use Rattle.pmb_json_text.specs.Member.{Member, count, members_text, named}
use Rattle.pmb_json_objects.specs.declared.counts.DeviceCounts.{DeviceCounts}
use Rattle.pmb_json_objects.proofs.Lists.{ended, joined, joined_to_begun}
use Rattle.pmb_json_objects.proofs.last.device_line.Goals as goal

abbrev told : DeviceCounts → List Member
told d =
    named (codes "writes") (count d.writes) ∷ named (codes "reads") (count d.reads)
    ∷ named (codes "calls") (count d.calls) ∷ named (codes "refused") (count d.refused)
    ∷ named (codes "refusals") (count d.refusals) ∷ []

pub returns-clause-line : goal.returns-clause-line
returns-clause-line g c = λ known same.
    let old = c.args.out.now.items in
    let calls = joined c.number_member-2.new.out.items _ _ c.number_member-3.ensures.member
    (joined c.number_member-3.new.out.items _ _ c.number_member-4.ensures.member c.number_member-5.ensures.member) in
    let numbers = joined c.append_device.new.out.items _ _ c.number_member.ensures.member
    (joined c.number_member.new.out.items _ _ c.number_member-2.ensures.member calls)
    ∙ ap (λ d. c.append_device.new.out.items ++ members_text Later (told d)) same in
    let others = c.append_others.ensures.members known.others (ap (λ d. d.others) same) in
    let to = joined_to_begun old _ _ _ c.begin_last.ensures.begun c.append_device.ensures.members in
    let counts = joined c.append_device.new.out.items _ _ numbers others in
    ended old _ (joined_to_begun old _ _ _ to counts) c.end.ensures.ended
