-- The brace, and five lists of members.
use Rattle.pmb_json_objects.proofs.Lists.{begun, joined, joined_to_first}
use Rattle.pmb_json_objects.proofs.members.begin_object.Goals as goal

pub returns-clause-begun : goal.returns-clause-begun
returns-clause-begun g c =
    let first = c.begin.new.out.items in
    let time = joined c.number_member-3.new.out.items _ _ c.append_time.ensures.members c.text_member.ensures.member in
    begun c.args.out.now.items _ c.begin.ensures.begun
    (joined_to_first first _ _ _
    (joined_to_first first _ _ _ (joined_to_first first _ _ _ c.number_member.ensures.member
    c.number_member-2.ensures.member) c.number_member-3.ensures.member)
    time)
