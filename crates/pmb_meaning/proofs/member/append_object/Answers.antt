use Rattle.pmb_meaning.specs.Field.{all_parts}
use Rattle.pmb_meaning.specs.Names.{names_of}
use Rattle.pmb_meaning.proofs.ObjectLemmas.{object_appended}
use Rattle.pmb_meaning.proofs.member.append_object.Goals as goal

pub returns-clause-member : goal.returns-clause-member
returns-clause-member g c =
    object_appended (names_of c.args.device.now) (all_parts c.args.fields.now) c.args.out.now.items c.append.ensures.text
    c.append_members.ensures.members c.append-2.ensures.text
