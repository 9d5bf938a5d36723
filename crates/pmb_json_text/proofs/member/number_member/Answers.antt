-- The text is a key and a number.
use Rattle.pmb_json_text.specs.Member.{count}
use Rattle.pmb_json_text.proofs.Pieces.{member_appended}
use Rattle.pmb_json_text.proofs.member.number_member.Goals as goal

pub returns-clause-member : goal.returns-clause-member
returns-clause-member g c = member_appended c.args.place c.args.key.now (count c.args.number) c.args.out.now.items
    c.append_key.ensures.key c.append_number.ensures.text
