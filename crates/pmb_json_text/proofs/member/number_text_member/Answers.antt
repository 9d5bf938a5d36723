-- The text is a key and the number's text.
use Rattle.pmb_json_text.specs.Json.{number}
use Rattle.pmb_json_text.proofs.Pieces.{member_appended}
use Rattle.pmb_json_text.proofs.member.number_text_member.Goals as goal

pub returns-clause-member : goal.returns-clause-member
returns-clause-member g c = member_appended c.args.place c.args.key.now (number c.args.number.now) c.args.out.now.items
    c.append_key.ensures.key c.append.ensures
