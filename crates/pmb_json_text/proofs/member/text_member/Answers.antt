-- The text is a key and a string.
use Rattle.pmb_json_text.specs.Json.{string}
use Rattle.pmb_json_text.proofs.Pieces.{member_appended}
use Rattle.pmb_json_text.proofs.member.text_member.Goals as goal

pub returns-clause-member : goal.returns-clause-member
returns-clause-member g c = member_appended c.args.place c.args.key.now (string c.args.text.now) c.args.out.now.items
    c.append_key.ensures.key c.append_quoted.ensures.text
