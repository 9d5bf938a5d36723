-- The text is a key and a name.
use Rattle.pmb_json_text.specs.Json.{boolean}
use Rattle.pmb_json_text.proofs.Pieces.{member_appended}
use Rattle.pmb_json_text.proofs.member.bool_member.Goals as goal

pub returns-clause-member : goal.returns-clause-member
returns-clause-member g c = member_appended c.args.place c.args.key.now (boolean c.args.value) c.args.out.now.items
    c.append_key.ensures.key c.append_bool.ensures.text
