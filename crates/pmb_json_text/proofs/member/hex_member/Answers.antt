-- The text is a key and a string of digits.
use Rattle.pmb_json_text.specs.Member.{digits}
use Rattle.pmb_json_text.proofs.Pieces.{member_appended}
use Rattle.pmb_json_text.proofs.member.hex_member.Goals as goal

pub returns-clause-member : goal.returns-clause-member
returns-clause-member g c = member_appended c.args.place c.args.key.now (digits c.args.bytes.now) c.args.out.now.items
    c.append_key.ensures.key c.append_quoted_digits.ensures.text
