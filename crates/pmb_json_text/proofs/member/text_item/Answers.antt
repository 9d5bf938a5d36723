-- The text is a comma, or none, and a string.
use Rattle.pmb_json_text.specs.Json.{string}
use Rattle.pmb_json_text.proofs.Pieces.{item_appended}
use Rattle.pmb_json_text.proofs.member.text_item.Goals as goal

pub returns-clause-item : goal.returns-clause-item
returns-clause-item g c = item_appended c.args.place (string c.args.text.now) c.args.out.now.items
    c.append_comma.ensures.text c.append_quoted.ensures.text
