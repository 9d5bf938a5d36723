-- The string is its bytes between quotes.
use Rattle.pmb_json_text.proofs.Pieces.{text_appended}
use Rattle.pmb_json_text.proofs.text.append_quoted.Goals as goal

pub returns-clause-text : goal.returns-clause-text
returns-clause-text g c = text_appended c.args.bytes.now c.args.out.now.items c.push.ensures.items
    c.append_escaped.ensures.text c.push-2.ensures.items
