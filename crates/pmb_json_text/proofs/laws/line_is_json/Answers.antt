use Rattle.pmb_json_text.proofs.Grammar.{lines}
use Rattle.pmb_json_text.proofs.laws.line_is_json.Goals as goal

pub returns : goal.returns
returns c = lines
