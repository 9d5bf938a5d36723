use Rattle.pmb_json_text.proofs.Grammar.{values}
use Rattle.pmb_json_text.proofs.laws.spelling_is_json.Goals as goal

pub returns : goal.returns
returns c = values
