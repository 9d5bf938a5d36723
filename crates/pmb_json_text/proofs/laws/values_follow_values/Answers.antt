use Rattle.pmb_json_text.proofs.Pieces.{items_in_parts}
use Rattle.pmb_json_text.proofs.laws.values_follow_values.Goals as goal

pub returns : goal.returns
returns c = items_in_parts
