use Rattle.pmb_json_text.proofs.Distinct.{part_is_distinct}
use Rattle.pmb_json_text.proofs.laws.fewer_keys_are_distinct.Goals as goal

pub returns : goal.returns
returns c = part_is_distinct
