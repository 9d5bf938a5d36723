use Rattle.pmb_json_fields.proofs.Keys.{are_of_data}
use Rattle.pmb_json_fields.proofs.laws.keys_are_some_of_nine.Goals as goal

pub returns : goal.returns
returns c = are_of_data
