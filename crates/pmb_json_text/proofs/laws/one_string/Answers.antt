use Rattle.pmb_json_text.proofs.OneSpelling.{quoted_once}
use Rattle.pmb_json_text.proofs.laws.one_string.Goals as goal

pub returns : goal.returns
returns c = quoted_once
