use Rattle.pmb_json_text.proofs.Distinct.{distinct_by_test}
use Rattle.pmb_json_text.proofs.laws.tested_keys_are_distinct.Goals as goal

pub returns : goal.returns
returns c = distinct_by_test
