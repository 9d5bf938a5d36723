-- Keys that are some of distinct ones are distinct.
use Rattle.std.proofs.Common.{refl}
use Rattle.pmb_json_text.proofs.Distinct.{distinct_by_test, part_is_distinct}
use Rattle.pmb_json_fields.specs.Laws.{data_keys, keys}
use Rattle.pmb_json_fields.specs.Value.{data_members}
use Rattle.pmb_json_fields.proofs.Keys.{are_of_data}
use Rattle.pmb_json_fields.proofs.laws.keys_are_distinct.Goals as goal

pub returns : goal.returns
returns c digits access voltages basis command bytes =
    part_is_distinct (keys (data_members digits access voltages basis command bytes)) data_keys
    (are_of_data digits access voltages basis command bytes) (distinct_by_test data_keys refl)
