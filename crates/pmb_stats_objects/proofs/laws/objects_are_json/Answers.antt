use Rattle.pmb_stats_objects.proofs.JsonObjects.{json_objects}
use Rattle.pmb_stats_objects.proofs.laws.objects_are_json.Goals as goal

pub returns : goal.returns
returns c = λ digits setting facts bus told timed.
    json_objects c.digits_are_a_number.ensures c.fewer_keys_are_distinct.ensures c.tested_keys_are_distinct.ensures
    digits setting facts bus told timed
