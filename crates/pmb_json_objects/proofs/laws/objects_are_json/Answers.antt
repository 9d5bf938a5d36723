-- Each by its own lemma, from what the laws of lower crates say.
use Rattle.pmb_json_objects.proofs.Below.{below_of}
use Rattle.pmb_json_objects.proofs.Each.{alert_is_json, bad_token_is_json, call_is_json, counts_are_json, end_is_json}
use Rattle.pmb_json_objects.proofs.Each.{no_alert_is_json, other_is_json, read_is_json, refusal_is_json}
use Rattle.pmb_json_objects.proofs.Each.{refused_is_json, write_is_json}
use Rattle.pmb_json_objects.proofs.laws.objects_are_json.Goals as goal

pub returns-clause-write : goal.returns-clause-write
returns-clause-write c =
    write_is_json (below_of c.digits_are_a_number.ensures c.decimals_are_numbers.ensures c.lowest_terms.ensures
    c.keys_are_some_of_nine.ensures c.says_is_one_member_or_none.ensures c.fewer_keys_are_distinct.ensures
    c.tested_keys_are_distinct.ensures)

pub returns-clause-read : goal.returns-clause-read
returns-clause-read c =
    read_is_json (below_of c.digits_are_a_number.ensures c.decimals_are_numbers.ensures c.lowest_terms.ensures
    c.keys_are_some_of_nine.ensures c.says_is_one_member_or_none.ensures c.fewer_keys_are_distinct.ensures
    c.tested_keys_are_distinct.ensures)

pub returns-clause-call : goal.returns-clause-call
returns-clause-call c =
    call_is_json (below_of c.digits_are_a_number.ensures c.decimals_are_numbers.ensures c.lowest_terms.ensures
    c.keys_are_some_of_nine.ensures c.says_is_one_member_or_none.ensures c.fewer_keys_are_distinct.ensures
    c.tested_keys_are_distinct.ensures)

pub returns-clause-refused : goal.returns-clause-refused
returns-clause-refused c =
    refused_is_json (below_of c.digits_are_a_number.ensures c.decimals_are_numbers.ensures c.lowest_terms.ensures
    c.keys_are_some_of_nine.ensures c.says_is_one_member_or_none.ensures c.fewer_keys_are_distinct.ensures
    c.tested_keys_are_distinct.ensures)

pub returns-clause-alert : goal.returns-clause-alert
returns-clause-alert c =
    alert_is_json (below_of c.digits_are_a_number.ensures c.decimals_are_numbers.ensures c.lowest_terms.ensures
    c.keys_are_some_of_nine.ensures c.says_is_one_member_or_none.ensures c.fewer_keys_are_distinct.ensures
    c.tested_keys_are_distinct.ensures)

pub returns-clause-no_alert : goal.returns-clause-no_alert
returns-clause-no_alert c =
    no_alert_is_json (below_of c.digits_are_a_number.ensures c.decimals_are_numbers.ensures c.lowest_terms.ensures
    c.keys_are_some_of_nine.ensures c.says_is_one_member_or_none.ensures c.fewer_keys_are_distinct.ensures
    c.tested_keys_are_distinct.ensures)

pub returns-clause-other : goal.returns-clause-other
returns-clause-other c =
    other_is_json (below_of c.digits_are_a_number.ensures c.decimals_are_numbers.ensures c.lowest_terms.ensures
    c.keys_are_some_of_nine.ensures c.says_is_one_member_or_none.ensures c.fewer_keys_are_distinct.ensures
    c.tested_keys_are_distinct.ensures)

pub returns-clause-refusal : goal.returns-clause-refusal
returns-clause-refusal c =
    refusal_is_json (below_of c.digits_are_a_number.ensures c.decimals_are_numbers.ensures c.lowest_terms.ensures
    c.keys_are_some_of_nine.ensures c.says_is_one_member_or_none.ensures c.fewer_keys_are_distinct.ensures
    c.tested_keys_are_distinct.ensures)

pub returns-clause-bad_token : goal.returns-clause-bad_token
returns-clause-bad_token c =
    bad_token_is_json (below_of c.digits_are_a_number.ensures c.decimals_are_numbers.ensures c.lowest_terms.ensures
    c.keys_are_some_of_nine.ensures c.says_is_one_member_or_none.ensures c.fewer_keys_are_distinct.ensures
    c.tested_keys_are_distinct.ensures)

pub returns-clause-counts : goal.returns-clause-counts
returns-clause-counts c =
    counts_are_json (below_of c.digits_are_a_number.ensures c.decimals_are_numbers.ensures c.lowest_terms.ensures
    c.keys_are_some_of_nine.ensures c.says_is_one_member_or_none.ensures c.fewer_keys_are_distinct.ensures
    c.tested_keys_are_distinct.ensures)

pub returns-clause-end : goal.returns-clause-end
returns-clause-end c =
    end_is_json (below_of c.digits_are_a_number.ensures c.decimals_are_numbers.ensures c.lowest_terms.ensures
    c.keys_are_some_of_nine.ensures c.says_is_one_member_or_none.ensures c.fewer_keys_are_distinct.ensures
    c.tested_keys_are_distinct.ensures)
