use Rattle.pmb_fact_stream.proofs.Records.{lines_are_records, lines_long, no_last_lines, takes_next}
use Rattle.pmb_fact_stream.proofs.laws.facts_have_records.Goals as goal

pub returns-clause-records : goal.returns-clause-records
returns-clause-records c choice profile facts is = lines_are_records choice profile is facts

pub returns-clause-long : goal.returns-clause-long
returns-clause-long c choice profile facts is =
    lines_long c.records_have_one_length.ensures choice profile is facts

pub returns-clause-last : goal.returns-clause-last
returns-clause-last c choice profile counts is = no_last_lines choice profile is counts

pub returns-clause-next : goal.returns-clause-next
returns-clause-next c choice profile facts n taken next left is =
    takes_next c.records_have_one_length.ensures choice profile is facts n taken next left
