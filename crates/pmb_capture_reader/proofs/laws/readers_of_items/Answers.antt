use Rattle.pmb_capture_reader.proofs.Items as items
use Rattle.pmb_capture_reader.proofs.laws.readers_of_items.Goals as goal

pub returns-clause-whole : goal.returns-clause-whole
returns-clause-whole c choice profile after given taken reader n is stands before =
    items.whole choice profile after (λ counts. c.facts_have_records.ensures.last choice profile counts is) given taken
    reader n stands before (λ facts. c.facts_have_records.ensures.long choice profile facts is)

pub returns-clause-next : goal.returns-clause-next
returns-clause-next c choice profile after given taken one left reader n is stands before split whole =
    items.next choice profile after (λ counts. c.facts_have_records.ensures.last choice profile counts is) given taken
    reader n stands before one left split
    (λ facts told. c.facts_have_records.ensures.next choice profile facts n taken one left is told before whole)
