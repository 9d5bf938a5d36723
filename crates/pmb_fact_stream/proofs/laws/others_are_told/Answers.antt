use Rattle.pmb_fact_stream.proofs.Others.{counted_at_end, rest_at_end, told_at_end, whole_told}
use Rattle.pmb_fact_stream.proofs.laws.others_are_told.Goals as goal

pub returns-clause-facts : goal.returns-clause-facts
returns-clause-facts c ignored place times lost before m reached end none =
    told_at_end ignored place times lost before m reached.standing end none

pub returns-clause-rest : goal.returns-clause-rest
returns-clause-rest c ignored place times lost before m reached end none =
    rest_at_end ignored place times lost before m reached.standing end none

pub returns-clause-counts : goal.returns-clause-counts
returns-clause-counts c ignored counts reached end none = counted_at_end ignored counts reached.standing end none

pub returns-clause-whole : goal.returns-clause-whole
returns-clause-whole c ignored spans whole = whole_told ignored spans whole
