use Rattle.pmb_preamble.proofs.front_reader.cut.Goals as goal

-- What follows the line is kept.
pub returns-clause-rest : goal.returns-clause-rest
returns-clause-rest c = c.at_mark.ensures.rest
