use Rattle.pmb_io.specs.Lines.{ended_lines}
use Rattle.pmb_run.specs.Answer.{most_request_line}
use Rattle.pmb_run.proofs.OneRunning.{ended_first, one_text}
use Rattle.pmb_run.proofs.laws.ended_lines_come_first.Goals as goal

pub returns-clause-one : goal.returns-clause-one
returns-clause-one c profile bytes a b bus =
    one_text profile (c.lines_have_one_answer.ensures profile bus) (ended_lines most_request_line bytes) a b

pub returns-clause-front : goal.returns-clause-front
returns-clause-front c profile bytes more a b tally bus =
    ended_first profile (c.lines_have_one_answer.ensures profile bus) bytes more a b tally
    (c.ended_lines_stay.ensures most_request_line bytes more)
