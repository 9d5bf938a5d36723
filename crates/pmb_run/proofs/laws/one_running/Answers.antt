use Rattle.pmb_io.specs.Lines.{lines_of}
use Rattle.pmb_run.specs.Answer.{most_request_line}
use Rattle.pmb_run.proofs.OneRunning.{one_tally, one_text}
use Rattle.pmb_run.proofs.laws.one_running.Goals as goal

pub returns : goal.returns
returns c profile a b bytes x y bus one other =
    let laws = c.lines_have_one_answer.ensures profile bus in
    let given = lines_of most_request_line bytes in
    (one_text profile laws given x y one.given other.given, one_tally profile laws given x y a b one other)
