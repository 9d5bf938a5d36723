use Rattle.pmb_json_text.proofs.ReadBack.{line_read_back}
use Rattle.pmb_json_text.proofs.laws.line_reads_back.Goals as goal

pub returns : goal.returns
returns c = line_read_back
