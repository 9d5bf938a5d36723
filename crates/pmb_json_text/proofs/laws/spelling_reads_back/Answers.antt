use Rattle.pmb_json_text.proofs.ReadBack.{read_back}
use Rattle.pmb_json_text.proofs.laws.spelling_reads_back.Goals as goal

pub returns : goal.returns
returns c = read_back
