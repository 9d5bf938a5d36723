use Rattle.pmb_json_text.proofs.Pieces.{line_in_pieces}
use Rattle.pmb_json_text.proofs.laws.line_in_pieces.Goals as goal

pub returns : goal.returns
returns c = line_in_pieces
