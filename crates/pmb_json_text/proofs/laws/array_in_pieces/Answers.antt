use Rattle.pmb_json_text.proofs.Pieces.{array_in_pieces}
use Rattle.pmb_json_text.proofs.laws.array_in_pieces.Goals as goal

pub returns : goal.returns
returns c = array_in_pieces
