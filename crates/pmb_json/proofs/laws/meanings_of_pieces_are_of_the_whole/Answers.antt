use Rattle.pmb_json.proofs.PieceMembers.{meaning_said}
use Rattle.pmb_json.proofs.laws.meanings_of_pieces_are_of_the_whole.Goals as goal

pub returns : goal.returns
returns c timing piece whole m no_more here means =
    meaning_said piece.members whole.members m no_more.members here means
