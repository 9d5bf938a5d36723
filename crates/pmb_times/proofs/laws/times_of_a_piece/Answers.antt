use Rattle.pmb_times.proofs.Pieces.{piece_no_more}
use Rattle.pmb_times.proofs.laws.times_of_a_piece.Goals as goal

pub returns : goal.returns
returns c = piece_no_more c.each_word_has_a_place.ensures.whole
