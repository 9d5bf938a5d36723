use Rattle.pmb_places.proofs.OpenWords.{ended_by_separator, ended_in_comment, longer}
use Rattle.pmb_places.proofs.laws.open_words_go_on.Goals as goal

pub returns : goal.returns
returns c = record { longer = longer; comment = ended_in_comment; separator = ended_by_separator }
