use Rattle.std.proofs.Common.{sym, ◌∙◌}
use Rattle.pmb_words.proofs.WordLemmas.{not_empty, pieces_from}
use Rattle.pmb_words.proofs.words.Words.pieces.Goals as goal

pub returns : goal.returns
returns c =
    let text = c.from_word-text.result.now in
    let some = not_empty text (sym c.is_empty.ensures ∙ c.if-is_empty.false) in
    c.of.ensures ∙ sym (pieces_from text some c.from_word-text.ensures.first) ∙ c.from_word-text.ensures.pieces
