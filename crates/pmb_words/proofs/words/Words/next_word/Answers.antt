use Rattle.std.proofs.Common.{sym, ◌∙◌, ap, option_copied, List, ℕ, ◌∷◌}
use Rattle.pmb_words.specs.Parts.{blank, pieces_behind}
use Rattle.pmb_words.proofs.WordLemmas.{not_empty, pieces_from, taken, word_taken}
use Rattle.pmb_words.proofs.words.Words.next_word.Goals as goal

pub returns-clause-some : goal.returns-clause-some
returns-clause-some c =
    let text = c.from_word-text.result.now in
    let some = not_empty text (sym c.is_empty.ensures ∙ c.if-is_empty.false) in
    sym c.from_word-text.ensures.same
    ∙ word_taken text c.part.result.0.now (option_copied c.part.result.1) some c.from_word-text.ensures.first
    c.part.ensures.front c.part.ensures.rest
    ∙ ap (λ (words : List (List ℕ)). c.part.result.0.now ∷ words) (sym c.text_behind-self.ensures.words)

pub returns-clause-takes : goal.returns-clause-takes
returns-clause-takes c =
    let text = c.from_word-text.result.now in
    let some = not_empty text (sym c.is_empty.ensures ∙ c.if-is_empty.false) in record {
      behind = pieces_behind blank (option_copied c.part.result.1);
      whole = sym c.from_word-text.ensures.pieces ∙ (pieces_from text some c.from_word-text.ensures.first
          ∙ taken text c.part.result.0.now (option_copied c.part.result.1) c.part.ensures.front c.part.ensures.rest);
      left = c.text_behind-self.ensures.pieces;
      words = c.text_behind-self.ensures.words;
    }
