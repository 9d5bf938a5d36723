use Rattle.std.proofs.Common.{ap, ◌∙◌, option_copied, Option, Bor, List, ℕ}
use Rattle.pmb_words.specs.Parts.{blank, pieces_behind}
use Rattle.pmb_words.proofs.WordLemmas.{taken}
use Rattle.pmb_words.proofs.words.Pieces.next_piece.Goals as goal

pub returns-clause-some : goal.returns-clause-some
returns-clause-some c =
    ap (λ (rest : Option (Bor (List ℕ))). pieces_behind blank (option_copied rest)) c.in-Some.is
    ∙ taken c.in-Some.text.now c.part.result.0.now (option_copied c.part.result.1)
    c.part.ensures.front c.part.ensures.rest
