-- What goes on of a text that has ended.
use Rattle.std.proofs.Common.{◌≡◌, ◌∙◌, ℕ, false, Option, Some, None, List, [], ◌∷◌, ◌++◌, ap, append-nil}
use Rattle.pmb_colour.specs.declared.lines.Lines.{Lines}
use Rattle.pmb_colour.specs.Onward.{all_pieces}
use Rattle.pmb_colour.specs.Painting.{held_after, nothing_held, pieces_of}
use Rattle.pmb_colour.specs.Pieces.{has_escape, plain, shown, taken_out, texts}
use Rattle.pmb_colour.proofs.TakenOut.{out_pieces}
use Rattle.pmb_colour.proofs.Texts.{text_same, texts_append}

-- the texts of all pieces
pub whole_same : (lines : Option Lines) (text : List ℕ) → texts (all_pieces lines text) ≡ text
whole_same None text = append-nil text
whole_same (Some lines) text =
    let pieces = pieces_of lines nothing_held text in
    let last = (held_after nothing_held text).line in
    texts_append pieces (plain last ∷ [])
    ∙ (ap (λ (t : List ℕ). texts pieces ++ t) (append-nil last) ∙ text_same lines nothing_held text)

-- .. and what is shown of them without its sequences
pub whole_taken_out : (lines : Option Lines) (text : List ℕ) → has_escape text ≡ false
    → taken_out false (shown (all_pieces lines text)) ≡ text
whole_taken_out lines text none =
    let same = whole_same lines text in
    out_pieces (all_pieces lines text) (ap has_escape same ∙ none) ∙ same
