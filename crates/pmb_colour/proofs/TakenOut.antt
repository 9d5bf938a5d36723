-- A text whose sequences are taken out.
use Rattle.std.proofs.Common.{◌≡◌, ◌∙◌, ℕ, Bool, true, false, ◌||◌, if◌then◌else◌, Option, Some, None, List, [], ◌∷◌, ◌++◌}
use Rattle.std.proofs.Common.{sym, ap, refl, append_assoc}
use Rattle.std.proofs.lemmas.List.Folds.{list_any-append}
use Rattle.pmb_colour.specs.declared.colour.Colour.{Colour}
use Rattle.pmb_colour.specs.declared.colour.Colour.TheVariants.{Red, Yellow}
use Rattle.pmb_colour.specs.declared.lines.Lines.{Lines}
use Rattle.pmb_colour.specs.Painting.{Held, held_after, pieces_of}
use Rattle.pmb_colour.specs.Pieces.{Piece, has_escape, is_escape, painted, reset, sequence, shown, taken_out, texts}
use Rattle.pmb_colour.proofs.Texts.{text_same}

or_none : (a b : Bool) → (a || b) ≡ false → (a ≡ false) × (b ≡ false)
or_none true b none = absurd (let never : true ≡ false = none in cc)
or_none false b none = (refl, none)

-- of two texts neither has a byte that could begin a sequence
neither : (a b : List ℕ) → has_escape (a ++ b) ≡ false → (has_escape a ≡ false) × (has_escape b ≡ false)
neither a b none = or_none (has_escape a) (has_escape b) (sym (list_any-append is_escape a b) ∙ none)

-- a text without one stays
out_plain : (text rest : List ℕ) → has_escape text ≡ false → taken_out false (text ++ rest) ≡ text ++ taken_out false rest
out_plain [] rest none = refl
out_plain (byte ∷ text) rest none =
    let parts = or_none (is_escape byte) (has_escape text) none in
    ap (λ (e : Bool). if e then taken_out true (text ++ rest) else byte ∷ taken_out false (text ++ rest)) parts.0
    ∙ ap (λ (t : List ℕ). byte ∷ t) (out_plain text rest parts.1)

-- a sequence is taken out
out_sequence : (colour : Colour) (rest : List ℕ) → taken_out false (sequence colour ++ rest) ≡ taken_out false rest
out_sequence Red rest = refl
out_sequence Yellow rest = refl

out_reset : (rest : List ℕ) → taken_out false (reset ++ rest) ≡ taken_out false rest
out_reset rest = refl

out_painted : (colour : Option Colour) (text rest : List ℕ) → has_escape text ≡ false
    → taken_out false (painted colour text ++ rest) ≡ text ++ taken_out false rest
out_painted None text rest none = out_plain text rest none
out_painted (Some colour) text rest none =
    let set = sequence colour in
    ap (λ (t : List ℕ). taken_out false t)
    (append_assoc (set ++ text) reset rest ∙ append_assoc set text (reset ++ rest))
    ∙ (out_sequence colour (text ++ (reset ++ rest))
    ∙ (out_plain text (reset ++ rest) none ∙ ap (λ (t : List ℕ). text ++ t) (out_reset rest)))

pub out_pieces : (pieces : List Piece) → has_escape (texts pieces) ≡ false → taken_out false (shown pieces) ≡ texts pieces
out_pieces [] none = refl
out_pieces (p ∷ pieces) none =
    let parts = neither p.text (texts pieces) none in
    out_painted p.colour p.text (shown pieces) parts.0
    ∙ ap (λ (t : List ℕ). p.text ++ t) (out_pieces pieces parts.1)

-- what goes out without its sequences, and what is held
pub text_taken_out : (lines : Lines) (held : Held) (text : List ℕ) → has_escape (held.line ++ text) ≡ false
    → taken_out false (shown (pieces_of lines held text)) ++ (held_after held text).line ≡ held.line ++ text
text_taken_out lines held text none =
    let pieces = pieces_of lines held text in
    let last = (held_after held text).line in
    let same = text_same lines held text in
    let parts = neither (texts pieces) last (ap has_escape same ∙ none) in
    ap (λ (t : List ℕ). t ++ last) (out_pieces pieces parts.0) ∙ same
