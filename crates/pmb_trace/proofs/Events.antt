-- The first event of a line: for `event_in`. Words come one after the other, and an event's fields are
-- the pieces behind its name.
use Rattle.std.proofs.Common.{◌≡◌, List, ℕ, [], ◌∷◌, refl}
use Rattle.pmb_words.specs.Parts.{from_first}
use Rattle.pmb_trace.specs.Line.{event_at, event_in, name_of}

-- empty pieces in front give none
pub from_first_piece : (front : List ℕ) (pieces : List (List ℕ))
    → event_in front pieces ≡ event_in front (from_first pieces)
from_first_piece front [] = refl
from_first_piece front ([] ∷ rest) = from_first_piece front rest
from_first_piece front ((b ∷ word) ∷ rest) = refl

-- a word, and what is behind it
pub at_word : (front : List ℕ) (pieces : List (List ℕ)) (word : List ℕ) (behind : List (List ℕ))
    → from_first pieces ≡ word ∷ behind
    → event_in front (from_first pieces) ≡ event_at front behind (name_of word) (event_in word behind)
at_word front [] word behind is = cc
at_word front ([] ∷ rest) word behind is = at_word front rest word behind is
at_word front ((b ∷ first) ∷ rest) word behind is =
    let same : word ≡ b ∷ first = cc in
    let others : behind ≡ rest = cc in
    rw (same, others) refl
