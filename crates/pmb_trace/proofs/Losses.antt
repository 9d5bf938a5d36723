-- Losses that a line tells at its end: for `last_loss`, which looks at each first letter. The last of
-- them counts.
use Rattle.std.proofs.Common.{◌≡◌, ◌∙◌, ℕ, ◌≤◌, ◌==◌, false, Option, Some, None, List, [], ◌∷◌, codes, length}
use Rattle.std.proofs.Common.{refl, sym, ap, inl, inr, arith}
use Rattle.std.proofs.lemmas.Bool.{ne_eqb}
use Rattle.std.proofs.lemmas.Bool.Decides.{eqb_tells}
use Rattle.pmb_words.specs.Parts.{after, parted}
use Rattle.pmb_trace.specs.Line.{Loss, first_loss, last_loss, lost_by}
use Rattle.pmb_trace.specs.machine.Losses.{last_from, letter, size}

pub none_else : (loss : Option Loss) → first_loss loss None ≡ loss
none_else (Some loss) = refl
none_else None = refl

either_way : (a b c : Option Loss) → first_loss (first_loss a b) c ≡ first_loss a (first_loss b c)
either_way (Some loss) b c = refl
either_way None b c = refl

-- Without its first letter nothing is told.
other_letter : (b : ℕ) (text : List ℕ) → (letter == b) ≡ false → last_loss (b ∷ text) ≡ last_loss text
other_letter b text other = rw other (none_else (last_loss text))

pub from_letter : (text : List ℕ) → last_loss text ≡ last_from (parted letter text).rest
from_letter [] = refl
from_letter (b ∷ text) = elim (eqb_tells b letter) [
  | inl same ↦ rw (same.0, same.1) refl
  | inr other ↦ rw other.0 (other_letter b text (ne_eqb letter b (λ is. other.1 (sym is))) ∙ from_letter text)
]

-- one more of them
pub from_next_letter : (rest : List ℕ) (last : Option Loss)
    → first_loss (last_loss (letter ∷ rest)) last
    ≡ first_loss (last_from (parted letter rest).rest)
    (first_loss (lost_by (after (codes "ERF_RECORD_LOST lost ") rest)) last)
from_next_letter rest last =
    either_way (last_loss rest) (lost_by (after (codes "ERF_RECORD_LOST lost ") rest)) last
    ∙ ap (λ (l : Option Loss). first_loss l (first_loss (lost_by (after (codes "ERF_RECORD_LOST lost ") rest)) last))
    (from_letter rest)

-- less is left behind a letter
pub less : (text : List ℕ) → size (parted letter text).rest ≤ length text
less [] = omega arith
less (b ∷ text) = elim (eqb_tells b letter) [
  | inl same ↦ rw same.0 (omega arith)
  | inr other ↦ rw other.0 (omega (arith, less text))
]
