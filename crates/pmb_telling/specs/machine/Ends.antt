-- Where a word and a line end.
use Rattle.std.specs.Prelude.{◌≡◌, ◌≢◌, ◌⊎◌, ◌≤◌, ℕ, ◌+◌, ◌==◌, ◌||◌, Bool, List, [], ◌∷◌, drop, length, take}
use Rattle.pmb_bus.specs.Event.{character}
use Rattle.pmb_bus.specs.Text.{front_word, is_separator}
use Rattle.pmb_io.specs.Lines.{HasNoLf}

-- whether a byte ends a word: it separates words, or begins a comment
abbrev pub ends_word : ℕ → Bool
ends_word b = is_separator b || b == character "#"

-- No more is told of a word: the next byte ends it, or it has 32 bytes.
abbrev pub IsOver : List ℕ → List ℕ → Type 0
IsOver word at_hand = ((at_hand ≢ []) × (front_word at_hand ≡ [])) ⊎ (32 ≤ length word)

-- So many bytes stand before the first LF.
pub record EndsLine (bytes : List ℕ) (count : ℕ) : Type 0 where
  pub in_line : HasNoLf (take count bytes)
  pub lf : drop count bytes ≡ character "\n" ∷ drop (count + 1) bytes
