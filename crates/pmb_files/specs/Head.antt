-- The head of an input whose profile has a file of its own: the profile's text, and a line `%%`.
use Rattle.std.specs.Prelude.{◌≡◌, ◌≤◌, ◌+◌, ◌==◌, ℕ, true, List, ◌++◌, codes, count_by, length}
use Rattle.pmb_preamble.specs.Front.{FirstMark, IsFront, NoMark, most_profile}
use Rattle.pmb_files.specs.Joined.{line_end, starts_after}

-- the text with an LF at its end, where it has a last line without one
abbrev pub with_line_end : List ℕ → List ℕ
with_line_end bytes = bytes ++ line_end (starts_after true bytes)

-- what comes before the capture
abbrev pub head_of : List ℕ → List ℕ
head_of bytes = with_line_end bytes ++ codes "%%\n"

-- the number of the line that comes after a text of whole lines, from 1 on
abbrev pub line_after : List ℕ → ℕ
line_after bytes = 1 + count_by (λ byte. byte == 10) bytes

-- no profile within the limit is a front of the text
abbrev pub IsTooLong : List ℕ → Type 0
IsTooLong text = (profile rest : List ℕ) → IsFront text profile rest → length profile ≤ most_profile → ⊥

-- its first line `%%` has this number
pub record HasMarkAt (text : List ℕ) (line : ℕ) : Type 0 where
  pub before : List ℕ
  pub after : List ℕ
  pub first : FirstMark text before after
  pub number : line ≡ line_after before

-- it has none, and is within the limit
pub record IsWhole (text : List ℕ) : Type 0 where
  pub none : NoMark text
  pub within : length text ≤ most_profile
