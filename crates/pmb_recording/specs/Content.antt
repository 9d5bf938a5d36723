-- What a line of an input holds.
use Rattle.std.specs.Prelude.{ℕ, true, false, Bool, Option, Some, None, if◌then◌else◌, nat_lt, List, [], ◌∷◌, length}
use Rattle.pmb_io.specs.Lines as lines
use Rattle.pmb_words.specs.Parts.{after}

-- the most bytes of a line that can be read, and with a byte order mark in front and CR behind
abbrev pub most_content : ℕ
most_content = 65536

abbrev pub most_line : ℕ
most_line = 65540

-- the byte order mark
abbrev pub mark : List ℕ
mark = 0xef ∷ 0xbb ∷ 0xbf ∷ []

-- the first line without the mark, if it begins with it
abbrev pub behind_mark : Option (List ℕ) → List ℕ → List ℕ
behind_mark (Some rest) line = rest
behind_mark None line = line

abbrev pub without_mark : Bool → List ℕ → List ℕ
without_mark true line = behind_mark (after mark line) line
without_mark false line = line

abbrev pub if_short : List ℕ → Option (List ℕ)
if_short line = if nat_lt most_content (length line) then None else Some line

-- nothing stands behind the last LF where only the mark does
abbrev pub if_empty : List ℕ → Option (List ℕ)
if_empty [] = Some []
if_empty (byte ∷ line) = None

-- The bytes of a line, without a mark in the first and CR at the end; none of one that is too long or lacks its LF.
abbrev pub content : Bool → lines.TextLine → Option (List ℕ)
content is_first (lines.Ended line) = if_short (without_mark is_first (lines.without_cr line))
content is_first (lines.Last line) = if_empty (without_mark is_first line)
content is_first lines.TooLong = None
