-- The lines of a text.
use Rattle.std.specs.Prelude.{◌≡◌, ◌≢◌, ℕ, ◌==◌, nat_lt, if◌then◌else◌, List, [], ◌∷◌, ◌++◌, codes, length, map}
use Rattle.std.specs.Prelude.{slice_index}
use Rattle.std.specs.Borrow.{RattleType}
use Rattle.std.specs.List.{flat_map}
use Rattle.std.specs.Mem.{FitsInMemory}
use Rattle.pmb_io.specs.contracts.lines.Lines.{the_row}
use Rattle.pmb_io.specs.declared.input_line.InputLine.{InputLine}
use Rattle.pmb_io.specs.declared.input_line.InputLine.TheVariants as lines

-- A line, by what is said of it: what stands before an LF; what follows the last LF; or nothing, where it is too long.
pub data TextLine : Type 0 where
  Ended : List ℕ → TextLine
  Last : List ℕ → TextLine
  TooLong : TextLine

-- what a call is given as a line
abbrev pub line_text : InputLine → TextLine
line_text (lines.Ended text) = Ended text.now
line_text (lines.Last text) = Last text.now
line_text lines.TooLong = TooLong

-- ---- a text cut at its LFs

abbrev pub line_feed : ℕ
line_feed = slice_index (codes "\n") 0

-- what stands before each LF in turn, and what follows the last
pub record Cut : Type 0 where
  pub ended : List (List ℕ)
  pub rest : List ℕ

-- with one byte more in front, which is no LF
abbrev pub longer : ℕ → List (List ℕ) → List ℕ → Cut
longer byte [] rest = record { ended = []; rest = byte ∷ rest }
longer byte (line ∷ lines) rest = record { ended = (byte ∷ line) ∷ lines; rest = rest }

unfoldable pub cut : List ℕ → Cut
cut [] = record { ended = []; rest = [] }
cut (byte ∷ bytes) =
    if byte == line_feed then record { ended = [] ∷ (cut bytes).ended; rest = (cut bytes).rest } else
    longer byte (cut bytes).ended (cut bytes).rest

-- no LF in it
abbrev pub HasNoLf : List ℕ → Type 0
HasNoLf [] = Unit {0}
HasNoLf (byte ∷ line) = (byte ≢ line_feed) × HasNoLf line

abbrev pub HaveNoLf : List (List ℕ) → Type 0
HaveNoLf [] = Unit {0}
HaveNoLf (line ∷ lines) = HasNoLf line × HaveNoLf lines

-- the lines, each with its LF, and the rest make the text, and none of them has another LF
pub record IsCut (bytes : List ℕ) (parts : Cut) : Type 0 where
  pub whole : flat_map (λ line. line ++ codes "\n") parts.ended ++ parts.rest ≡ bytes
  pub lines : HaveNoLf parts.ended
  pub rest : HasNoLf parts.rest

-- ---- a line

abbrev pub carriage_return : ℕ
carriage_return = slice_index (codes "\r") 0

-- without the one CR at its end, if it has one
unfoldable pub without_cr : List ℕ → List ℕ
without_cr [] = []
without_cr (byte ∷ []) = if byte == carriage_return then [] else byte ∷ []
without_cr (byte ∷ next ∷ line) = byte ∷ without_cr (next ∷ line)

-- ---- its lines, of which each has so many bytes at most

-- A CR at the end of a line counts in its length.
abbrev pub ended_line : ℕ → List ℕ → TextLine
ended_line most line = if nat_lt most (length line) then TooLong else Ended line

abbrev pub last_line : ℕ → List ℕ → TextLine
last_line most line = if nat_lt most (length line) then TooLong else Last line

-- what follows the last LF is a line where it is not empty
abbrev pub last_lines : ℕ → List ℕ → List TextLine
last_lines most [] = []
last_lines most (byte ∷ rest) = last_line most (byte ∷ rest) ∷ []

-- the lines that have ended in a text
abbrev pub ended_lines : ℕ → List ℕ → List TextLine
ended_lines most bytes = map (ended_line most) (cut bytes).ended

-- the lines of a whole text
abbrev pub lines_of : ℕ → List ℕ → List TextLine
lines_of most bytes = ended_lines most bytes ++ last_lines most (cut bytes).rest

-- the lines of a text begin with some
abbrev pub LinesGoOn : List TextLine → List TextLine → Type 0
LinesGoOn front all = (others : List TextLine) × (all ≡ front ++ others)

-- ---- the lines of an input

-- A task and a line under way have room in memory, as each type has of which there is a value.
abbrev pub LinesFit : (T MOST : RattleType) → Type 0
LinesFit T MOST = FitsInMemory (the_row T MOST)
