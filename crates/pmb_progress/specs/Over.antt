-- A line in the place of the one before it.
use Rattle.std.specs.Prelude.{ℕ, ◌-◌, List, [], ◌++◌, codes, length, replicate}
use Rattle.pmb_bus.specs.Event.{character}

-- so many blanks
abbrev pub blanks : ℕ → List ℕ
blanks count = replicate count (character " ")

-- A line over one of so many columns: CR, the line, and blanks over what is left of the other.
abbrev pub written_over : (columns : ℕ) → List ℕ → List ℕ
written_over columns line = codes "\r" ++ line ++ blanks (columns - length line)

-- nothing over a line of so many columns, and the next text begins in its place
abbrev pub wiped : ℕ → List ℕ
wiped columns = written_over columns [] ++ codes "\r"
