-- What the search for a line `%%` knows of the text so far.
use Rattle.std.specs.Prelude.{ℕ, ◌≤◌, List, [], ◌++◌, length, take, drop, codes}
use Rattle.pmb_preamble.specs.Front.{HasMark}

-- no line `%%` ends within this many bytes
abbrev pub NoneEndsWithin : List ℕ → ℕ → Type 0
NoneEndsWithin text count = (before line after : List ℕ) → HasMark text before line after
    → length (before ++ line) ≤ count → ⊥

-- with an LF after it, a text ends in a line `%%` that starts here
abbrev pub EndsInMark : List ℕ → ℕ → Type 0
EndsInMark text start = HasMark (text ++ codes "\n") (take start text) (drop start text ++ codes "\n") []
