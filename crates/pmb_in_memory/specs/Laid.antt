-- A text in a room.
use Rattle.std.specs.Prelude.{ℕ, List, ◌++◌, take, drop, length}

-- A text goes to the start of a room as far as it fits, and what stands after it stays.
abbrev pub laid : List ℕ → List ℕ → List ℕ
laid text room = take (length room) text ++ drop (length text) room
