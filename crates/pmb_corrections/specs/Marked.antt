-- A line as it is shown, with a mark under one of its bytes.
use Rattle.std.specs.Prelude.{ℕ, ◌-◌, ◌||◌, if◌then◌else◌, List, [], ◌∷◌, ◌++◌, codes, length, take, drop, min}
use Rattle.std.specs.Prelude.{nat_eq, nat_le, nat_lt, replicate}
use Rattle.std.specs.List.{flat_map}
use Rattle.hex.specs.Hex.{encode_lower}

abbrev pub blank : ℕ
blank = 32

-- A byte as it is shown: a printable character of ASCII as itself, a tab as a blank, and any other by its number.
abbrev pub shown_byte : ℕ → List ℕ
shown_byte byte =
    if nat_eq byte 9 then codes " " else (
    if nat_lt byte 32 || nat_lt 126 byte then codes "\\x" ++ encode_lower (byte ∷ []) else byte ∷ [])

abbrev pub shown : List ℕ → List ℕ
shown bytes = flat_map shown_byte bytes

-- Bytes, and under them a mark where the byte at this offset begins, or behind the last one.
abbrev pub marked : List ℕ → ℕ → List ℕ
marked bytes at = codes "  " ++ (shown bytes
    ++ (codes "\n  " ++ (replicate (length (shown (take (min at (length bytes)) bytes))) blank ++ codes "^ ")))

-- From which byte on a line of a length is shown with such a mark: from its start if it has at most 72 bytes or if the
-- mark is among the first, or else from 48 bytes before the mark.
abbrev pub start_of : ℕ → ℕ → ℕ
start_of count at = if nat_le count 72 || nat_le at 48 then 0 else min at count - 48

-- at most 72 bytes of a line from one on
abbrev pub window : ℕ → List ℕ → List ℕ
window start line = take (min (length (drop start line)) 72) (drop start line)

abbrev pub marked_in_window : List ℕ → ℕ → List ℕ
marked_in_window line at = marked (window (start_of (length line) at) line) (at - start_of (length line) at)
