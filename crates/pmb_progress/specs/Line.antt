-- What the line of progress says.
use Rattle.std.specs.Prelude.{ℕ, ◌+◌, ◌*◌, ◌/◌, ◌%◌, nat_lt, nat_le, max, Option, Some, None, List, [], ◌∷◌, ◌++◌, codes}
use Rattle.std.specs.Prelude.{decimal, if◌then◌else◌}
use Rattle.pmb_bus.specs.Event.{character}

-- a number of tenths
abbrev pub tenths : ℕ → List ℕ
tenths number = decimal (number / 10) ++ codes "." ++ (character "0" + number % 10) ∷ []

-- so many bytes
abbrev pub amount : ℕ → List ℕ
amount bytes =
    if nat_lt bytes 1000000 then decimal (bytes / 1000) ++ codes " kB" else
    if nat_lt bytes 1000000000 then tenths (bytes / 100000) ++ codes " MB" else
    tenths (bytes / 100000000) ++ codes " GB"

-- a part in hundredths
abbrev pub percent : (part whole : ℕ) → ℕ
percent part whole = part * 100 / max whole 1

-- So many bytes of all: in per cent, unless it isn't known how many there are, or more came than that.
abbrev pub share : Option ℕ → ℕ → List ℕ
share None seen = amount seen
share (Some whole) seen = if nat_le seen whole then decimal (percent seen whole) ++ codes "%" else amount seen

-- a speed, from that in bytes a millisecond
abbrev pub speed : ℕ → List ℕ
speed kilobytes =
    if nat_lt kilobytes 1000 then decimal kilobytes ++ codes " kB/s" else
    tenths (kilobytes / 100) ++ codes " MB/s"

-- the packets, where they are counted
abbrev pub packets : Option ℕ → List ℕ
packets None = []
packets (Some count) = codes "  packets " ++ decimal count

-- the line: so many bytes were read of all in so many milliseconds, and so many packets ended in them
abbrev pub progress_line : (whole : Option ℕ) → (seen ms : ℕ) → (count : Option ℕ) → List ℕ
progress_line whole seen ms count =
    codes "pmb: " ++ share whole seen ++ codes "  " ++ speed (seen / max ms 1) ++ packets count
