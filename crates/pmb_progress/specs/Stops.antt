-- How many packets end in a text: how often the word `P` stands in it, comments left out.
use Rattle.std.specs.Prelude.{ℕ, ◌+◌, ◌==◌, ◌||◌, Bool, false, if◌then◌else◌, List, [], ◌∷◌}
use Rattle.pmb_bus.specs.Event.{character}
use Rattle.pmb_bus.specs.Text.{is_separator}
use Rattle.pmb_progress.specs.declared.place.Place.{Place}
use Rattle.pmb_progress.specs.declared.place.Place.TheVariants.{Between, Stop, Inside, Comment}

-- where the text is after a byte of a line
abbrev pub place_in_line : Place → ℕ → Place
place_in_line Comment byte = Comment
place_in_line Between byte =
    if byte == character "#" then Comment else
    if is_separator byte then Between else
    if byte == character "P" then Stop else
    Inside
place_in_line Stop byte = if byte == character "#" then Comment else if is_separator byte then Between else Inside
place_in_line Inside byte = if byte == character "#" then Comment else if is_separator byte then Between else Inside

-- where it is after any byte: an LF ends a comment
abbrev pub place_after : Place → ℕ → Place
place_after place byte = if byte == character "\n" then Between else place_in_line place byte

-- whether the word `P` ends before a byte
abbrev pub ends_stop : Place → ℕ → Bool
ends_stop Stop byte = is_separator byte || byte == character "#"
ends_stop Between byte = false
ends_stop Inside byte = false
ends_stop Comment byte = false

abbrev pub ended : Place → ℕ → ℕ
ended place byte = if ends_stop place byte then 1 else 0

-- how often the word `P` ends in a text, after what came before it
abbrev pub stops : Place → List ℕ → ℕ
stops place [] = 0
stops place (byte ∷ text) = ended place byte + stops (place_after place byte) text

-- where a text ends
abbrev pub place_behind : Place → List ℕ → Place
place_behind place [] = place
place_behind place (byte ∷ text) = place_behind (place_after place byte) text
