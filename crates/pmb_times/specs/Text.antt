-- Which time each word of a capture's text has: that of the last time line before it, since the
-- word before. A time line begins at a line's start, so that a comment behind a word is none.
use Rattle.std.specs.Prelude.{ℕ, ◌==◌, Bool, true, false, Option, None, if◌then◌else◌, List, [], ◌∷◌, ◌++◌}
use Rattle.std.specs.Prelude.{fold, slice_index_or}
use Rattle.std.specs.Option.{option_or}
use Rattle.pmb_bus.specs.Event.{character}
use Rattle.pmb_places.specs.Text.{begins_word, is_in_word}
use Rattle.pmb_times.specs.Line.{line_time}

-- ---- the line under way

-- a LF ends a line
abbrev pub line_after : List ℕ → ℕ → List ℕ
line_after line b = if b == character "\n" then [] else line ++ b ∷ []

-- the bytes of a text since its last LF, or all
abbrev pub line_behind : List ℕ → List ℕ
line_behind text = fold line_after [] text

-- ---- the gap under way

-- the time that a byte after some text tells: a LF tells that of its line
abbrev pub told_by : List ℕ → ℕ → Option (List ℕ)
told_by front b = if b == character "\n" then line_time (line_behind front) else None

-- The time of the gap under way after some text and a byte, by that before the byte: a byte of a
-- word begins a new gap, and a time line's LF tells a new time.
abbrev pub time_after : List ℕ → Option (List ℕ) → ℕ → Option (List ℕ)
time_after front time b = if is_in_word front b then None else option_or (told_by front b) time

-- after some text, of which the gap under way has this time
abbrev pub time_from : List ℕ → Option (List ℕ) → List ℕ → Option (List ℕ)
time_from front time [] = time
time_from front time (b ∷ rest) = time_from (front ++ b ∷ []) (time_after front time b) rest

-- the time of the last time line since a text's last word, or since its start
abbrev pub time_behind : List ℕ → Option (List ℕ)
time_behind text = time_from [] None text

-- ---- words

abbrev pub one_if : Bool → Option (List ℕ) → List (Option (List ℕ))
one_if true time = time ∷ []
one_if false time = []

-- after some text, the time of each word: that of the gap before it
abbrev pub times_from : List ℕ → List ℕ → List (Option (List ℕ))
times_from front [] = []
times_from front (b ∷ rest) = one_if (begins_word front b) (time_behind front) ++ times_from (front ++ b ∷ []) rest

-- the time of each word of a text
abbrev pub word_times : List ℕ → List (Option (List ℕ))
word_times text = times_from [] text

-- The time of each gap of a text, of which there is one more than words: before its first word,
-- between each two, and behind the last.
abbrev pub gap_times : List ℕ → List (Option (List ℕ))
gap_times text = word_times text ++ time_behind text ∷ []

-- The time of a gap by its number, which is that of the word behind it, from 0; None where a text
-- has no such gap.
abbrev pub time_at : List ℕ → ℕ → Option (List ℕ)
time_at text k = slice_index_or (gap_times text) k None

-- the time of the last word, also if it has not ended; None where there is no word
abbrev pub time_of_last_word : List ℕ → Option (List ℕ)
time_of_last_word text = fold (λ before time. time) None (word_times text)
