-- Where the words of a capture's text stand.
use Rattle.std.specs.Prelude.{ℕ, ◌+◌, ◌==◌, ◌&&◌, Bool, true, false, not, if◌then◌else◌, List, [], ◌∷◌, ◌++◌, fold}
use Rattle.pmb_bus.specs.Count.{capped}
use Rattle.pmb_bus.specs.Event.{character}
use Rattle.pmb_bus.specs.Text.{ends_in_comment, in_comment, is_separator, is_word, open_word}
use Rattle.pmb_places.specs.declared.places.Place.{Place}

-- ---- lines and columns

-- the first byte of a text stands in line 1 and column 1
abbrev pub first_place : Place
first_place = record { line = 1; column = 1 }

-- the place of the byte after one that stands there: LF ends a line; both stay at the greatest u64
abbrev pub place_after : Place → ℕ → Place
place_after place b =
    if b == character "\n" then record { line = capped (place.line + 1); column = 1 }
    else record { line = place.line; column = capped (place.column + 1) }

-- the place of what comes after a text
abbrev pub place_behind : List ℕ → Place
place_behind text = fold place_after first_place text

-- ---- words

-- a byte after some text is one of a word: it stands in no comment, and separates no words
abbrev pub is_in_word : List ℕ → ℕ → Bool
is_in_word front b = not (in_comment (ends_in_comment front) b) && not (is_separator b)

-- .. and the first of one
abbrev pub begins_word : List ℕ → ℕ → Bool
begins_word front b = is_in_word front b && not (is_word (open_word front))

abbrev pub place_if : Bool → Place → List Place
place_if true place = place ∷ []
place_if false place = []

-- after some text, the place of the first byte of each word
abbrev pub places_from : List ℕ → List ℕ → List Place
places_from front [] = []
places_from front (b ∷ rest) = place_if (begins_word front b) (place_behind front) ++ places_from (front ++ b ∷ []) rest

-- the place of each word of a text
abbrev pub word_places : List ℕ → List Place
word_places text = places_from [] text

-- after some text, the place after each byte of a word
abbrev pub ends_from : List ℕ → List ℕ → List Place
ends_from front [] = []
ends_from front (b ∷ rest) = place_if (is_in_word front b) (place_behind (front ++ b ∷ []))
    ++ ends_from (front ++ b ∷ []) rest

-- the last one; that of a text's first byte where there is none
abbrev pub last_place : List Place → Place
last_place places = fold (λ before place. place) first_place places

abbrev pub place_of_last_word : List ℕ → Place
place_of_last_word text = last_place (word_places text)

abbrev pub end_of_last_word : List ℕ → Place
end_of_last_word text = last_place (ends_from [] text)
