-- What a `Places` keeps of the text that it was given.
use Rattle.std.specs.Prelude.{◌≡◌, ℕ, ◌+◌, ◌==◌, ◌&&◌, not, Bool, true, false, if◌then◌else◌, List}
use Rattle.pmb_bus.specs.Count.{capped}
use Rattle.pmb_bus.specs.Event.{character}
use Rattle.pmb_bus.specs.Text.{ends_in_comment, is_separator, is_word, open_word}
use Rattle.pmb_places.specs.declared.places.TextState.{TextState}
use Rattle.pmb_places.specs.declared.places.TextState.TheVariants.{Between, Word, Comment}
use Rattle.pmb_places.specs.declared.places.Place.{Place}
use Rattle.pmb_places.specs.declared.places.Places.{Places}
use Rattle.pmb_places.specs.Text.{place_after, place_behind, place_of_last_word, end_of_last_word}

abbrev pub is_comment : TextState → Bool
is_comment Between = false
is_comment Word = false
is_comment Comment = true

abbrev pub is_in_a_word : TextState → Bool
is_in_a_word Between = false
is_in_a_word Word = true
is_in_a_word Comment = false

-- what a byte stands in that is in no comment yet
abbrev pub inside_of : ℕ → TextState
inside_of b = if b == character "#" then Comment else (if is_separator b then Between else Word)

abbrev pub inside_behind : TextState → ℕ → TextState
inside_behind Comment b = if b == character "\n" then Between else Comment
inside_behind Between b = inside_of b
inside_behind Word b = inside_of b

-- after one byte more
abbrev pub after_byte : Places → ℕ → Places
after_byte p b =
    let inside = inside_behind p.inside b in
    record {
      here = place_after p.here b;
      word = if is_in_a_word inside && not (is_in_a_word p.inside) then p.here else p.word;
      end = if is_in_a_word inside then place_after p.here b else p.end;
      inside = inside;
    }

-- ---- a short word and a space at once

-- the next place of the same line
abbrev pub place_beside : Place → Place
place_beside place = record { line = place.line; column = capped (place.column + 1) }

-- after a word that begins here and ends there, and a space
abbrev pub behind_word : Places → Place → Places
behind_word p end = record { here = place_beside end; word = p.here; end = end; inside = Between }

-- ---- the rest of a line at once

-- the place so many bytes further along the same line
abbrev pub further_along : Place → ℕ → Place
further_along place n = record { line = place.line; column = capped (place.column + n) }

-- after a word of one byte that stands there, and LF
abbrev pub behind_line : Place → Places
behind_line word = record {
  here = place_after (place_beside word) (character "\n");
  word = word;
  end =
      place_beside word;
  inside = Between;
}

pub record PlacesStandAt (places : Places) (text : List ℕ) : Type 0 where
  pub here : places.here ≡ place_behind text
  pub word : places.word ≡ place_of_last_word text
  pub end : places.end ≡ end_of_last_word text
  pub comment : is_comment places.inside ≡ ends_in_comment text
  pub in_word : is_in_a_word places.inside ≡ is_word (open_word text)
