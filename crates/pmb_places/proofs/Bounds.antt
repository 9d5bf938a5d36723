-- Lines and columns are numbers from 1 on, of 64 bits: for `Places::take_line` and the law
-- `places_are_in_range`. The first place is, a byte leads from one to the next that is, and
-- counting stays at the greatest.
use Rattle.std.proofs.Common.{ℕ, ◌==◌, Bool, true, false, cond, List, [], ◌∷◌, ◌++◌, fold, arith}
use Rattle.std.specs.List.{AllByRecursion}
use Rattle.pmb_bus.specs.Event.{character}
use Rattle.pmb_places.specs.Bounds.{IsInRange}
use Rattle.pmb_places.specs.declared.places.Place.{Place}
use Rattle.pmb_places.specs.Text.{begins_word, end_of_last_word, ends_from, first_place, is_in_word, last_place}
use Rattle.pmb_places.specs.Text.{place_after, place_behind, place_if, place_of_last_word, places_from, word_places}

abbrev AreInRange : List Place → Type 0
AreInRange places = AllByRecursion IsInRange places

first_in_range : IsInRange first_place
first_in_range = record { some_line = omega arith; line = omega arith; some_column = omega arith; column = omega arith }

-- ---- after a text

of_either : (b : Bool) (x y : Place) → IsInRange x → IsInRange y → IsInRange (cond b x y)
of_either true x y one other = one
of_either false x y one other = other

after_in_range : (place : Place) (b : ℕ) → IsInRange place → IsInRange (place_after place b)
after_in_range place b is =
    of_either (b == character "\n") _ _
    (record {
      some_line = omega (arith, is.some_line);
      line = omega arith;
      some_column = omega arith;
      column =
          omega arith;
    })
    (record {
      some_line = is.some_line;
      line = is.line;
      some_column = omega (arith, is.some_column);
      column =
          omega arith;
    })

from_there : (place : Place) (text : List ℕ) → IsInRange place → IsInRange (fold place_after place text)
from_there place [] is = is
from_there place (b ∷ text) is = from_there (place_after place b) text (after_in_range place b is)

pub behind_in_range : (text : List ℕ) → IsInRange (place_behind text)
behind_in_range text = from_there first_place text first_in_range

-- ---- words

with_one : (b : Bool) (place : Place) (places : List Place) → IsInRange place → AreInRange places
    → AreInRange (place_if b place ++ places)
with_one true place places one others = (one, others)
with_one false place places one others = others

pub places_in_range : (front text : List ℕ) → AreInRange (places_from front text)
places_in_range front [] = tt
places_in_range front (b ∷ text) =
    with_one (begins_word front b) (place_behind front) (places_from (front ++ b ∷ []) text) (behind_in_range front)
    (places_in_range (front ++ b ∷ []) text)

ends_in_range : (front text : List ℕ) → AreInRange (ends_from front text)
ends_in_range front [] = tt
ends_in_range front (b ∷ text) =
    with_one (is_in_word front b) (place_behind (front ++ b ∷ [])) (ends_from (front ++ b ∷ []) text)
    (behind_in_range (front ++ b ∷ [])) (ends_in_range (front ++ b ∷ []) text)

-- ---- the last one

last_from : (before : Place) (places : List Place) → IsInRange before → AreInRange places
    → IsInRange (fold (λ b place. place) before places)
last_from before [] is are = is
last_from before (place ∷ places) is are = last_from place places are.0 are.1

last_in_range : (places : List Place) → AreInRange places → IsInRange (last_place places)
last_in_range places are = last_from first_place places first_in_range are

pub last_word_in_range : (text : List ℕ) → IsInRange (place_of_last_word text)
last_word_in_range text = last_in_range (word_places text) (places_in_range [] text)

pub last_end_in_range : (text : List ℕ) → IsInRange (end_of_last_word text)
last_end_in_range text = last_in_range (ends_from [] text) (ends_in_range [] text)
