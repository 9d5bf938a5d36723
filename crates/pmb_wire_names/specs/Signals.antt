-- The signals of a recording that a wire may be. Signals of one ID are one, by the first name that fits.
use Rattle.std.specs.Prelude.{ℕ, ◌||◌, true, false, Bool, Option, Some, None, if◌then◌else◌, List, [], ◌∷◌, ◌++◌, codes}
use Rattle.std.specs.Str.{bytes_eq}
use Rattle.pmb_wire_names.specs.Matching.{has_word, is_named, is_word, last_part}
use Rattle.pmb_wire_names.specs.declared.found.NamedSignal.{NamedSignal}
use Rattle.pmb_wires.specs.declared.signal.Wire.{Wire}
use Rattle.pmb_wires.specs.declared.signal.Wire.TheVariants.{Scl, Sda}

-- ---- IDs

abbrev pub has_id : List ℕ → List NamedSignal → Bool
has_id id [] = false
has_id id (s ∷ found) = bytes_eq s.id.items id || has_id id found

-- one more signal
abbrev pub added : List NamedSignal → NamedSignal → List NamedSignal
added found s = if has_id s.id.items found then found else found ++ s ∷ []

abbrev pub added_if : Bool → List NamedSignal → NamedSignal → List NamedSignal
added_if fits found s = if fits then added found s else found

-- behind some signals, those of others whose names fit
abbrev pub gathered : (List ℕ → Bool) → List NamedSignal → List NamedSignal → List NamedSignal
gathered fits found [] = found
gathered fits found (s ∷ signals) = gathered fits (added_if (fits s.name.items) found s) signals

-- ---- the names of a wire

abbrev pub word_of : Wire → List ℕ
word_of Scl = codes "scl"
word_of Sda = codes "sda"

-- the name that is given; without one, a last part that is the wire's word
abbrev pub fits_first : Wire → Option (List ℕ) → List ℕ → Bool
fits_first wire (Some wanted) name = is_named wanted name
fits_first wire None name = is_word (word_of wire) (last_part name)

-- where there is no such signal and no name is given, a last part that contains it
abbrev pub fits_second : Wire → Option (List ℕ) → List ℕ → Bool
fits_second wire (Some wanted) name = false
fits_second wire None name = has_word (word_of wire) (last_part name)

abbrev pub fits_all : List ℕ → Bool
fits_all name = true

abbrev pub first_or : List NamedSignal → List NamedSignal → List NamedSignal
first_or [] second = second
first_or (s ∷ first) second = s ∷ first

-- the signals that a wire may be
abbrev pub may_be : Wire → Option (List ℕ) → List NamedSignal → List NamedSignal
may_be wire wanted signals =
    first_or (gathered (fits_first wire wanted) [] signals) (gathered (fits_second wire wanted) [] signals)
