-- Which signals are SCL and SDA, or why that is not known.
use Rattle.std.specs.Prelude.{ℕ, ◌==◌, ◌-◌, Option, Result, Ok, Err, if◌then◌else◌, List, [], ◌∷◌, ◌++◌, codes}
use Rattle.std.specs.Str.{bytes_eq}
use Rattle.arrayvec.specs.ArrayVec.{ArrayVec}
use Rattle.pmb_wire_names.specs.Signals.{fits_all, gathered, may_be}
use Rattle.pmb_wire_names.specs.declared.found.NamedSignal.{NamedSignal}
use Rattle.pmb_wire_names.specs.declared.names.Wires.{Wires}
use Rattle.pmb_wires.specs.declared.signal.Wire.{Wire}
use Rattle.pmb_wires.specs.declared.signal.Wire.TheVariants.{Scl, Sda}

-- ---- names in a row

-- at most so many more names, and then that there are others
abbrev pub listed_others : List NamedSignal → ℕ → List ℕ
listed_others [] room = []
listed_others (s ∷ signals) room =
    if room == 0 then codes ", .." else codes ", " ++ (s.name.items ++ listed_others signals (room - 1))

-- at most 16 names
abbrev pub listed : List NamedSignal → List ℕ
listed [] = []
listed (s ∷ signals) = s.name.items ++ listed_others signals 15

-- ---- one of several

abbrev pub name_of : Wire → List ℕ
name_of Scl = codes "SCL"
name_of Sda = codes "SDA"

abbrev pub none_of : Wire → List NamedSignal → List ℕ
none_of wire all = name_of wire ++ (codes " is none of " ++ listed all)

abbrev pub several : Wire → List NamedSignal → List ℕ
several wire found = name_of wire ++ (codes " may be " ++ listed found)

-- the ID of a wire, by the signals that it may be, or a reason
abbrev pub Picked : Type 0
Picked = Result (ArrayVec ℕ) (ArrayVec ℕ)

abbrev pub picked : Wire → List NamedSignal → List NamedSignal → Picked
picked wire all [] = Err (record { items = none_of wire all })
picked wire all (s ∷ []) = Ok s.id
picked wire all (s ∷ next ∷ found) = Err (record { items = several wire (s ∷ next ∷ found) })

-- ---- both wires

abbrev pub one_for_both : List ℕ
one_for_both = codes "SCL and SDA are one signal"

abbrev pub both : ArrayVec ℕ → ArrayVec ℕ → Result Wires (ArrayVec ℕ)
both scl sda =
    if bytes_eq scl.items sda.items then Err (record { items = one_for_both }) else
    Ok (record { scl = scl; sda = sda })

abbrev pub by_sda : ArrayVec ℕ → Picked → Result Wires (ArrayVec ℕ)
by_sda scl (Ok sda) = both scl sda
by_sda scl (Err why) = Err why

-- SCL is looked for first
abbrev pub by_both : Picked → Picked → Result Wires (ArrayVec ℕ)
by_both (Ok scl) sda = by_sda scl sda
by_both (Err why) sda = Err why

-- by all signals, and those that each wire may be
abbrev pub choice : List NamedSignal → List NamedSignal → List NamedSignal → Result Wires (ArrayVec ℕ)
choice all scl sda = by_both (picked Scl all scl) (picked Sda all sda)

-- The signals that are SCL and SDA, of the signals of a recording, by the names that are given for them.
abbrev pub chosen : Option (List ℕ) → Option (List ℕ) → List NamedSignal → Result Wires (ArrayVec ℕ)
chosen scl sda signals =
    choice (gathered fits_all [] signals) (may_be Scl scl signals) (may_be Sda sda signals)
