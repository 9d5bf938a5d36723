-- What is kept of the signals chooses as all of them do: at most 17 of each sort are looked at.
use Rattle.std.proofs.Common.{◌≡◌, ◌∙◌, ℕ, zero, suc, ◌-◌, ◌≤◌, ◌<◌, ◌==◌, Bool, true, false, List, [], ◌∷◌, ◌++◌}
use Rattle.std.proofs.Common.{length, take, Option, Some, None, option_map, ap, refl, sym, arith, inl, inr, if◌then◌else◌, codes}
use Rattle.std.proofs.lemmas.Bool.{cases_lt}
use Rattle.std.proofs.lemmas.Bool.Decides.{nat_tests}
use Rattle.std.proofs.lemmas.List.{length-append, length-take-le, take-append-le, take_all}
use Rattle.arrayvec.specs.ArrayVec.{ArrayVec}
use Rattle.pmb_wire_names.specs.Choosing.{chosen, listed, listed_others, picked}
use Rattle.pmb_wire_names.specs.Kept.{all_taken, choose, fresh, items_of, kept_if, kept_name, kept_with, most_found, offered, vec_of}
use Rattle.pmb_wire_names.specs.Signals.{added, added_if, first_or, fits_all, fits_first, fits_second, gathered, has_id}
use Rattle.pmb_wire_names.specs.declared.found.NamedSignal.{NamedSignal}
use Rattle.pmb_wire_names.specs.declared.names.Names.{Names}
use Rattle.pmb_wire_names.specs.declared.names.OfWire.{OfWire}
use Rattle.pmb_wires.specs.declared.signal.Wire.{Wire}
use Rattle.pmb_wires.specs.declared.signal.Wire.TheVariants.{Scl, Sda}

-- ---- one more signal

-- as many as are kept
abbrev few : List NamedSignal → List NamedSignal
few found = take most_found found

full_keeps : (found : List NamedSignal) (s : NamedSignal) (b : Bool) → most_found ≤ length found
    → few (if b then found else found ++ s ∷ []) ≡ few found
full_keeps found s true full = refl
full_keeps found s false full = take-append-le most_found found (s ∷ []) full

room_keeps : (found : List NamedSignal) (s : NamedSignal) (b : Bool) → length found < most_found
    → few (if b then found else found ++ s ∷ []) ≡ (if b then found else found ++ s ∷ [])
room_keeps found s true room = take_all most_found found (omega arith)
room_keeps found s false room =
    take_all most_found (found ++ s ∷ []) (omega (arith, length-append found (s ∷ [])))

same_count : (n : ℕ) → n ≡ most_found → (n == most_found) ≡ true
same_count n is = grind (arith, nat_tests)

fewer_count : (n : ℕ) → n < most_found → (n == most_found) ≡ false
fewer_count n is = grind (arith, nat_tests)

kept_full : (found : List NamedSignal) (s : NamedSignal) → most_found ≤ length found
    → kept_with (few found) s ≡ few (added found s)
kept_full found s full =
    let count : (length (few found) == most_found) ≡ true =
    same_count (length (few found)) (length-take-le most_found found full) in
    let stays : kept_with (few found) s ≡ few found = rw count refl in
    stays ∙ sym (full_keeps found s (has_id s.id.items found) full)

kept_room : (found : List NamedSignal) (s : NamedSignal) → length found < most_found
    → kept_with (few found) s ≡ few (added found s)
kept_room found s room =
    let all : few found ≡ found = take_all most_found found (omega arith) in
    let count : (length found == most_found) ≡ false = fewer_count (length found) room in
    let grows : kept_with found s ≡ added found s = rw count refl in
    ap (λ (f : List NamedSignal). kept_with f s) all ∙ grows ∙ sym (room_keeps found s (has_id s.id.items found) room)

kept_one : (found : List NamedSignal) (s : NamedSignal) → kept_with (few found) s ≡ few (added found s)
kept_one found s = elim (cases_lt (length found) most_found) [
  | inl room ↦ kept_room found s room
  | inr full ↦ kept_full found s full
]

abbrev vec : List NamedSignal → ArrayVec NamedSignal
vec found = record { items = few found }

kept_one_if : (fits : Bool) (found : List NamedSignal) (s : NamedSignal)
    → kept_if fits (vec found) s ≡ vec (added_if fits found s)
kept_one_if true found s = ap (λ (f : List NamedSignal). record { items = f }) (kept_one found s)
kept_one_if false found s = refl

-- ---- what is kept behind some signals

abbrev wire_at : Wire → Option (List ℕ) → List NamedSignal → List NamedSignal → OfWire
wire_at wire wanted first second = record {
  wire = wire;
  wanted = option_map vec_of wanted;
  first = vec first;
  second = vec second;
}

wanted_same : (wanted : Option (List ℕ)) → option_map items_of (option_map vec_of wanted) ≡ wanted
wanted_same (Some name) = refl
wanted_same None = refl

offered_at : (wire : Wire) (wanted : Option (List ℕ)) (first second : List NamedSignal) (s : NamedSignal)
    → offered (wire_at wire wanted first second) s
    ≡ wire_at wire wanted (added_if (fits_first wire wanted s.name.items) first s)
    (added_if (fits_second wire wanted s.name.items) second s)
offered_at wire wanted first second s =
    rw (wanted_same wanted)
    (let one = kept_one_if (fits_first wire wanted s.name.items) first s in
    let other = kept_one_if (fits_second wire wanted s.name.items) second s in
    ap (λ (f : ArrayVec NamedSignal). record {
      wire = wire;
      wanted = option_map vec_of wanted;
      first = f;
      second = kept_if (fits_second wire wanted s.name.items) (vec second) s;
    }) one
    ∙ ap (λ (f : ArrayVec NamedSignal). record {
      wire = wire;
      wanted = option_map vec_of wanted;
      first = vec (added_if (fits_first wire wanted s.name.items) first s);
      second = f;
    }) other)

abbrev names_at : List NamedSignal → OfWire → OfWire → Names
names_at all scl sda = record { all = vec all; scl = scl; sda = sda }

all_at : (scl sda : Option (List ℕ)) (all s1 s2 d1 d2 signals : List NamedSignal)
    → all_taken (names_at all (wire_at Scl scl s1 s2) (wire_at Sda sda d1 d2)) signals
    ≡ names_at (gathered fits_all all signals)
    (wire_at Scl scl (gathered (fits_first Scl scl) s1 signals) (gathered (fits_second Scl scl) s2 signals))
    (wire_at Sda sda (gathered (fits_first Sda sda) d1 signals) (gathered (fits_second Sda sda) d2 signals))
all_at scl sda all s1 s2 d1 d2 [] = refl
all_at scl sda all s1 s2 d1 d2 (s ∷ signals) =
    ap (λ (f : List NamedSignal). all_taken (record {
      all = record { items = f };
      scl = offered (wire_at Scl scl s1 s2) s;
      sda = offered (wire_at Sda sda d1 d2) s;
    }) signals) (kept_one all s)
    ∙ ap (λ (w : OfWire). all_taken (names_at (added all s) w (offered (wire_at Sda sda d1 d2) s)) signals)
    (offered_at Scl scl s1 s2 s)
    ∙ ap (λ (w : OfWire). all_taken (names_at (added all s)
    (wire_at Scl scl (added_if (fits_first Scl scl s.name.items) s1 s) (added_if (fits_second Scl scl s.name.items) s2 s))
    w) signals) (offered_at Sda sda d1 d2 s)
    ∙ all_at scl sda (added all s) (added_if (fits_first Scl scl s.name.items) s1 s)
    (added_if (fits_second Scl scl s.name.items) s2 s) (added_if (fits_first Sda sda s.name.items) d1 s)
    (added_if (fits_second Sda sda s.name.items) d2 s) signals

-- ---- what is chosen of it

none_left : (n : ℕ) → (suc n == 0) ≡ false
none_left n = grind (arith, nat_tests)

others_few : (signals : List NamedSignal) (room : ℕ) → listed_others (take (suc room) signals) room ≡ listed_others signals room
others_few [] room = refl
others_few (s ∷ signals) zero = refl
others_few (s ∷ signals) (suc room) =
    let less : suc room - 1 ≡ room = omega arith in
    rw (none_left room, less) (ap (λ (t : List ℕ). codes ", " ++ (s.name.items ++ t)) (others_few signals room))

listed_few : (signals : List NamedSignal) → listed (few signals) ≡ listed signals
listed_few [] = refl
listed_few (s ∷ signals) = ap (λ (t : List ℕ). s.name.items ++ t) (others_few signals 15)

first_few : (first second : List NamedSignal) → first_or (few first) (few second) ≡ few (first_or first second)
first_few [] second = refl
first_few (s ∷ first) second = refl

picked_few : (wire : Wire) (all found : List NamedSignal) → picked wire (few all) (few found) ≡ picked wire all found
picked_few wire all [] = rw (listed_few all) refl
picked_few wire all (s ∷ []) = refl
picked_few wire all (s ∷ next ∷ found) = rw (listed_few (s ∷ next ∷ found)) refl

choice_few : (scl sda : Option (List ℕ)) (all s1 s2 d1 d2 : List NamedSignal)
    → choose (names_at all (wire_at Scl scl s1 s2) (wire_at Sda sda d1 d2))
    ≡ choose (record {
      all = record { items = all };
      scl = record { wire = Scl; wanted = option_map vec_of scl; first = record { items = s1 }; second = record { items = s2 } };
      sda = record { wire = Sda; wanted = option_map vec_of sda; first = record { items = d1 }; second = record { items = d2 } };
    })
choice_few scl sda all s1 s2 d1 d2 =
    rw (first_few s1 s2, first_few d1 d2, picked_few Scl all (first_or s1 s2), picked_few Sda all (first_or d1 d2)) refl

pub chooses : (scl sda : Option (List ℕ)) (signals : List NamedSignal)
    → choose (all_taken (fresh scl sda) signals) ≡ chosen (option_map kept_name scl) (option_map kept_name sda) signals
chooses scl sda signals =
    ap choose (all_at (option_map kept_name scl) (option_map kept_name sda) [] [] [] [] [] signals)
    ∙ choice_few (option_map kept_name scl) (option_map kept_name sda) (gathered fits_all [] signals)
    (gathered (fits_first Scl (option_map kept_name scl)) [] signals)
    (gathered (fits_second Scl (option_map kept_name scl)) [] signals)
    (gathered (fits_first Sda (option_map kept_name sda)) [] signals)
    (gathered (fits_second Sda (option_map kept_name sda)) [] signals)
