-- A change, and a search, among the registers of one code alone: for `bytes_in`, `change_in`,
-- `clear_in_each`, `Registers::change` and `Registers::clear_faults`. The place of a code cuts the
-- list of registers in three; the parts before and after have other codes, which the change
-- leaves alone, and the search passes over.
use Rattle.std.proofs.Common.{◌≡◌, ℕ, ◌+◌, ◌-◌, ◌≤◌, Bool, true, false, ◌&&◌, cond, Option, Some, None, List, [], ◌∷◌}
use Rattle.std.proofs.Common.{◌++◌, length, map, take, drop, get_or, nat_eq, option_map, refl, sym, ap, ◌∙◌, subst}
use Rattle.std.proofs.Common.{arith}
use Rattle.std.specs.List.{find}
use Rattle.std.specs.Option.{option_or}
use Rattle.std.proofs.lemmas.List.Folds.{find-append}
use Rattle.std.proofs.lemmas.Bool.{ne_eqb}
use Rattle.std.proofs.lemmas.List.{map-append, take-append-drop, take-map, drop-map, length-map, drop-drop}
use Rattle.std.proofs.lemmas.List.{with_items_is}
use Rattle.std.specs.Vec.{vec_capacity, with_items}
use Rattle.std.specs.Global.{Vec}
use borrow.Rule.Slice.PartMut.{put_mid}
use Rattle.pmb_registers.specs.declared.register.Register.{Register}
use Rattle.pmb_registers.specs.declared.register_range.RegisterRange.{RegisterRange}
use Rattle.pmb_registers.specs.State.{RegisterData, held, is_of_page}
use Rattle.pmb_registers.specs.Apply.{changed, changed_one, reaches}
use Rattle.pmb_registers.specs.machine.Registers.{register_data}
use Rattle.pmb_registers.specs.machine.Places.{NoneHas, IsPlaceOf, ArePlaces}

-- ---- a change keeps codes

code_kept : (test : Bool) (r after : RegisterData) → after.code ≡ r.code → (cond test after r).code ≡ r.code
code_kept true r after same = same
code_kept false r after same = refl

module _ (selected : ℕ) (codes : ℕ → Bool) (change : List ℕ → List ℕ) where
  none_has_after : (code : ℕ) (rs : List RegisterData) → NoneHas code rs
      → NoneHas code (changed selected codes change rs)
  none_has_after code [] none = tt
  none_has_after code (r ∷ rs) (other, none) =
      let same : (changed_one selected codes change r).code ≡ r.code =
      code_kept (codes r.code && reaches selected r.page) r (record r { bytes = change r.bytes }) refl in
      ((λ is. other (is ∙ same)), none_has_after code rs none)

  place_after : (code : ℕ) (place : RegisterRange) (rs : List RegisterData) → IsPlaceOf code place rs
      → IsPlaceOf code place (changed selected codes change rs)
  place_after code place rs is = record {
    ordered = is.ordered;
    within = rw length-map is.within;
    front = rw take-map (none_has_after code (take place.start rs) is.front);
    back = rw drop-map (none_has_after code (drop place.end rs) is.back);
  }

  -- so the places stay
  pub places_after : (places : List RegisterRange) (rs : List RegisterData) → ArePlaces places rs
      → ArePlaces places (changed selected codes change rs)
  places_after places rs are = λ code d small. place_after code (get_or places code d) rs (are code d small)

  -- a change through the slice of a `Vec`
  pub places_written : (places : List RegisterRange) (v : Vec Register) (lent after : List Register) → lent ≡ v.items
      → length after ≡ length lent → length lent ≡ v.len
      → map register_data after ≡ changed selected codes change (map register_data lent)
      → ArePlaces places (map register_data v.items) → ArePlaces places (map register_data (with_items v after).items)
  places_written places v lent after read kept lent_length done are =
      let written : (with_items v after).items ≡ after = with_items_is v after (kept ∙ lent_length) in
      let same : map register_data (with_items v after).items
      ≡ changed selected codes change (map register_data v.items) =
      ap (map register_data) written ∙ done ∙ ap
      (λ (items : List Register). changed selected codes change (map register_data items)) read in
      subst (ArePlaces places) (sym same) (places_after places (map register_data v.items) are)

-- and there is memory for as many registers as before
pub exact_written : (v : Vec Register) (after : List Register) → vec_capacity v ≡ length v.items
    → vec_capacity (with_items v after) ≡ length (with_items v after).items
exact_written v after exact = exact ∙ sym v.ok.0 ∙ (with_items v after).ok.0

-- ---- parts of a list

-- a list in three parts
module _ {X : Type 0} (from to : ℕ) (xs : List X) where
  behind_is : from ≤ to → drop (to - from) (drop from xs) ≡ drop to xs
  behind_is ordered = let whole : from + (to - from) ≡ to = omega arith in
      drop-drop (to - from) from xs ∙ ap (λ (n : ℕ). drop n xs) whole

  three_parts : from ≤ to → xs ≡ take from xs ++ (take (to - from) (drop from xs) ++ drop to xs)
  three_parts ordered =
      sym (take-append-drop from xs)
      ∙ ap (λ (ys : List X). take from xs ++ ys)
      (sym (take-append-drop (to - from) (drop from xs)) ∙ ap (λ (ys : List X). take (to - from) (drop from xs) ++ ys)
      (behind_is ordered))

map_parts : {X Y : Type 0} (f : X → Y) (xs ys zs : List X) → map f (xs ++ (ys ++ zs)) ≡ map f xs
    ++ (map f ys ++ map f zs)
map_parts f xs ys zs = simp map-append

-- ---- registers of other codes

module _ (code : ℕ) (place : RegisterRange) (rs : List Register)
    (is : IsPlaceOf code place (map register_data rs)) where
  abbrev in_place : List Register
  in_place = take (place.end - place.start) (drop place.start rs)

  none_in_front : NoneHas code (map register_data (take place.start rs))
  none_in_front = subst (NoneHas code) (take-map register_data place.start rs) is.front

  none_behind : NoneHas code (map register_data (drop place.end rs))
  none_behind = subst (NoneHas code) (drop-map register_data place.end rs) is.back

  parts_are : map register_data rs ≡ map register_data (take place.start rs)
      ++ (map register_data in_place ++ map register_data (drop place.end rs))
  parts_are =
      ap (map register_data) (three_parts place.start place.end rs is.ordered)
      ∙ map_parts register_data (take place.start rs) in_place (drop place.end rs)

module _ (code selected : ℕ) (change : List ℕ → List ℕ) where
  others_stay : (rs : List RegisterData) → NoneHas code rs → changed selected (nat_eq code) change rs ≡ rs
  others_stay [] none = refl
  others_stay (r ∷ rs) (other, none) =
      let apart : nat_eq code r.code ≡ false = ne_eqb code r.code other in
      let here : changed_one selected (nat_eq code) change r ≡ r = rw apart refl in
      let behind : changed selected (nat_eq code) change rs ≡ rs = others_stay rs none in
      cc

  -- a change in the place is a change of all registers
  pub changed_in_place : (place : RegisterRange) (rs ys : List Register) → IsPlaceOf code place (map register_data rs)
      → map register_data ys ≡ changed selected (nat_eq code) change
      (map register_data (take (place.end - place.start) (drop place.start rs)))
      → map register_data (put_mid place.start (place.end - place.start) rs ys) ≡ changed selected (nat_eq code) change
      (map register_data rs)
  -- the three parts
  changed_in_place place rs ys is done =
      let front = take place.start rs in
      let mid = take (place.end - place.start) (drop place.start rs) in
      let back = drop place.end rs in
      -- what is written: the part in the middle is new
      let written : map register_data (put_mid place.start (place.end - place.start) rs ys) ≡ map register_data front
      ++ (map register_data ys ++ map register_data (drop (place.end - place.start) (drop place.start rs))) =
      map_parts register_data front ys (drop (place.end - place.start) (drop place.start rs)) in
      let same_back : drop (place.end - place.start) (drop place.start rs) ≡ back =
      behind_is place.start place.end rs is.ordered in
      -- the parts before and after have other codes, so a change of all registers leaves them
      let front_stays : changed selected (nat_eq code) change (map register_data front) ≡ map register_data front =
      others_stay (map register_data front) (none_in_front code place rs is) in
      let back_stays : changed selected (nat_eq code) change (map register_data back) ≡ map register_data back =
      others_stay (map register_data back) (none_behind code place rs is) in
      -- that change, part by part
      let all : changed selected (nat_eq code) change
      (map register_data front ++ (map register_data mid ++ map register_data back))
      ≡ changed selected (nat_eq code) change (map register_data front)
      ++ (changed selected (nat_eq code) change (map register_data mid) ++ changed selected (nat_eq code) change
      (map register_data back)) = map_parts (changed_one selected (nat_eq code) change) (map register_data front)
      (map register_data mid) (map register_data back) in
      let whole = ap (changed selected (nat_eq code) change) (parts_are code place rs is) in
      written
      ∙ ap (λ (rest : List Register). map register_data front ++ (map register_data ys ++ map register_data rest))
      same_back
      ∙ ap (λ (part : List RegisterData). map register_data front ++ (part ++ map register_data back)) done
      ∙ ap (λ (part : List RegisterData). part
      ++ (changed selected (nat_eq code) change (map register_data mid) ++ map register_data back)) (sym front_stays)
      ∙ ap (λ (part : List RegisterData). changed selected (nat_eq code) change (map register_data front)
      ++ (changed selected (nat_eq code) change (map register_data mid) ++ part)) (sym back_stays)
      ∙ sym all ∙ sym whole

module _ (page code : ℕ) where
  abbrev is_it : RegisterData → Bool
  is_it r = nat_eq r.code code && is_of_page page r.page

  none_found : (rs : List RegisterData) → NoneHas code rs → find is_it rs ≡ None
  none_found [] none = refl
  none_found (r ∷ rs) (other, none) =
      let apart : nat_eq r.code code ≡ false = ne_eqb r.code code (λ is. other (sym is)) in
      rw apart (none_found rs none)

  or_none : (found : Option RegisterData) → option_or found None ≡ found
  or_none None = refl
  or_none (Some r) = refl

  -- what is found in the place is found among all registers
  pub held_in_place : (place : RegisterRange) (rs : List Register) → IsPlaceOf code place (map register_data rs)
      → held page code (map register_data (take (place.end - place.start) (drop place.start rs)))
      ≡ held page code (map register_data rs)
  held_in_place place rs is =
      let front = map register_data (take place.start rs) in
      let mid = map register_data (take (place.end - place.start) (drop place.start rs)) in
      let back = map register_data (drop place.end rs) in
      let first : find is_it (front ++ (mid ++ back)) ≡ option_or (find is_it front) (find is_it (mid ++ back)) =
      find-append is_it front (mid ++ back) in
      let second : find is_it (mid ++ back) ≡ option_or (find is_it mid) (find is_it back) =
      find-append is_it mid back in
      let not_first : find is_it front ≡ None = none_found front (none_in_front code place rs is) in
      let not_last : find is_it back ≡ None = none_found back (none_behind code place rs is) in
      let found : find is_it (map register_data rs) ≡ find is_it mid =
      ap (find is_it) (parts_are code place rs is) ∙ first
      ∙ ap (λ (o : Option RegisterData). option_or o (find is_it (mid ++ back))) not_first ∙ second
      ∙ ap (option_or (find is_it mid)) not_last ∙ or_none (find is_it mid) in
      ap (option_map (λ (r : RegisterData). r.bytes)) (sym found)
