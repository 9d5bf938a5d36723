-- Pages and phases have places of their own: for `see` and `of_command` of a command.
use Rattle.std.proofs.Common.{◌≡◌, ℕ, ◌+◌, ◌*◌, ◌/◌, ◌%◌, ◌<◌, ◌==◌, Bool, true, false, cond, nat_eq, nat_lt, ◌&&◌, ap}
use Rattle.std.proofs.Common.{if◌then◌else◌, Option, Some, None, List, arith, refl, slice_get}
use Rattle.std.proofs.Common.{subst, sym, ◌∙◌, inl, inr}
use Rattle.std.specs.Bool.{⊤}
use Rattle.std.proofs.lemmas.Bool.{cases_Bool, eq-eqb, eqb-true, le-ltb, ltb-true, ne_eqb}
use Rattle.std.proofs.lemmas.Nat.{div-mul-add, mod-mul-add, mul-add-lt}
use Rattle.std.proofs.lemmas.Option.{cond_some, none-some, same_Some}
use Rattle.pmb_command.specs.Parts.{CommandParts, DeviceParts}
use Rattle.pmb_observed.specs.declared.spot.PageKey.{PageKey}
use Rattle.pmb_observed.specs.declared.spot.PageKey.TheVariants.{OnPage, AllPages, UnknownPage, Unpaged}
use Rattle.pmb_observed.specs.declared.spot.PhaseKey.{PhaseKey}
use Rattle.pmb_observed.specs.declared.spot.PhaseKey.TheVariants.{OnPhase, AllPhases, UnknownPhase, Unphased}
use Rattle.pmb_observed.specs.declared.spot.Spot.{Spot}
use Rattle.pmb_observed.specs.Spot.{has_page, has_phase, has_place, phases_of, same_page, same_phase, same_place}
use Rattle.pmb_stats_room.specs.declared.command_room.CommandRoom.{CommandRoom}
use Rattle.pmb_stats_room.specs.declared.places.Places.{Places}
use Rattle.pmb_stats_room.specs.declared.sight.Sight.{Sight}
use Rattle.pmb_stats_room.specs.declared.slot.Slot.{Slot}
use Rattle.pmb_stats_room.specs.machine.Finding.{at_place, in_command}
use Rattle.pmb_stats_room.specs.machine.Places.{page_count, page_place, phase_count, phase_place, place, place_count}
use Rattle.pmb_stats_room.specs.machine.Places.{place_in, places_of}
use Rattle.pmb_stats_room.specs.machine.Seeing.{CommandSees, SlotsSee, Takes}
use Rattle.pmb_stats_room.proofs.Taking.{nothing, unchanged}

-- ---- one page is one row

same_page_is : (page other : PageKey) → same_page page other ≡ true → page ≡ other
same_page_is (OnPage page) (OnPage other) is = ap OnPage (eqb-true page other is)
same_page_is (OnPage page) AllPages is = cc
same_page_is (OnPage page) UnknownPage is = cc
same_page_is (OnPage page) Unpaged is = cc
same_page_is AllPages (OnPage other) is = cc
same_page_is AllPages AllPages is = refl
same_page_is AllPages UnknownPage is = cc
same_page_is AllPages Unpaged is = cc
same_page_is UnknownPage (OnPage other) is = cc
same_page_is UnknownPage AllPages is = cc
same_page_is UnknownPage UnknownPage is = refl
same_page_is UnknownPage Unpaged is = cc
same_page_is Unpaged (OnPage other) is = cc
same_page_is Unpaged AllPages is = cc
same_page_is Unpaged UnknownPage is = cc
same_page_is Unpaged Unpaged is = refl

same_page_self : (page : PageKey) → same_page page page ≡ true
same_page_self (OnPage page) = eq-eqb page page refl
same_page_self AllPages = refl
same_page_self UnknownPage = refl
same_page_self Unpaged = refl

-- the page of a row
page_of : Option ℕ → ℕ → PageKey
page_of None i = Unpaged
page_of (Some pages) i = if nat_lt i pages then OnPage i else (if i == pages then AllPages else UnknownPage)

page_of_place : (pages : Option ℕ) (page : PageKey) (i : ℕ) → page_place pages page ≡ Some i → page_of pages i ≡ page
unfolding page_of
page_of_place None (OnPage page) i is = absurd (none-some i is)
page_of_place None AllPages i is = absurd (none-some i is)
page_of_place None UnknownPage i is = absurd (none-some i is)
page_of_place None Unpaged i is = refl
page_of_place (Some pages) (OnPage page) i is =
    let at = cond_some (nat_lt page pages) page i is in
    subst (λ k. cond (nat_lt k pages) (OnPage k) (cond (nat_eq k pages) AllPages UnknownPage) ≡ OnPage page) at.1
    (ap (λ b. cond b (OnPage page) (cond (nat_eq page pages) AllPages UnknownPage)) at.0)
page_of_place (Some pages) AllPages i is =
    subst (λ k. cond (nat_lt k pages) (OnPage k) (cond (nat_eq k pages) AllPages UnknownPage) ≡ AllPages)
    (same_Some pages i is)
    (ap (λ b. cond b (OnPage pages) (cond (nat_eq pages pages) AllPages UnknownPage))
    (le-ltb pages pages (omega arith)) ∙ ap (λ b. cond b AllPages UnknownPage) (eq-eqb pages pages refl))
page_of_place (Some pages) UnknownPage i is =
    subst (λ k. cond (nat_lt k pages) (OnPage k) (cond (nat_eq k pages) AllPages UnknownPage) ≡ UnknownPage)
    (same_Some (pages + 1) i is)
    (ap (λ b. cond b (OnPage (pages + 1)) (cond (nat_eq (pages + 1) pages) AllPages UnknownPage))
    (le-ltb (pages + 1) pages (omega arith))
    ∙ ap (λ b. cond b AllPages UnknownPage) (ne_eqb (pages + 1) pages (λ e. omega arith)))
page_of_place (Some pages) Unpaged i is = absurd (none-some i is)

-- ---- one phase is one column

same_phase_is : (phase other : PhaseKey) → same_phase phase other ≡ true → phase ≡ other
same_phase_is (OnPhase phase) (OnPhase other) is = ap OnPhase (eqb-true phase other is)
same_phase_is (OnPhase phase) AllPhases is = cc
same_phase_is (OnPhase phase) UnknownPhase is = cc
same_phase_is (OnPhase phase) Unphased is = cc
same_phase_is AllPhases (OnPhase other) is = cc
same_phase_is AllPhases AllPhases is = refl
same_phase_is AllPhases UnknownPhase is = cc
same_phase_is AllPhases Unphased is = cc
same_phase_is UnknownPhase (OnPhase other) is = cc
same_phase_is UnknownPhase AllPhases is = cc
same_phase_is UnknownPhase UnknownPhase is = refl
same_phase_is UnknownPhase Unphased is = cc
same_phase_is Unphased (OnPhase other) is = cc
same_phase_is Unphased AllPhases is = cc
same_phase_is Unphased UnknownPhase is = cc
same_phase_is Unphased Unphased is = refl

same_phase_self : (phase : PhaseKey) → same_phase phase phase ≡ true
same_phase_self (OnPhase phase) = eq-eqb phase phase refl
same_phase_self AllPhases = refl
same_phase_self UnknownPhase = refl
same_phase_self Unphased = refl

-- the phase of a column
phase_of : Option ℕ → ℕ → PhaseKey
phase_of None i = Unphased
phase_of (Some phases) i = if nat_lt i phases then OnPhase i else (if i == phases then AllPhases else UnknownPhase)

phase_of_place : (phases : Option ℕ) (phase : PhaseKey) (i : ℕ) → phase_place phases phase ≡ Some i
    → phase_of phases i ≡ phase
unfolding phase_of
phase_of_place None (OnPhase phase) i is = absurd (none-some i is)
phase_of_place None AllPhases i is = absurd (none-some i is)
phase_of_place None UnknownPhase i is = absurd (none-some i is)
phase_of_place None Unphased i is = refl
phase_of_place (Some phases) (OnPhase phase) i is =
    let at = cond_some (nat_lt phase phases) phase i is in
    subst (λ k. cond (nat_lt k phases) (OnPhase k) (cond (nat_eq k phases) AllPhases UnknownPhase) ≡ OnPhase phase) at.1
    (ap (λ b. cond b (OnPhase phase) (cond (nat_eq phase phases) AllPhases UnknownPhase)) at.0)
phase_of_place (Some phases) AllPhases i is =
    subst (λ k. cond (nat_lt k phases) (OnPhase k) (cond (nat_eq k phases) AllPhases UnknownPhase) ≡ AllPhases)
    (same_Some phases i is)
    (ap (λ b. cond b (OnPhase phases) (cond (nat_eq phases phases) AllPhases UnknownPhase))
    (le-ltb phases phases (omega arith)) ∙ ap (λ b. cond b AllPhases UnknownPhase) (eq-eqb phases phases refl))
phase_of_place (Some phases) UnknownPhase i is =
    subst (λ k. cond (nat_lt k phases) (OnPhase k) (cond (nat_eq k phases) AllPhases UnknownPhase) ≡ UnknownPhase)
    (same_Some (phases + 1) i is)
    (ap (λ b. cond b (OnPhase (phases + 1)) (cond (nat_eq (phases + 1) phases) AllPhases UnknownPhase))
    (le-ltb (phases + 1) phases (omega arith))
    ∙ ap (λ b. cond b AllPhases UnknownPhase) (ne_eqb (phases + 1) phases (λ e. omega arith)))
phase_of_place (Some phases) Unphased i is = absurd (none-some i is)

-- ---- what a command has has a place, and no other has

abbrev pub HasPlace : ℕ → Bool → Option ℕ → Type 0
HasPlace count true None = ⊥
HasPlace count true (Some i) = i < count
HasPlace count false None = ⊤
HasPlace count false (Some i) = ⊥

-- a number below how many there are, beside two others
number_has_place : (count number : ℕ) (within : Bool) → nat_lt number count ≡ within
    → HasPlace (count + 2) within (if within then Some number else None)
number_has_place count number true is = omega (arith, ltb-true number count is)
number_has_place count number false is = tt

page_has_place : (pages : ℕ) (paged : Bool) (page : PageKey)
    → HasPlace (page_count (if paged then Some pages else None)) (has_page pages paged page)
    (page_place (if paged then Some pages else None) page)
page_has_place pages true (OnPage page) = number_has_place pages page (nat_lt page pages) refl
page_has_place pages true AllPages = omega arith
page_has_place pages true UnknownPage = omega arith
page_has_place pages true Unpaged = tt
page_has_place pages false (OnPage page) = tt
page_has_place pages false AllPages = tt
page_has_place pages false UnknownPage = tt
page_has_place pages false Unpaged = omega arith

phase_has_place : (phases : Option ℕ) (phase : PhaseKey)
    → HasPlace (phase_count phases) (has_phase phases phase) (phase_place phases phase)
phase_has_place (Some phases) (OnPhase phase) = number_has_place phases phase (nat_lt phase phases) refl
phase_has_place (Some phases) AllPhases = omega arith
phase_has_place (Some phases) UnknownPhase = omega arith
phase_has_place (Some phases) Unphased = tt
phase_has_place None (OnPhase phase) = tt
phase_has_place None AllPhases = tt
phase_has_place None UnknownPhase = tt
phase_has_place None Unphased = omega arith

both_have_place : (rows width : ℕ) (has_row has_column : Bool) (row column : Option ℕ) → HasPlace rows has_row row
    → HasPlace width has_column column → HasPlace (rows * width) (has_row && has_column) (place_in width row column)
both_have_place rows width true true None column at here = absurd at
both_have_place rows width true true (Some row) None at here = absurd here
both_have_place rows width true true (Some row) (Some column) at here =
    let within = mul-add-lt row width column rows at here in grind (arith, within)
both_have_place rows width true false None column at here = absurd at
both_have_place rows width true false (Some row) None at here = tt
both_have_place rows width true false (Some row) (Some column) at here = absurd here
both_have_place rows width false has None column at here = tt
both_have_place rows width false has (Some row) column at here = absurd at

pub spot_has_place : (device : DeviceParts) (command : CommandParts) (spot : Spot)
    → HasPlace (place_count (places_of device command)) (has_place device command spot)
    (place (places_of device command) spot)
spot_has_place device command spot =
    both_have_place (page_count (if command.entry.paged then Some device.pages else None))
    (phase_count (phases_of device command)) (has_page device.pages command.entry.paged spot.page)
    (has_phase (phases_of device command) spot.phase)
    (page_place (if command.entry.paged then Some device.pages else None) spot.page)
    (phase_place (phases_of device command) spot.phase)
    (page_has_place device.pages command.entry.paged spot.page) (phase_has_place (phases_of device command) spot.phase)

-- ---- a place is one row and one column

within_if : (count : ℕ) (has : Bool) (i : ℕ) → HasPlace count has (Some i) → i < count
within_if count true i at = at
within_if count false i at = absurd at

-- the column of a phase is within its row
column_within : (phases : Option ℕ) (phase : PhaseKey) (column : ℕ) → phase_place phases phase ≡ Some column
    → column < phase_count phases
column_within phases phase column is =
    within_if (phase_count phases) (has_phase phases phase) column
    (subst (HasPlace (phase_count phases) (has_phase phases phase)) is (phase_has_place phases phase))

record IsIn (width : ℕ) (row column : Option ℕ) (i : ℕ) : Type 0 where
  at : ℕ
  here : ℕ
  row_is : row ≡ Some at
  column_is : column ≡ Some here
  is : at * width + here ≡ i

is_in : (width : ℕ) (row column : Option ℕ) (i : ℕ) → place_in width row column ≡ Some i → IsIn width row column i
is_in width None column i is = absurd (none-some i is)
is_in width (Some row) None i is = absurd (none-some i is)
is_in width (Some row) (Some column) i is =
    record { at = row; here = column; row_is = refl; column_is = refl; is = same_Some (row * width + column) i is }

-- ---- a spot is one place

module _ (places : Places) where
  abbrev width : ℕ
  width = phase_count places.phases

  page_there : (spot : Spot) (i : ℕ) → place places spot ≡ Some i → page_of places.pages (i / width) ≡ spot.page
  page_there spot i is =
      let found = is_in width (page_place places.pages spot.page) (phase_place places.phases spot.phase) i is in
      let within = column_within places.phases spot.phase found.here found.column_is in
      let row : i / width ≡ found.at
      = ap (λ k. k / width) (sym found.is) ∙ div-mul-add found.at width found.here within in
      ap (page_of places.pages) row ∙ page_of_place places.pages spot.page found.at found.row_is

  phase_there : (spot : Spot) (i : ℕ) → place places spot ≡ Some i → phase_of places.phases (i % width) ≡ spot.phase
  phase_there spot i is =
      let found = is_in width (page_place places.pages spot.page) (phase_place places.phases spot.phase) i is in
      let within = column_within places.phases spot.phase found.here found.column_is in
      let column : i % width ≡ found.here
      = ap (λ k. k % width) (sym found.is) ∙ mod-mul-add found.at width found.here within in
      ap (phase_of places.phases) column ∙ phase_of_place places.phases spot.phase found.here found.column_is

  one_place : (spot other : Spot) → spot.page ≡ other.page → spot.phase ≡ other.phase
      → place places spot ≡ place places other
  one_place spot other page phase =
      ap (λ q. place_in width (page_place places.pages q) (phase_place places.phases spot.phase)) page
      ∙ ap (λ q. place_in width (page_place places.pages other.page) (phase_place places.phases q)) phase

both : (a b : Bool) → (a && b) ≡ true → (a ≡ true) × (b ≡ true)
both true true is = (refl, refl)
both true false is = cc
both false b is = cc

same_if : (spot other : Spot) → spot.page ≡ other.page → spot.phase ≡ other.phase → same_place spot other ≡ true
same_if spot other page phase =
    subst (λ q. (same_page spot.page q && same_phase spot.phase other.phase) ≡ true) page
    (subst (λ q. (same_page spot.page spot.page && same_phase spot.phase q) ≡ true) phase
    (ap (λ b. b && same_phase spot.phase spot.phase) (same_page_self spot.page) ∙ same_phase_self spot.phase))

module _ (places : Places) (spot other : Spot) where
  same_has_place : same_place spot other ≡ true → place places spot ≡ place places other
  same_has_place same =
      let are = both (same_page spot.page other.page) (same_phase spot.phase other.phase) same in
      one_place places spot other (same_page_is spot.page other.page are.0)
      (same_phase_is spot.phase other.phase are.1)

  -- two places are the same where the spots are
  places_same : (p i : ℕ) → place places spot ≡ Some p → place places other ≡ Some i
      → (p == i) ≡ same_place spot other
  places_same p i at is =
      elim (cases_Bool (nat_eq p i)) [
        | inl same ↦
            let e : p ≡ i = eqb-true p i same in
            let page : spot.page ≡ other.page
            = sym (page_there places spot p at) ∙ ap (λ k. page_of places.pages (k / width places)) e
            ∙ page_there places other i is in
            let phase : spot.phase ≡ other.phase
            = sym (phase_there places spot p at) ∙ ap (λ k. phase_of places.phases (k % width places)) e
            ∙ phase_there places other i is in
            same ∙ sym (same_if spot other page phase)
        | inr apart ↦
            elim (cases_Bool (same_place spot other)) [
              | inl same ↦
                  let e : Some p ≡ Some i = sym at ∙ same_has_place same ∙ is in
                  absurd (cc (eq-eqb p i (same_Some p i e)))
              | inr not_same ↦ apart ∙ sym not_same
            ]
      ]

  -- ---- for `see`

  place_takes : (p : ℕ) (sight : Sight) (before after : List Slot) (found : Option ℕ) → place places spot ≡ Some p
      → place places other ≡ found → SlotsSee p sight before after
      → Takes (same_place spot other) sight (at_place before found) (at_place after found)
  place_takes p sight before after None at is sees = nothing (same_place spot other) sight
  place_takes p sight before after (Some i) at is sees =
      subst (λ b. Takes b sight (slice_get before i) (slice_get after i)) (places_same p i at is) (sees.each i)

  place_lacks : (sight : Sight) (slots : List Slot) (found : Option ℕ) → place places spot ≡ None
      → place places other ≡ found
      → Takes (same_place spot other) sight (at_place slots found) (at_place slots found)
  place_lacks sight slots None at is = nothing (same_place spot other) sight
  place_lacks sight slots (Some i) at is =
      elim (cases_Bool (same_place spot other)) [
        | inl same ↦ absurd (none-some i (sym at ∙ same_has_place same ∙ is))
        | inr not_same ↦
            subst (λ b. Takes b sight (slice_get slots i) (slice_get slots i)) (sym not_same)
            (unchanged sight (slice_get slots i))
      ]

pub command_takes : (spot : Spot) (p : ℕ) (sight : Sight) (before after : CommandRoom)
    → place before.places spot ≡ Some p → after.places ≡ before.places
    → SlotsSee p sight before.slots.items after.slots.items → CommandSees spot sight before after
command_takes spot p sight before after at same sees = record {
  each = λ other.
      subst (λ places. Takes (same_place spot other) sight (in_command before other)
      (at_place after.slots.items (place places other))) (sym same)
      (place_takes before.places spot other p sight before.slots.items after.slots.items
      (place before.places other) at refl sees);
}

pub command_lacks : (spot : Spot) (sight : Sight) (room : CommandRoom) → place room.places spot ≡ None
    → CommandSees spot sight room room
command_lacks spot sight room at = record {
  each = λ other.
      place_lacks room.places spot other sight room.slots.items (place room.places other) at refl;
}
