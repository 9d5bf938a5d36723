-- The numbers on the pages of a device, and in the phases of its command, are together those of the command: a number
-- is told of one spot, which is one of the command's.
use Rattle.std.proofs.Common.{◌≡◌, ℕ, ◌+◌, Bool, cond, Option, Some, None, List, [], ◌∷◌, ◌++◌}
use Rattle.std.proofs.Common.{ap, arith, inl, inr, length, refl, subst, sym, ◌∙◌}
use Rattle.std.proofs.lemmas.Bool.{cases_Bool}
use Rattle.std.proofs.lemmas.List.Concat.{flat_map-cons}
use Rattle.std.proofs.lemmas.List.Sums.{sum_by-cons}
use Rattle.std.specs.List.{AllByRecursion, sum_by}
use Rattle.pmb_command.specs.Parts.{CommandParts, DeviceParts, device_with}
use Rattle.pmb_facts.specs.Fact.{FactData, WhatData, Write, Read, Call, Refused, Alert, NoAlert, Other, Refusal}
use Rattle.pmb_facts.specs.Fact.{BadToken}
use Rattle.pmb_json_objects.specs.Seen.{SeenData, command_of}
use Rattle.pmb_keeper.specs.Setting.{Setting, seen_after}
use Rattle.pmb_mean.specs.Numbers.{NumberData}
use Rattle.pmb_observed.specs.Observed.{Observation, NumberAt, ReadAt, numbers_at}
use Rattle.pmb_observed.specs.Observing.{number_at, number_seen, observations, observed, observed_in}
use Rattle.pmb_observed.specs.Observing.{of_command, of_device, read_at, register_read, register_seen, replied}
use Rattle.pmb_observed.specs.Observing.{spot_of, written}
use Rattle.pmb_observed.specs.Spot.{same_spot}
use Rattle.pmb_observed.specs.Told.{command_spots}
use Rattle.pmb_observed.specs.declared.spot.Spot.{Spot}
use Rattle.pmb_stats.proofs.Spots.{IsThere, seen_there, spot_comes}
use Rattle.pmb_stats.proofs.Sums.{sum_both, sum_none, sum_same}
use Rattle.pmb_stats.specs.NumberCounts.{is_number_of, number_count, number_count_at, numbers_on_pages}
use Rattle.pmb_stats_bits.specs.Bits.{RegisterRead}

-- ---- what is told is told of spots that the profile has

module _ (profile : List DeviceParts) where
  abbrev IsTold : Observation → Type 0
  IsTold (ReadAt spot read) = IsThere profile spot
  IsTold (NumberAt spot number) = IsThere profile spot

  abbrev AreTold : List Observation → Type 0
  AreTold told = AllByRecursion IsTold told

  told_append : (told more : List Observation) → AreTold told → AreTold more → AreTold (told ++ more)
  told_append [] more first second = second
  told_append (one ∷ told) more first second = (first.0, told_append told more first.1 second)

  number_is_told : (spot : Spot) (number : Option NumberData) → IsThere profile spot → AreTold (number_at spot number)
  number_is_told spot None is = tt
  number_is_told spot (Some number) is = (is, tt)

  read_is_told : (spot : Spot) (read : Option RegisterRead) → IsThere profile spot → AreTold (read_at spot read)
  read_is_told spot None is = tt
  read_is_told spot (Some read) is = (is, tt)

-- by what is known where a packet begins
module _ (seen : SeenData) (addr code : ℕ) where
  abbrev Tells : (DeviceParts → CommandParts → List Observation) → Type 0
  Tells tells = (device : DeviceParts) (command : CommandParts)
      → IsThere seen.profile (spot_of seen addr code device command) → AreTold seen.profile (tells device command)

  command_tells : (device : DeviceParts) (command : Option CommandParts)
      (tells : DeviceParts → CommandParts → List Observation) → device_with addr seen.profile ≡ Some device
      → command_of (Some device) code ≡ command → Tells tells
      → AreTold seen.profile (of_command seen addr code device command tells)
  command_tells device None tells known has each = tt
  command_tells device (Some command) tells known has each =
      each device command (seen_there seen addr code device command known has)

  device_tells : (device : Option DeviceParts) (tells : DeviceParts → CommandParts → List Observation)
      → device_with addr seen.profile ≡ device → Tells tells
      → AreTold seen.profile (of_device seen addr code device tells)
  device_tells None tells known each = tt
  device_tells (Some device) tells known each =
      command_tells device (command_of (Some device) code) tells known refl each

  written_tells : (bytes : List ℕ) → AreTold seen.profile (written seen addr code bytes)
  written_tells bytes = device_tells (device_with addr seen.profile) _ refl
      (λ device command is. number_is_told seen.profile (spot_of seen addr code device command) _ is)

  replied_tells : (bytes : List ℕ) (time : Option (List ℕ))
      → AreTold seen.profile (replied seen addr code bytes time)
  replied_tells bytes time = device_tells (device_with addr seen.profile) _ refl
      (λ device command is. told_append seen.profile (register_seen seen addr code device command bytes time)
      (number_seen seen addr code device command bytes)
      (read_is_told seen.profile (spot_of seen addr code device command)
      (register_read command.entry.kind bytes time) is)
      (number_is_told seen.profile (spot_of seen addr code device command) _ is))

fact_tells : (seen : SeenData) (time : Option (List ℕ)) (what : WhatData)
    → AreTold seen.profile (observed seen time what)
fact_tells seen time (Write part parts p) = written_tells seen p.addr p.code p.bytes
fact_tells seen time (Read t) = replied_tells seen t.addr t.code t.reply time
fact_tells seen time (Call t) = tt
fact_tells seen time (Refused parts at sent at_read) = tt
fact_tells seen time (Alert t) = tt
fact_tells seen time NoAlert = tt
fact_tells seen time (Other at) = tt
fact_tells seen time (Refusal front event reason expected) = tt
fact_tells seen time (BadToken word) = tt

facts_tell : (setting : Setting) (facts : List FactData) → AreTold setting.profile (observations setting facts)
facts_tell setting [] = tt
facts_tell setting (fact ∷ facts) =
    subst (AreTold setting.profile) (sym (flat_map-cons (observed_in setting) fact facts))
    (told_append setting.profile (observed_in setting fact) (observations setting facts)
    (fact_tells (seen_after setting fact.before) fact.head.time fact.what) (facts_tell setting facts))

-- ---- each is counted once

-- one number more, at each spot: by whether it is its own
one_more : (at : Spot) (number : NumberData) (told : List Observation) (spot : Spot)
    → length (numbers_at spot (NumberAt at number ∷ told))
    ≡ cond (same_spot at spot) 1 0 + length (numbers_at spot told)
one_more at number told spot =
    let more = numbers_at spot told in
    elim (cases_Bool (same_spot at spot)) [
      | inl is ↦
          ap (λ (b : Bool). length (cond b (number ∷ more) more)) is
          ∙ (let e : length (number ∷ more) ≡ 1 + length more = omega arith in e
          ∙ sym (ap (λ (b : Bool). cond b 1 0 + length more) is))
      | inr is ↦
          ap (λ (b : Bool). length (cond b (number ∷ more) more)) is
          ∙ (let e : length more ≡ 0 + length more = omega arith in e
          ∙ sym (ap (λ (b : Bool). cond b 1 0 + length more) is))
    ]

module _ (profile : List DeviceParts) (addr code : ℕ) where
  counted : (told : List Observation) → AreTold profile told
      → number_count_at told (command_spots profile addr code) ≡ number_count addr code told
  counted [] are = sum_none (λ spot. 0) (λ spot. refl) (command_spots profile addr code)
  counted (ReadAt at read ∷ told) are =
      omega (arith, counted told are.1, sum_by-cons (λ o. cond (is_number_of addr code o) 1 0) (ReadAt at read) told)
  counted (NumberAt at number ∷ told) are =
      let spots = command_spots profile addr code in
      let here = λ (spot : Spot). cond {A = ℕ} (same_spot at spot) 1 0 in
      let rest = λ (spot : Spot). length (numbers_at spot told) in
      let all : number_count_at (NumberAt at number ∷ told) spots ≡ sum_by here spots + sum_by rest spots
      = sum_same (λ spot. length (numbers_at spot (NumberAt at number ∷ told))) (λ spot. here spot + rest spot)
      (one_more at number told) spots
      ∙ sum_both here rest spots in
      omega (
        arith,
        all,
        spot_comes profile addr code at are.0,
        counted told are.1,
        sum_by-cons (λ o. cond (is_number_of addr code o) 1 0) (NumberAt at number) told,
      )

pub pages_have_all_numbers : (setting : Setting) (addr code : ℕ) (facts : List FactData)
    → numbers_on_pages setting addr code facts ≡ number_count addr code (observations setting facts)
pages_have_all_numbers setting addr code facts =
    counted setting.profile addr code (observations setting facts) (facts_tell setting facts)
