-- The counts of a bit on the pages of a device, and in the phases of its command, are together that of the reads that
-- found it set.
use Rattle.std.proofs.Common.{◌≡◌, ℕ, ◌+◌, Bool, true, false, ◌&&◌, cond, Option, List, [], ◌∷◌}
use Rattle.std.proofs.Common.{ap, arith, eqb, inl, inr, refl, sym, ◌∙◌}
use Rattle.std.proofs.lemmas.Bool.{cases_eq, eq-eqb, ne_eqb}
use Rattle.std.proofs.lemmas.List.Concat.{flat_map-cons}
use Rattle.std.proofs.lemmas.List.Sums.{sum_by-cons}
use Rattle.pmb_facts.specs.Fact.{FactData, WhatData, Write, Read, Call, Refused, Alert, NoAlert, Other, Refusal}
use Rattle.pmb_facts.specs.Fact.{BadToken}
use Rattle.pmb_json_objects.specs.Seen.{SeenData}
use Rattle.pmb_keeper.specs.Setting.{Setting, seen_after}
use Rattle.pmb_observed.specs.Observing.{observations, observed, observed_in, replied}
use Rattle.pmb_observed.specs.Spot.{spot_at}
use Rattle.pmb_observed.specs.Told.{command_spots}
use Rattle.pmb_observed.specs.declared.spot.Spot.{Spot}
use Rattle.pmb_stats.proofs.Replies.{AreApart, replied_elsewhere, replied_here, written_is_none}
use Rattle.pmb_stats.proofs.Spots.{other_code, other_device}
use Rattle.pmb_stats.proofs.Told.{count_append, count_nothing}
use Rattle.pmb_stats.specs.BitCounts.{IsRegister, bit_count, count_at, count_on_pages, finds_set, has_bit}

-- ---- commands apart

device_apart : (addr code at other : ℕ) → (at ≡ addr → ⊥) → AreApart addr code at other
device_apart addr code at other ne page phase = other_device (spot_at at other page phase) addr code ne

code_apart : (addr code at other : ℕ) → (other ≡ code → ⊥) → AreApart addr code at other
code_apart addr code at other ne page phase = other_code (spot_at at other page phase) addr code ne

and_false : (b : Bool) → (b && false) ≡ false
and_false true = refl
and_false false = refl

-- ---- what a fact tells

module _ (seen : SeenData) (addr code bit : ℕ) where
  abbrev spots : List Spot
  spots = command_spots seen.profile addr code

  -- one, if a read of a command of a device finds the bit set
  abbrev found_by : Bool → Bool → List ℕ → ℕ
  found_by device command bytes = cond (device && (command && has_bit bit bytes)) 1 0

  read_counted : (at other : ℕ) (bytes : List ℕ) (time : Option (List ℕ)) → IsRegister seen.profile addr code
      → count_at bit (replied seen at other bytes time) spots ≡ found_by (eqb at addr) (eqb other code) bytes
  read_counted at other bytes time is =
      elim (cases_eq at addr) [
        | inl device ↦
            elim (cases_eq other code) [
              | inl command ↦
                  ap (λ (a : ℕ). count_at bit (replied seen a other bytes time) spots) device
                  ∙ (ap (λ (c : ℕ). count_at bit (replied seen addr c bytes time) spots) command
                  ∙ (replied_here bit bytes time seen addr code is
                  ∙ sym (ap (λ (b : Bool). found_by b (eqb other code) bytes) (eq-eqb at addr device)
                  ∙ ap (λ (b : Bool). found_by true b bytes) (eq-eqb other code command))))
              | inr ne ↦
                  replied_elsewhere bit seen at other bytes addr code time (code_apart addr code at other ne)
                  ∙ sym (ap (λ (b : Bool). found_by (eqb at addr) b bytes) (ne_eqb other code ne)
                  ∙ ap (λ (b : Bool). cond {A = ℕ} b 1 0) (and_false (eqb at addr)))
            ]
        | inr ne ↦
            replied_elsewhere bit seen at other bytes addr code time (device_apart addr code at other ne)
            ∙ sym (ap (λ (b : Bool). found_by b (eqb other code) bytes) (ne_eqb at addr ne))
      ]

  what_counted : (time : Option (List ℕ)) (what : WhatData) → IsRegister seen.profile addr code
      → count_at bit (observed seen time what) spots ≡ cond (finds_set addr code bit what) 1 0
  what_counted time (Write part parts p) is = written_is_none bit seen p.addr p.code p.bytes spots
  what_counted time (Read t) is = read_counted t.addr t.code t.reply time is
  what_counted time (Call t) is = count_nothing bit spots
  what_counted time (Refused parts at sent at_read) is = count_nothing bit spots
  what_counted time (Alert t) is = count_nothing bit spots
  what_counted time NoAlert is = count_nothing bit spots
  what_counted time (Other at) is = count_nothing bit spots
  what_counted time (Refusal front event reason expected) is = count_nothing bit spots
  what_counted time (BadToken word) is = count_nothing bit spots

-- ---- what all of them tell

pub pages_make_the_whole : (setting : Setting) (addr code bit : ℕ) (facts : List FactData)
    → IsRegister setting.profile addr code → count_on_pages setting addr code bit facts ≡ bit_count addr code bit facts
pages_make_the_whole setting addr code bit [] is = count_nothing bit (command_spots setting.profile addr code)
pages_make_the_whole setting addr code bit (fact ∷ facts) is =
    let spots = command_spots setting.profile addr code in
    let told = observed_in setting fact in
    let first : count_at bit told spots ≡ cond (finds_set addr code bit fact.what) 1 0
    = what_counted (seen_after setting fact.before) addr code bit fact.head.time fact.what is in
    let all : count_on_pages setting addr code bit (fact ∷ facts)
    ≡ count_at bit told spots + count_on_pages setting addr code bit facts
    = ap (λ os. count_at bit os spots) (flat_map-cons (observed_in setting) fact facts)
    ∙ count_append bit told (observations setting facts) spots in
    omega (
      arith,
      first,
      all,
      pages_make_the_whole setting addr code bit facts is,
      sum_by-cons (λ (f : FactData). cond (finds_set addr code bit f.what) 1 0) fact facts,
    )
