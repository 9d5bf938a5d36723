-- The counts of a bit over spots, in what was told: they add up, and a read counts as often as its spot comes.
use Rattle.std.proofs.Common.{◌≡◌, ℕ, ◌+◌, Bool, cond, Option, Some, None, List, [], ◌∷◌, ◌++◌}
use Rattle.std.proofs.Common.{ap, arith, inl, inr, refl, sym, ◌∙◌}
use Rattle.std.proofs.lemmas.Bool.{cases_Bool}
use Rattle.std.proofs.lemmas.List.Sums.{sum_by-append, sum_by-cons}
use Rattle.std.specs.List.{count_by}
use Rattle.pmb_mean.specs.Numbers.{NumberData}
use Rattle.pmb_observed.specs.Observed.{Observation, NumberAt, ReadAt, reads_at}
use Rattle.pmb_observed.specs.Observing.{number_at}
use Rattle.pmb_observed.specs.Spot.{same_spot}
use Rattle.pmb_observed.specs.declared.spot.Spot.{Spot}
use Rattle.pmb_stats.proofs.Sums.{none_either, sum_both, sum_none, sum_same, sum_where}
use Rattle.pmb_stats.specs.BitCounts.{count_at}
use Rattle.pmb_stats_bits.specs.Bits.{RegisterRead, found, set_count}

-- ---- what is told, one after the other

reads_append : (spot : Spot) (told more : List Observation)
    → reads_at spot (told ++ more) ≡ reads_at spot told ++ reads_at spot more
reads_append spot [] more = refl
reads_append spot (ReadAt at read ∷ told) more =
    let all = reads_at spot (told ++ more) in
    let before = reads_at spot told in
    elim (cases_Bool (same_spot at spot)) [
      | inl is ↦
          ap (λ (b : Bool). cond b (read ∷ all) all) is
          ∙ (ap (λ reads. read ∷ reads) (reads_append spot told more)
          ∙ sym (ap (λ (b : Bool). cond b (read ∷ before) before ++ reads_at spot more) is))
      | inr is ↦
          ap (λ (b : Bool). cond b (read ∷ all) all) is
          ∙ (reads_append spot told more
          ∙ sym (ap (λ (b : Bool). cond b (read ∷ before) before ++ reads_at spot more) is))
    ]
reads_append spot (NumberAt at number ∷ told) more = reads_append spot told more

module _ (bit : ℕ) where
  -- at a spot
  abbrev set_at : List Observation → Spot → ℕ
  set_at told spot = set_count (reads_at spot told) bit

  set_append : (told more : List Observation) (spot : Spot)
      → set_at (told ++ more) spot ≡ set_at told spot + set_at more spot
  set_append told more spot =
      ap (λ reads. set_count reads bit) (reads_append spot told more)
      ∙ sum_by-append (λ r. cond (found bit r) 1 0) (reads_at spot told) (reads_at spot more)

  -- counts of what is told add up
  pub count_append : (told more : List Observation) (spots : List Spot)
      → count_at bit (told ++ more) spots ≡ count_at bit told spots + count_at bit more spots
  count_append told more spots =
      sum_same (set_at (told ++ more)) (λ spot. set_at told spot + set_at more spot) (set_append told more) spots
      ∙ sum_both (set_at told) (set_at more) spots

  -- ---- one of them

  pub count_nothing : (spots : List Spot) → count_at bit [] spots ≡ 0
  count_nothing spots = sum_none (set_at []) (λ spot. refl) spots

  pub count_number : (at : Spot) (number : Option NumberData) (spots : List Spot)
      → count_at bit (number_at at number) spots ≡ 0
  count_number at None spots = count_nothing spots
  count_number at (Some number) spots = sum_none (set_at (NumberAt at number ∷ [])) (λ spot. refl) spots

  -- a read, at each spot: by whether it is its own
  set_read : (at : Spot) (read : RegisterRead) (spot : Spot)
      → set_at (ReadAt at read ∷ []) spot ≡ cond (same_spot at spot) (cond (found bit read) 1 0) 0
  set_read at read spot =
      let found_it : ℕ = cond (found bit read) 1 0 in
      let first = sum_by-cons (λ r. cond (found bit r) 1 0) read [] in
      let one : set_count (read ∷ []) bit ≡ found_it = omega (arith, first) in
      elim (cases_Bool (same_spot at spot)) [
        | inl is ↦
            ap (λ (b : Bool). set_count (cond b (read ∷ []) []) bit) is
            ∙ (one ∙ sym (ap (λ (b : Bool). cond b found_it 0) is))
        | inr is ↦
            ap (λ (b : Bool). set_count (cond b (read ∷ []) []) bit) is
            ∙ sym (ap (λ (b : Bool). cond b found_it 0) is)
      ]

  -- .. at all of them: as often as its own comes
  count_read : (at : Spot) (read : RegisterRead) (spots : List Spot)
      → count_at bit (ReadAt at read ∷ []) spots ≡ cond (found bit read) (count_by (same_spot at) spots) 0
  count_read at read spots =
      sum_same (set_at (ReadAt at read ∷ [])) (λ spot. cond (same_spot at spot) (cond (found bit read) 1 0) 0)
      (set_read at read) spots ∙ sum_where (same_spot at) (found bit read) spots

  -- a read whose spot comes once
  pub count_once : (at : Spot) (read : RegisterRead) (spots : List Spot) → count_by (same_spot at) spots ≡ 1
      → count_at bit (ReadAt at read ∷ []) spots ≡ cond (found bit read) 1 0
  count_once at read spots once =
      count_read at read spots ∙ ap (λ (n : ℕ). cond (found bit read) n 0) once

  -- .. and whose spot doesn't come
  pub count_never : (at : Spot) (read : RegisterRead) (spots : List Spot) → count_by (same_spot at) spots ≡ 0
      → count_at bit (ReadAt at read ∷ []) spots ≡ 0
  count_never at read spots never =
      count_read at read spots
      ∙ (ap (λ (n : ℕ). cond (found bit read) n 0) never ∙ none_either (found bit read))
