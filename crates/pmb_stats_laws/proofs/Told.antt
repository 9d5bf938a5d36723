-- Each count of facts is what they weigh, and so is what the last objects tell: the law `counts_are_those_of_json`.
use Rattle.std.proofs.Common.{◌≡◌, ℕ, Option, List, arith, refl, ◌∙◌}
use Rattle.std.specs.List.{sum_by}
use Rattle.pmb_command.specs.Parts.{DeviceParts}
use Rattle.pmb_facts.specs.Fact.{FactData, WhatData}
use Rattle.pmb_fact_stream.specs.Before.{at_first}
use Rattle.pmb_json.specs.Cut.{AreFactsOf}
use Rattle.pmb_json_objects.specs.Counts.{CountsData}
use Rattle.pmb_scan.specs.declared.after_bad_token.AfterBadToken.{AfterBadToken}
use Rattle.pmb_stats_counts.specs.Counts.{count_of, ends_packet, is_bad_token}
use Rattle.pmb_stats_counts.specs.declared.sort.Sort.{Sort}
use Rattle.pmb_stats_counts.specs.declared.sort.Sort.TheVariants.{Writes, Reads, Calls, Nacks, Refusals, Others}
use Rattle.pmb_stats_laws.proofs.DeviceWeights.{calls_agree, nacks, nacks_agree, others_agree, reads_agree}
use Rattle.pmb_stats_laws.proofs.DeviceWeights.{refusals, refusals_agree, writes_agree}
use Rattle.pmb_stats_laws.proofs.Sums.{device_weighs, of_device, of_sort, sum_same, weigh, weigh_each}
use Rattle.pmb_stats_laws.proofs.TotalWeights.{all_others_agree, all_refusals_agree, bad_tokens_agree, if_passes}
use Rattle.pmb_stats_laws.proofs.TotalWeights.{other_weight, packets_agree, refusal_weight}
use Rattle.pmb_stats_laws.proofs.Weights.{Agrees, text_agrees}
use Rattle.pmb_stats_laws.specs.Told.{CountsAreTold, DeviceIsTold, nack_places, reasons}
use Rattle.pmb_transaction.specs.declared.reason.Reason.{Reason}

-- the counts of some sorts, added up
sorts_weigh : {X : Type 0} (sort : X → Sort) (xs : List X) (addr : ℕ) (facts : List FactData)
    → sum_by (λ x. count_of addr (sort x) facts) xs
    ≡ weigh (λ what. sum_by (λ x. of_device addr (sort x) what) xs) facts
sorts_weigh {X} sort xs addr facts =
    sum_same (λ (x : X). count_of addr (sort x) facts) (λ x. weigh (of_device addr (sort x)) facts)
    (λ x. device_weighs addr (sort x) facts) xs
    ∙ weigh_each (λ (x : X). of_device addr (sort x)) xs facts

module _ (ignored : Option (List ℕ)) (profile : List DeviceParts) (after : AfterBadToken) (bytes : List ℕ)
    (facts : List FactData) (are : AreFactsOf ignored profile after bytes facts) where
  -- at first nothing was counted
  told : (count : CountsData → ℕ) (weight : WhatData → ℕ) → Agrees count weight → count at_first.counts ≡ 0
      → weigh weight facts ≡ count are.counts
  told count weight agrees none =
      omega (
        arith,
        none,
        text_agrees count weight agrees ignored profile after at_first bytes are.bad facts are.counts are.from_first,
      )

  of_sort_told : (addr : ℕ) (sort : Sort) (count : CountsData → ℕ) → Agrees count (of_device addr sort)
      → count at_first.counts ≡ 0 → count_of addr sort facts ≡ count are.counts
  of_sort_told addr sort count agrees none =
      device_weighs addr sort facts ∙ told count (of_device addr sort) agrees none

  device_is_told : (addr : ℕ) → DeviceIsTold addr facts (are.counts.of_device addr)
  device_is_told addr = record {
    writes = of_sort_told addr Writes (λ c. (c.of_device addr).writes) (writes_agree addr) refl;
    reads = of_sort_told addr Reads (λ c. (c.of_device addr).reads) (reads_agree addr) refl;
    calls = of_sort_told addr Calls (λ c. (c.of_device addr).calls) (calls_agree addr) refl;
    refused = sorts_weigh Nacks nack_places addr facts
        ∙ told (λ c. (c.of_device addr).refused) (nacks addr) (nacks_agree addr) refl;
    refusals = sorts_weigh Refusals reasons addr facts
        ∙ told (λ c. (c.of_device addr).refusals) (refusals addr) (refusals_agree addr) refl;
    others = of_sort_told addr Others (λ c. (c.of_device addr).others) (others_agree addr) refl;
  }

  pub counts_are_told : CountsAreTold facts are.counts
  counts_are_told = record {
    of_device = device_is_told;
    of_packets = told (λ c. c.packets) (if_passes ends_packet) packets_agree refl;
    of_refusals = weigh_each (λ (reason : Reason) (what : WhatData). of_sort (Refusals reason) what 1) reasons facts
        ∙ told (λ c. c.refusals) refusal_weight all_refusals_agree refl;
    of_bad_tokens = told (λ c. c.bad_tokens) (if_passes is_bad_token) bad_tokens_agree refl;
    of_others = told (λ c. c.others) other_weight all_others_agree refl;
  }
