-- What is counted of two pieces of a capture, and of the whole.
use Rattle.std.specs.Prelude.{◌≡◌, ℕ, ◌+◌, List}
use Rattle.pmb_facts.specs.Fact.{FactData}
use Rattle.pmb_json_objects.specs.Counts.{CountsData, sum_of}
use Rattle.pmb_stats.specs.BitCounts.{bit_count}
use Rattle.pmb_stats_counts.specs.Counts.{bad_tokens, count_in_all, count_of, count_of_none, packets}
use Rattle.pmb_stats_counts.specs.declared.sort.Sort.{Sort}

-- The counts of the whole are the sums of those of its first facts and of the others.
pub record CountsAddUp (firsts others whole : List FactData) : Type 0 where
  -- of each device
  pub of_device : (addr : ℕ) (sort : Sort)
      → count_of addr sort whole ≡ count_of addr sort firsts + count_of addr sort others
  -- of what names no device
  pub of_none : (sort : Sort) → count_of_none sort whole ≡ count_of_none sort firsts + count_of_none sort others
  pub in_all : (sort : Sort) → count_in_all sort whole ≡ count_in_all sort firsts + count_in_all sort others
  pub of_packets : packets whole ≡ packets firsts + packets others
  pub of_bad_tokens : bad_tokens whole ≡ bad_tokens firsts + bad_tokens others
  -- of the reads of each status register that found a bit set, whatever page was selected
  pub of_bits : (addr code bit : ℕ)
      → bit_count addr code bit whole ≡ bit_count addr code bit firsts + bit_count addr code bit others

-- What the last objects of `json` tell of two pieces, added up: of each device, and in all. `S b0 A 03 A P` has
-- one packet, and of 58h one write. `S 40 N P S b0 A 03 A` has one packet and one refusal, at its end, and of 20h
-- one refused, of 58h one refusal. In all they have two packets and one refusal; of 20h one refused, and of 58h
-- one write and one refusal.
abbrev pub sum_of_told : CountsData → CountsData → CountsData
sum_of_told first second = record {
  of_device = λ addr. sum_of (first.of_device addr) (second.of_device addr);
  packets = first.packets + second.packets;
  refusals = first.refusals + second.refusals;
  bad_tokens = first.bad_tokens + second.bad_tokens;
  others = first.others + second.others;
}
