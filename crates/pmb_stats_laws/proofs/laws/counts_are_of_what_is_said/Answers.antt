use Rattle.std.proofs.Common.{filter}
use Rattle.pmb_facts.specs.Fact.{WhatData, fact_device}
use Rattle.pmb_stats.specs.BitCounts.{finds_set}
use Rattle.pmb_stats_counts.specs.Counts.{ends_packet, is_absent, is_address, is_bad_token, is_sort, names, names_none}
use Rattle.pmb_stats_counts.specs.Sort.{sort_of}
use Rattle.pmb_stats_laws.proofs.Counted.{as_many, some_say_the_same}
use Rattle.pmb_stats_laws.proofs.laws.counts_are_of_what_is_said.Goals as goal

pub returns : goal.returns
returns c firsts others whole same = record {
  of_device = λ addr sort. as_many (λ (what : WhatData). is_sort sort (sort_of what)) (filter (names addr) firsts)
      (filter (names addr) others) (filter (names addr) whole)
      (some_say_the_same (λ (what : WhatData). is_address addr (fact_device what)) firsts others whole same);
  of_none = λ sort. as_many (λ (what : WhatData). is_sort sort (sort_of what)) (filter names_none firsts)
      (filter names_none others) (filter names_none whole)
      (some_say_the_same (λ (what : WhatData). is_absent (fact_device what)) firsts others whole same);
  in_all = λ sort. as_many (λ (what : WhatData). is_sort sort (sort_of what)) firsts others whole same;
  of_packets = as_many ends_packet firsts others whole same;
  of_bad_tokens = as_many is_bad_token firsts others whole same;
  of_bits = λ addr code bit. as_many (finds_set addr code bit) firsts others whole same;
}
