-- Lists of facts of which the same counts are told.
use Rattle.std.specs.Prelude.{◌≡◌, List}
use Rattle.std.specs.List.{list_any}
use Rattle.pmb_facts.specs.Fact.{FactData}
use Rattle.pmb_io.specs.Count.{capped}
use Rattle.pmb_stats_counts.specs.declared.sort.Sort.{Sort}
use Rattle.pmb_stats_counts.specs.Counts.{bad_tokens, count_in_all, has_sort, packets}

-- of each sort as many, as far as a count goes
pub record CountAlike (facts others : List FactData) : Type 0 where
  pub each : (sort : Sort) → capped (count_in_all sort facts) ≡ capped (count_in_all sort others)
  pub any : list_any has_sort facts ≡ list_any has_sort others

-- .. and packets, and words that are no token
pub record TotalAlike (facts others : List FactData) : Type 0 where
  pub sorts : CountAlike facts others
  pub packets_are : capped (packets facts) ≡ capped (packets others)
  pub bad_tokens_are : capped (bad_tokens facts) ≡ capped (bad_tokens others)
