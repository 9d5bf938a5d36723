use Rattle.std.proofs.Common.{◌≡◌, ◌∙◌, List, sym}
use Rattle.pmb_facts.specs.Fact.{FactData}
use Rattle.pmb_io.specs.Count.{capped}
use Rattle.pmb_stats_counts.proofs.Empty.{any_alike}
use Rattle.pmb_stats_counts.proofs.laws.one_count.Goals as goal
use Rattle.pmb_stats_counts.specs.declared.counts.SortCounts.{SortCounts}
use Rattle.pmb_stats_counts.specs.declared.sort.Sort.{Sort}
use Rattle.pmb_stats_counts.specs.Alike.{CountAlike}
use Rattle.pmb_stats_counts.specs.Counts.{count_in_all}
use Rattle.pmb_stats_counts.specs.Standing.{HasCounted}

counted_alike : (counts : SortCounts) (facts others : List FactData) → HasCounted counts facts
    → HasCounted counts others → CountAlike facts others
counted_alike counts facts others stands other =
    let each : (sort : Sort) → capped (count_in_all sort facts) ≡ capped (count_in_all sort others)
    = λ sort. sym (stands.each sort) ∙ other.each sort in
    record { each = each; any = any_alike facts others each }

pub returns : goal.returns
returns c = record {
  counts = counted_alike;
  totals = λ totals facts others stands other. record {
    sorts = counted_alike totals.sorts facts others stands.sorts other.sorts;
    packets_are = sym stands.packets_are ∙ other.packets_are;
    bad_tokens_are = sym stands.bad_tokens_are ∙ other.bad_tokens_are;
  };
}
