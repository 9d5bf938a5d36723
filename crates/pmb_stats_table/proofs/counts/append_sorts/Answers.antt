use Rattle.std.proofs.Common.{◌≡◌, ◌+◌, ◌*◌, List, codes, get_or, ℕ, ap, ◌∙◌, arith}
use Rattle.pmb_facts.specs.Fact.{FactData}
use Rattle.pmb_log_data.proofs.Texts.{at_most}
use Rattle.pmb_stats_counts.specs.declared.sort.Sort.{Sort}
use Rattle.pmb_stats_counts.specs.declared.sort.Sort.TheVariants.{Writes}
use Rattle.pmb_stats_table.specs.Counts.{counted_if, sort_name, sort_words}
use Rattle.pmb_stats_table.proofs.Items.{joined_more, place_more}
use Rattle.pmb_stats_table.proofs.counts.append_sorts.Goals as goal

-- one count more
pub loop-sort-preserved : goal.loop-sort-preserved
loop-sort-preserved g c =
    let sorts = c.args.sorts.now in
    let i = c.loop-sort.sort-index in
    let sort : Sort = get_or sorts i Writes in
    let item : (facts : List FactData) → g.C.Counted.HasCounted c.args.counts.now facts
    → counted_if c.sort_name.result.now c.count_of.result ≡ sort_words facts sort =
    λ facts has. ap (λ (name : List ℕ). counted_if name c.count_of.result) c.sort_name.ensures.name
    ∙ ap (counted_if (sort_name sort)) (c.count_of.ensures facts has) in
    record {
      says = λ facts has. at_most (37 * (i + 1)) (omega arith)
          (joined_more (codes ", ") (sort_words facts) sorts i Writes c.loop-sort-test.true (item facts has)
          (c.loop-sort.invariant.place facts has) (c.loop-sort.invariant.says facts has)
          c.append_item-place.ensures.says);
      place = λ facts has.
          place_more (codes ", ") (sort_words facts) sorts i Writes c.loop-sort-test.true (item facts has)
          (c.loop-sort.invariant.place facts has) c.append_item-place.ensures.place;
      longer = omega (arith, c.append_item-place.ensures.says.longer, c.loop-sort.invariant.longer);
    }
