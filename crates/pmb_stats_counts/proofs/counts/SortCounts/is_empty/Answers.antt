use Rattle.std.proofs.Common.{◌≡◌, length, rules, ◌∙◌}
use Rattle.pmb_stats_counts.proofs.Empty.{empty_is}
use Rattle.pmb_stats_counts.proofs.counts.SortCounts.is_empty.Goals as goal

pub returns : goal.returns
returns c facts counted =
    let long : length c.args.self.now.counts ≡ 18 = search rules in
    c.are_zero.ensures ∙ empty_is c.args.self.now.counts facts long counted.each
