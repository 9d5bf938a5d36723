use Rattle.std.proofs.Common.{◌≡◌, ◌+◌, ℕ, map, take, max, ap, ◌∙◌, arith}
use Rattle.std.proofs.lemmas.Grind.{common_steps}
use Rattle.pmb_log_lines.specs.Layout.{page_count, greatest}
use Rattle.pmb_log_lines.proofs.Greatest.{greatest_more}
use Rattle.pmb_log_lines.proofs.layout.most_pages.Goals as goal

-- one element more
pub loop-index-preserved : goal.loop-index-preserved
loop-index-preserved c =
    let step : c.max-most.result ≡ max c.loop-index.most c.page_count.result =
    grind (arith, common_steps, c.max-most.ensures) in
    let wider : c.max-most.result ≡ greatest (map page_count (take (c.loop-index.index + 1) c.args.profile.now)) =
    step ∙ ap (λ (n : ℕ). max n c.page_count.result) c.loop-index.invariant
    ∙ greatest_more page_count c.args.profile.now c.loop-index.index c.page_count.result
    (omega (arith, c.loop-index-test.true, c.len-index-end.ensures.len)) c.page_count.ensures in
    wider
