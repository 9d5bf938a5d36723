use Rattle.std.proofs.Common.{◌≡◌, ◌+◌, ℕ, map, take, max, ap, ◌∙◌, arith}
use Rattle.std.proofs.lemmas.Grind.{common_steps}
use Rattle.pmb_log_lines.specs.Layout.{greatest}
use Rattle.pmb_log_lines.proofs.Greatest.{greatest_more}
use Rattle.pmb_stats_table.specs.Widths.{device_phase_width}
use Rattle.pmb_stats_table.proofs.widths.phase_width.Goals as goal

-- one element more
pub loop-index-preserved : goal.loop-index-preserved
loop-index-preserved c =
    let step : c.max-width.result ≡ max c.loop-index.width c.phase_width_at.result =
    grind (arith, common_steps, c.max-width.ensures) in
    let wider
    : c.max-width.result ≡ greatest (map device_phase_width (take (c.loop-index.index + 1) c.args.profile.now)) =
    step ∙ ap (λ (n : ℕ). max n c.phase_width_at.result) c.loop-index.invariant.width
    ∙ greatest_more device_phase_width c.args.profile.now c.loop-index.index c.phase_width_at.result
    (omega (arith, c.loop-index-test.true, c.len-index-end.ensures.len)) c.phase_width_at.ensures.width in
    record {
      width = wider;
      narrow = omega (arith, step, c.loop-index.invariant.narrow, c.phase_width_at.ensures.narrow);
    }
