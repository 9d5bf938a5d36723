use Rattle.std.proofs.Common.{◌≡◌, ◌+◌, ℕ, map, take, max, ap, ◌∙◌, arith}
use Rattle.std.proofs.lemmas.Grind.{common_steps}
use Rattle.pmb_log_lines.specs.Layout.{name_length, greatest}
use Rattle.pmb_log_lines.proofs.Greatest.{greatest_more}
use Rattle.pmb_log_lines.proofs.layout.name_width.Goals as goal

-- one element more
pub loop-index-preserved : goal.loop-index-preserved
loop-index-preserved c =
    let step : c.max-width.result ≡ max c.loop-index.width c.name_length.result =
    grind (arith, common_steps, c.max-width.ensures) in
    let wider : c.max-width.result ≡ greatest (map name_length (take (c.loop-index.index + 1) c.args.profile.now)) =
    step ∙ ap (λ (n : ℕ). max n c.name_length.result) c.loop-index.invariant.width
    ∙ greatest_more name_length c.args.profile.now c.loop-index.index c.name_length.result
    (omega (arith, c.loop-index-test.true, c.len-index-end.ensures.len)) c.name_length.ensures.length in
    record {
      width = wider;
      narrow = omega (arith, step, c.loop-index.invariant.narrow, c.name_length.ensures.narrow);
    }
