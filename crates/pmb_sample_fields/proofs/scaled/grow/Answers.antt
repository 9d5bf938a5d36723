use Rattle.std.proofs.Common.{◌-◌, ◌∙◌, ℕ, ap, sym, arith}
use Rattle.pmb_sample_fields.specs.Scaled.{most}
use Rattle.pmb_sample_fields.specs.machine.Digits.{grown}
use Rattle.pmb_sample_fields.proofs.GrowLemmas.{grown_most, grown_none, grows}
use Rattle.pmb_sample_fields.proofs.scaled.grow.Goals as goal
use Rattle.pmb_sample_fields.proofs.scaled.grow.Goals.{then-now-eq0-via-then-now-eq0, then-now-eq0-via-else-now-eq0+then-now-eq-MOST}

-- no zero changes 0, nor the greatest number
pub returns-then-now-eq0-clause-value : goal.returns-then-now-eq0-clause-value
returns-then-now-eq0-clause-value c = elim c.then-now-eq0.branch [
  | then-now-eq0-via-then-now-eq0 w ↦
      sym (c.loop-left.invariant.same ∙ grown_none most c.loop-left.now c.loop-left.left w.if-now-eq0.true)
  | then-now-eq0-via-else-now-eq0+then-now-eq-MOST w ↦
      sym (c.loop-left.invariant.same ∙ grown_most most c.loop-left.now c.loop-left.left w.if-now-eq-MOST.true)
]

pub loop-left-preserved : goal.loop-left-preserved
loop-left-preserved c = record {
  same =
      c.loop-left.invariant.same ∙ grows most c.loop-left.now c.loop-left.left c.loop-left-test.true
      ∙ ap (λ (n : ℕ). grown most n (c.loop-left.left - 1)) (sym c.capped-now.ensures);
  small = omega (arith, c.capped-now.ensures);
}
