use Rattle.std.proofs.Common.{◌≡◌, ◌+◌, ◌-◌, take, sym, ap, ◌∙◌, arith}
use Rattle.pmb_quantity.specs.Reading.{without_last_zeros}
use Rattle.pmb_quantity.proofs.ReadingLemmas.{zero_goes, other_stays, AllDigits-take}
use Rattle.pmb_quantity.proofs.parse.without_last_zeros.Goals as goal

-- a zero at the end counts for nothing
pub loop-end-preserved : goal.loop-end-preserved
loop-end-preserved c =
    let ds = c.args.digits.now in
    let n = c.loop-end.end - 1 in
    let next : n + 1 ≡ c.loop-end.end = omega arith in (
      sym (zero_goes ds n (omega (arith, c.loop-end.invariant.1)) c.if-digits-end-ne48.false)
          ∙ ap (λ k. without_last_zeros (take k ds)) next ∙ c.loop-end.invariant.0,
      omega (arith, c.loop-end.invariant.1),
    )

-- any other digit at the end stays
pub returns-then-digits-end-ne48-clause-value : goal.returns-then-digits-end-ne48-clause-value
returns-then-digits-end-ne48-clause-value c =
    let ds = c.args.digits.now in
    let n = c.loop-end.end - 1 in
    let next : c.loop-end.end ≡ n + 1 = omega arith in
    ap (λ k. take k ds) next ∙ sym (other_stays ds n (omega (arith, c.loop-end.invariant.1)) c.if-digits-end-ne48.true)
    ∙ ap (λ k. without_last_zeros (take k ds)) (sym next) ∙ c.loop-end.invariant.0

pub returns-then-digits-end-ne48-clause-digits : goal.returns-then-digits-end-ne48-clause-digits
returns-then-digits-end-ne48-clause-digits c = AllDigits-take c.loop-end.end c.args.digits.now c.requires
