use Rattle.std.proofs.Common.{◌≡◌, ℕ, ap, arith, inl, inr, length, nat_eq, refl, subst, sym}
use Rattle.std.proofs.lemmas.Bool.{cases_Bool, eqb-false, eqb-true}
use Rattle.std.proofs.lemmas.Option.{slice_get_read}
use Rattle.pmb_stats_bits.specs.Bits.{set_count}
use Rattle.pmb_stats_objects.specs.machine.Written.{has_any}
use Rattle.pmb_stats_objects.proofs.Found.{kept_some, kept_zero, no_bits, some_bits}
use Rattle.pmb_stats_objects.proofs.items.has_bit.Goals as goal

pub returns-then-count-gt0 : goal.returns-then-count-gt0
returns-then-count-gt0 c = λ page phase command reads stands sixteen.
    let bits = c.args.bits.now in
    let i = c.loop-history.history-index in
    let history = c.history-item.result in
    let here = stands i history (slice_get_read bits (length bits) i history refl c.loop-history-test.true
    c.history-item.is) in
    sym (some_bits page phase command reads 16 i (omega (arith, c.loop-history-test.true, sixteen))
    (kept_some c.count.result (set_count reads i) (c.count.ensures reads i here)
    (λ none. omega (arith, none, c.if-count-gt0.true))))

pub loop-history-preserved : goal.loop-history-preserved
loop-history-preserved c = record {
  none = λ reads stands bit below.
      let bits = c.args.bits.now in
      let i = c.loop-history.history-index in
      let history = c.history-item.result in
      let here = stands i history (slice_get_read bits (length bits) i history refl c.loop-history-test.true
      c.history-item.is) in
      elim (cases_Bool (nat_eq bit i)) [
        | inl same ↦
            subst (λ (n : ℕ). set_count reads n ≡ 0) (sym (eqb-true bit i same))
            (kept_zero c.count.result (set_count reads i) (c.count.ensures reads i here)
            (omega (arith, c.if-count-gt0.false)))
        | inr differ ↦
            let other = eqb-false bit i differ in
            c.loop-history.invariant.none reads stands bit (omega (arith, below, other))
      ];
}

pub returns : goal.returns
returns c = λ page phase command reads stands sixteen.
    sym (ap has_any (no_bits page phase command reads 16
    (λ bit below. c.loop-history.invariant.none reads stands bit
    (omega (arith, below, sixteen, c.loop-history-test.false)))))
