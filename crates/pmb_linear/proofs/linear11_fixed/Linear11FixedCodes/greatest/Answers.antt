use Rattle.std.proofs.Common.{sym, ap, ◌∙◌, subst}
use Rattle.pmb_linear.specs.Linear.{linear11_fixed}
use Rattle.pmb_linear.specs.machine.Fields.{word_at}
use Rattle.pmb_format.specs.Row.{IsGreatest}
use Rattle.pmb_linear.specs.machine.Row.{linear11_row}
use Rattle.pmb_format.proofs.EvenRows.{last_is_greatest}
use Rattle.pmb_linear.proofs.FixedExponent.{rises-linear11_fixed}
use Rattle.pmb_linear.proofs.linear11_fixed.Linear11FixedCodes.greatest.Goals as goal

pub returns : goal.returns
returns c =
    let e = c.args.self.now in
    subst (IsGreatest (linear11_fixed e)) (sym (c.word.ensures.value ∙ ap (λ p. word_at p 2047) c.power.ensures.value))
    (last_is_greatest (linear11_fixed e) (linear11_row e) (rises-linear11_fixed e c.power.ensures.in_range))
