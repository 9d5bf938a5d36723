use Rattle.std.proofs.Common.{sym, ap, ◌∙◌, subst}
use Rattle.pmb_linear.specs.Linear.{linear11_fixed}
use Rattle.pmb_linear.specs.machine.Fields.{word_at}
use Rattle.pmb_format.specs.Row.{IsLeast}
use Rattle.pmb_linear.specs.machine.Row.{linear11_row}
use Rattle.pmb_format.proofs.EvenRows.{first_is_least}
use Rattle.pmb_linear.proofs.FixedExponent.{rises-linear11_fixed}
use Rattle.pmb_linear.proofs.linear11_fixed.Linear11FixedCodes.least.Goals as goal

pub returns : goal.returns
returns c =
    let e = c.args.self.now in
    subst (IsLeast (linear11_fixed e)) (sym (c.word.ensures.value ∙ ap (λ p. word_at p 0) c.power.ensures.value))
    (first_is_least (linear11_fixed e) (linear11_row e) (rises-linear11_fixed e c.power.ensures.in_range))
