use Rattle.std.proofs.Common.{◌∙◌, ◌++◌, sym, ap, arith}
use Rattle.pmb_decimal.proofs.DigitLemmas.{last_goes, all_stay}
use Rattle.pmb_mean.proofs.decimal.+append_digits.Goals as goal

pub returns-then-number-eq0-clause-text : goal.returns-then-number-eq0-clause-text
returns-then-number-eq0-clause-text g t c =
    c.append_digits.ensures.text ∙ ap (λ ds. c.args.out.now.items ++ ds)
    (sym (last_goes c.args.places c.args.number (omega arith) c.if-number-eq0.true))

pub returns-else-number-eq0-clause-text : goal.returns-else-number-eq0-clause-text
returns-else-number-eq0-clause-text g t c =
    c.append_padded.ensures.text ∙ ap (λ ds. c.args.out.now.items ++ ds)
    (sym (all_stay c.args.places c.args.number (omega arith) c.if-number-eq0.false))
