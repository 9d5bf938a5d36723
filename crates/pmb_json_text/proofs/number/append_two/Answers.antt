-- A digit, or two.
use Rattle.std.proofs.Common.{List, ℕ, ◌++◌, sym, ap, ◌∙◌, arith}
use Rattle.std.proofs.lemmas.Fmt.{decimal_digit}
use Rattle.pmb_json_text.proofs.Decimals.{decimal_of_two}
use Rattle.pmb_json_text.proofs.number.append_two.Goals as goal

pub returns-then-number-lt10-clause-text : goal.returns-then-number-lt10-clause-text
returns-then-number-lt10-clause-text g c = c.push.ensures.items ∙ ap (λ (t : List ℕ). c.args.out.now.items ++ t)
    (sym (decimal_digit c.args.number (omega arith)))

pub returns-else-number-lt10-clause-text : goal.returns-else-number-lt10-clause-text
returns-else-number-lt10-clause-text g c =
    c.append_pair.ensures.text ∙ ap (λ (t : List ℕ). c.args.out.now.items ++ t)
    (sym (decimal_of_two c.args.number (omega arith) (omega arith)))
