-- Two digits twice after what comes before them, or a text of its own.
use Rattle.std.proofs.Common.{◌≡◌, ◌/◌, List, ℕ, ◌++◌, decimal, ap, ◌∙◌, arith}
use Rattle.pmb_json_text.proofs.Decimals.{number_appended}
use Rattle.pmb_json_text.proofs.number.append_number.Goals as goal

pub returns-then-number-lt100000000-clause-text : goal.returns-then-number-lt100000000-clause-text
returns-then-number-lt100000000-clause-text g c =
    let number = c.args.number in
    let old = c.args.out.now.items in
    let front : number / 10000 ≡ number / 100 / 100 = omega arith in
    let first = c.append_four-then-number-lt100000000.ensures.text ∙ ap (λ (n : ℕ). old ++ decimal n) front in
    number_appended number old (omega arith) (omega arith)
    (number_appended (number / 100) old (omega arith) (omega arith) first c.append_pair.ensures.text)
    c.append_pair-then-number-lt100000000.ensures.text

pub returns-else-number-lt100000000-clause-text : goal.returns-else-number-lt100000000-clause-text
returns-else-number-lt100000000-clause-text g c =
    c.append.ensures ∙ ap (λ (t : List ℕ). c.args.out.now.items ++ t) (c.as_bytes.ensures.value ∙ c.format.ensures.text)
