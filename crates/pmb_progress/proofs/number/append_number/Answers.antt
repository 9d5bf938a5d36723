-- A smaller number has fewer digits.
use Rattle.std.proofs.Common.{◌≡◌, ◌∙◌, ℕ, List, length, decimal, ap, arith}
use Rattle.std.proofs.lemmas.Fmt.{length-decimal-le}
use Rattle.pmb_progress.proofs.number.append_number.Goals as goal

pub returns-clause-tenth : goal.returns-clause-tenth
returns-clause-tenth g c =
    let number = c.args.number in
    let text : c.as_bytes.result.now ≡ decimal number = c.as_bytes.ensures.value ∙ c.format.ensures.text in
    λ small. let digits = length-decimal-le 19 number (omega arith) (omega arith) (omega arith) in
    omega (arith, c.append.ensures.longer, ap (λ (t : List ℕ). length t) text, digits)

pub returns-clause-short : goal.returns-clause-short
returns-clause-short g c =
    let number = c.args.number in
    let text : c.as_bytes.result.now ≡ decimal number = c.as_bytes.ensures.value ∙ c.format.ensures.text in
    λ small. let digits = length-decimal-le 11 number (omega arith) (omega arith) (omega arith) in
    omega (arith, c.append.ensures.longer, ap (λ (t : List ℕ). length t) text, digits)
