use Rattle.std.proofs.Common.{◌++◌, ◌∙◌, ap, List, ℕ}
use Rattle.std.proofs.lemmas.List.{take-replicate}
use Rattle.pmb_saleae.specs.Exponent.{digit_0}
use Rattle.pmb_saleae.proofs.exponent.append_zeros.Goals as goal

pub returns-clause-text : goal.returns-clause-text
returns-clause-text c =
    c.append.ensures.text
    ∙ ap (λ (zeros : List ℕ). c.args.text.now.items ++ zeros) (take-replicate c.args.count 40 digit_0 c.requires.few)
