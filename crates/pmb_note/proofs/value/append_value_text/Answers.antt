use Rattle.std.proofs.Common.{◌∙◌, ◌++◌, List, ℕ, codes, ap, arith}
use Rattle.pmb_note.proofs.Texts.{at_most, called, then}
use Rattle.pmb_note.proofs.value.append_value_text.Goals as goal

pub returns : goal.returns
returns g c = called (ap (λ (text : List ℕ). codes " " ++ text)
    (c.as_str.ensures.value ∙ c.text.ensures))
    (at_most 46 (omega (arith, c.as_str.ensures.fits)) (then c.append.ensures c.append-2.ensures))
