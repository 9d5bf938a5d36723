use Rattle.std.proofs.Common.{◌++◌, ap, ◌∙◌, length, length-append, arith}
use Rattle.pmb_quantity.proofs.TextLemmas.{short_decimal}
use Rattle.pmb_mean.proofs.decimal.append_whole.Goals as goal

pub append-requires : goal.append-requires
append-requires g c =
    omega (
      arith,
      ap length (c.as_bytes.ensures.value ∙ c.format.ensures.text),
      short_decimal c.args.whole c.requires.fits,
    )

pub returns-clause-text : goal.returns-clause-text
returns-clause-text g c =
    c.append.ensures ∙ ap (λ ds. c.args.out.now.items ++ ds) (c.as_bytes.ensures.value ∙ c.format.ensures.text)

pub returns-clause-short : goal.returns-clause-short
returns-clause-short g c =
    let written = simp length-append at (ap length c.append.ensures) in
    omega (
      arith,
      ap length (c.as_bytes.ensures.value ∙ c.format.ensures.text),
      short_decimal c.args.whole c.requires.fits,
    )
