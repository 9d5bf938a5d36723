use Rattle.std.proofs.Common.{sym, ◌∙◌}
use Rattle.pmb_format.specs.Coding.{value_of}
use Rattle.pmb_value.specs.NumberFormat.{number_coding}
use Rattle.pmb_value.specs.WordFault.{word_fault}
use Rattle.pmb_mean.proofs.Values.{value_is}
use Rattle.pmb_mean.proofs.number.Number.of_word.Goals as goal

pub invariant_of-result : goal.invariant_of-result
invariant_of-result c =
    let format = c.args.format.now in
    let word = c.args.word in
    let same = value_is (word_fault format word) (value_of (number_coding format) word) c.in-Ok.value
    (sym c.value.ensures ∙ c.in-Ok.is) in
    rw (← same, c.of.ensures) (c.fits_kind.ensures c.args.assumed)
