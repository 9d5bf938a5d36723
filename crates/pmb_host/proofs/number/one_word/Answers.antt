use Rattle.pmb_value.specs.NumberFormat.{number_coding}
use Rattle.pmb_host.proofs.OneNearest.{one_nearest}
use Rattle.pmb_host.proofs.number.one_word.Goals as goal

pub returns : goal.returns
returns c = λ a b. one_nearest (number_coding c.args.format) c.obeys_laws.ensures.one_code c.obeys_laws.ensures.one_even
    c.args.value.now a b c.den.ensures.holds.positive
