use Rattle.std.proofs.Common.{subst}
use Rattle.pmb_convert.specs.Answer.{EncodesRead}
use Rattle.pmb_value.specs.NumberFormat.{number_coding}
use Rattle.pmb_convert.specs.machine.Converting.{answer_of}
use Rattle.pmb_convert.proofs.conversion.encoded.Goals as goal

pub returns-in-Ok : goal.returns-in-Ok
returns-in-Ok c = subst (λ read. EncodesRead (number_coding c.args.format.now) read
    (answer_of c.encoded_quantity.result)) c.in-Ok.ensures c.encoded_quantity.ensures
