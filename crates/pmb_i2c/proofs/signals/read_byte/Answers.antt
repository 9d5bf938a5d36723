use Rattle.std.proofs.Common.{sym}
use Rattle.pmb_device.specs.declared.signal.HostSignal.TheVariants.{Ask}
use Rattle.pmb_i2c.specs.Message.{answered}
use Rattle.pmb_i2c.proofs.InTurn.{gives_as, gives_two}
use Rattle.pmb_i2c.proofs.signals.read_byte.Goals as goal

pub returns : goal.returns
returns g c =
    gives_as
    (gives_two (answered Ask c.give-answer.result) (answered c.args.reply c.give.result) c.give-answer.ensures
    c.give.ensures)
    (λ heard signals.
    record { answer = c.give-answer.result; silence = c.give.result; byte_is = sym c.byte_of.ensures; signals = signals })
