use Rattle.std.proofs.Common.{◌<◌, Ok, arith, refl}
use Rattle.std.proofs.lemmas.Result.{err_from_is_err_and}
use Rattle.pmb_i2c.specs.Message.{ReadsAll}
use Rattle.pmb_i2c.proofs.InTurn.{gives_as}
use Rattle.pmb_i2c.proofs.Messages.{fails, sends}
use Rattle.pmb_i2c.proofs.message.read.Goals as goal

pub returns-in_err-begin-clause-signals : goal.returns-in_err-begin-clause-signals
returns-in_err-begin-clause-signals g c =
    let below : c.args.address < 128 = omega arith in
    let p = err_from_is_err_and c.from_residual.result c.from_residual.ensures.1 in
    rw (p.1, p.2) (fails below (c.read_address.ensures.seven_bits below) c.in_err-begin.ensures)

pub returns-clause-signals : goal.returns-clause-signals
returns-clause-signals g c =
    let below : c.args.address < 128 = omega arith in
    sends below (c.read_address.ensures.seven_bits below) refl c.in_ok-begin.ensures
    (gives_as {Else = ReadsAll c.read_bytes.new.bytes (Ok tt)} c.read_bytes.ensures
    (λ heard reads. record { done = refl; reads = reads }))
    c.finish.ensures
