use Rattle.std.proofs.Common.{◌<◌, arith}
use Rattle.std.proofs.lemmas.Result.{err_from_is_err_and}
use Rattle.pmb_i2c.proofs.Messages.{fails, sends}
use Rattle.pmb_i2c.proofs.message.write.Goals as goal

pub returns-in_err-begin : goal.returns-in_err-begin
returns-in_err-begin g c =
    let below : c.args.address < 128 = omega arith in
    let p = err_from_is_err_and c.from_residual.result c.from_residual.ensures.1 in
    rw (p.1, p.2) (fails below (c.write_address.ensures.seven_bits below) c.in_err-begin.ensures)

pub returns : goal.returns
returns g c =
    let below : c.args.address < 128 = omega arith in
    sends below (c.write_address.ensures.seven_bits below) c.is_err.ensures.value c.in_ok-begin.ensures
    c.write_bytes-outcome.ensures c.finish.ensures
