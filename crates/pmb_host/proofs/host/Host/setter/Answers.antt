use Rattle.std.proofs.Common.{refl}
use Rattle.pmb_request.specs.Request.{Command, Set}
use Rattle.pmb_host.proofs.host.Host.setter.Goals as goal

pub returns-in-Ok : goal.returns-in-Ok
returns-in-Ok c =
    let command : Command = record { addr = c.args.addr; code = c.args.code; pec = c.args.pec } in
    c.of.ensures (Set command c.args.value.now c.args.mode) c.in-Ok.word (c.in-Ok.ensures, refl) c.write_of.ensures tt
