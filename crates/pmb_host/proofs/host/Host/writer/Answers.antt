use Rattle.std.proofs.Common.{ap, map, refl}
use Rattle.std.specs.Prelude.{is_ok}
use Rattle.pmb_request.specs.Request.{WriteParts}
use Rattle.pmb_transaction.specs.Transaction.{part_data}
use Rattle.pmb_host.proofs.host.Host.writer.Goals as goal

pub returns-in-Ok : goal.returns-in-Ok
returns-in-Ok c = c.of.ensures (WriteParts (map part_data c.args.parts.items)) 0
    (c.check.ensures.packet.0 (ap is_ok c.in-Ok.is), refl) refl tt
