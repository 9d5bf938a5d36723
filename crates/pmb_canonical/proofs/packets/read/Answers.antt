use Rattle.std.proofs.Common.{arith}
use Rattle.std.proofs.lemmas.Grind.{common_steps}
use Rattle.pmb_canonical.proofs.Behind.{read_data}
use Rattle.pmb_canonical.proofs.packets.read.Goals as goal

pub returns-in_err-data-clause-found : goal.returns-in_err-data-clause-found
returns-in_err-data-clause-found c address code data_bytes with_pec says =
    let stand = read_data c.args.profile.now address code data_bytes with_pec c.args.bytes.now says in
    grind (arith, common_steps, stand, c.in_err-data.ensures.found data_bytes with_pec)
