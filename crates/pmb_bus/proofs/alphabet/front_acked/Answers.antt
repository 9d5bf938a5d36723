use Rattle.std.proofs.Common.{ap}
use Rattle.pmb_bus.specs.Text.{is_separator}
use Rattle.pmb_bus.proofs.FrontTokens.{front_acked_found, front_acked_exactly}
use Rattle.pmb_bus.proofs.alphabet.front_acked.Goals as goal

pub returns-clause-tokens : goal.returns-clause-tokens
returns-clause-tokens c =
    front_acked_found c.args.bytes.now c.digits.result c.in-len5-up.len_at_least c.digits.ensures
    (ap is_separator c.if-behind-ne32.false) c.if-ack-ne65.false
    (ap is_separator c.if-last-ne32.false)

pub returns-clause-exactly : goal.returns-clause-exactly
returns-clause-exactly c =
    front_acked_exactly c.args.bytes.now c.digits.result c.in-len5-up.len_at_least c.digits.ensures
    c.if-behind-ne32.false c.if-ack-ne65.false
    c.if-last-ne32.false
