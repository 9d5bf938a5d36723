use Rattle.pmb_transaction.specs.Transaction.{transaction_data}
use Rattle.pmb_writer.proofs.Packets.{answer_is}
use Rattle.pmb_writer.proofs.validity.check.Goals as goal

pub returns-clause-packet : goal.returns-clause-packet
returns-clause-packet c =
    answer_is c.args.profile.now (transaction_data c.args.transaction.now) c.check_rules.result
    c.check_rules.ensures.typed c.accepted_bus.ensures.devices c.check_rules.ensures.rules
