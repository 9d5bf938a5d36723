use Rattle.std.proofs.Common.{[], map}
use Rattle.pmb_transaction.specs.Transaction.{part_data}
use Rattle.pmb_writer.specs.Invalid.{parts_rules}
use Rattle.pmb_writer.proofs.Rules.{Lead, rules_from}
use Rattle.pmb_writer.proofs.validity.check_parts.Given as goal

-- the parts so far keep their rules
abbrev pub invariant-loop-number : goal.invariant-loop-number
invariant-loop-number l = Lead (rules_from l.profile l.parts l.number)
    (parts_rules l.profile [] (map part_data l.parts))
