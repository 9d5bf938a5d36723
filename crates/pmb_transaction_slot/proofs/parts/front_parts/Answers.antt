use Rattle.std.proofs.Common.{List, map, take, ap, sym, ◌∙◌}
use Rattle.std.proofs.lemmas.List.{take-map}
use Rattle.pmb_transaction.specs.declared.part.Part.{Part}
use Rattle.pmb_transaction.specs.declared.transaction.Transaction.{Transaction}
use Rattle.pmb_transaction.specs.Transaction.{part_data}
use Rattle.pmb_transaction_slot.specs.TransactionKind.{parts_of}
use Rattle.pmb_transaction_slot.proofs.parts.front_parts.Goals as goal

pub returns-in-Write : goal.returns-in-Write
returns-in-Write c =
    ap (λ (ps : List Part). map part_data (take c.args.count ps)) c.as_slice.ensures.value
    ∙ sym (take-map part_data c.args.count c.in-Write.parts.items)
    ∙ sym (ap (λ (t : Transaction). take c.args.count (parts_of t)) c.in-Write.is)
