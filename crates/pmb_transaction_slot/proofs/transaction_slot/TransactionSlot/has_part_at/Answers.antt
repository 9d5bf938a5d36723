use Rattle.std.proofs.Common.{◌≡◌, true, List, nat_eq, sym, ap, subst, ◌∙◌}
use Rattle.std.specs.List.{list_any}
use Rattle.pmb_transaction.specs.Transaction.{PartData}
use Rattle.pmb_transaction.specs.Packet.{addresses}
use Rattle.pmb_transaction_slot.specs.TransactionSlot.{KeptData}
use Rattle.pmb_transaction_slot.proofs.FoundParts.{found_part}
use Rattle.pmb_transaction_slot.proofs.transaction_slot.TransactionSlot.has_part_at.Goals as goal

pub returns-then-part-addr : goal.returns-then-part-addr
returns-then-part-addr c =
    let found = found_part c.args.addr c.front_parts-part-items.result.now c.loop-part.part-index c.part-item.result
    c.loop-part-test.true c.part-item.is c.if-part-addr.true in
    let same = c.front_parts-part-items.ensures ∙ ap (λ (k : KeptData). k.parts) c.self.view_is in
    sym (subst (λ (ps : List PartData). list_any (nat_eq c.args.addr) (addresses ps) ≡ true) same found)
