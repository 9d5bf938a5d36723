use Rattle.std.proofs.Common.{◌≡◌, false, map, take, nat_eq}
use Rattle.std.specs.List.{list_any}
use Rattle.pmb_transaction.specs.Transaction.{part_data}
use Rattle.pmb_transaction.specs.Packet.{addresses}
use Rattle.pmb_transaction_slot.proofs.transaction_slot.TransactionSlot.has_part_at.Given as goal

abbrev pub invariant-loop-part : goal.invariant-loop-part
invariant-loop-part l = list_any (nat_eq l.addr) (addresses (map part_data (take l.part-index l.part-items))) ≡ false
