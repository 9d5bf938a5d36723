use Rattle.std.proofs.Common.{◌≡◌, drop, map, nat_eq}
use Rattle.std.specs.List.{list_any}
use Rattle.pmb_transaction.specs.Transaction.{part_data}
use Rattle.pmb_transaction.specs.Packet.{addresses}
use Rattle.pmb_writer.proofs.validity.has_address.Given as goal

-- the addresses so far are others
abbrev pub invariant-loop-part : goal.invariant-loop-part
invariant-loop-part l =
    list_any (nat_eq l.fn.address) (addresses (map part_data (drop l.part-index l.parts)))
    ≡ list_any (nat_eq l.fn.address) (addresses (map part_data l.parts))
