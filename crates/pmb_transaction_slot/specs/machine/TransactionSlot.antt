-- The transactions that are kept.
use Rattle.std.specs.Prelude.{◌≡◌, ◌≤◌, length, take}
use Rattle.pmb_transaction.specs.declared.transaction.Transaction.{Transaction}
use Rattle.pmb_transaction.specs.declared.transaction.Transaction.TheVariants as kinds
use Rattle.pmb_transaction.specs.Transaction.{transaction_data}
use Rattle.pmb_transaction_slot.specs.declared.transaction_slot.TransactionSlot.TheInside.{Inside}
use Rattle.pmb_transaction_slot.specs.declared.transaction_slot.Last.{Last}
use Rattle.pmb_transaction_slot.specs.declared.transaction_slot.Last.TheVariants.{Single, Of}
use Rattle.pmb_transaction_slot.specs.declared.transaction_kind.TransactionKind.{TransactionKind}
use Rattle.pmb_transaction_slot.specs.declared.transaction_kind.TransactionKind.TheVariants.{Write, Read, Call, Refused}
use Rattle.pmb_transaction_slot.specs.declared.transaction_kind.TransactionKind.TheVariants.{Alert, NoAlert}
use Rattle.pmb_transaction_slot.specs.TransactionKind.{parts_of}
use Rattle.pmb_transaction_slot.specs.TransactionSlot.{KeptData}

-- the transaction of a kind
abbrev pub of_kind : TransactionKind → Inside → Transaction
of_kind Write kept = kept.write
of_kind Read kept = kept.read
of_kind Call kept = kept.call
of_kind Refused kept = kept.refused
of_kind Alert kept = kept.alert
of_kind NoAlert kept = kept.no_alert

-- the one that ended last
abbrev pub of_last : Last → Inside → Transaction
of_last Single kept = kept.single
of_last (Of kind) kept = of_kind kind kept

-- The first parts of the write are those of the packet under way; those after them are left over.
abbrev pub kept_data : Inside → KeptData
kept_data kept = record {
  parts = take kept.count (parts_of kept.write);
  last =
      transaction_data (of_last kept.last kept);
}

-- The write has at least `count` parts; `NoAlert` is stored as such.
pub record IsKept (kept : Inside) : Type 0 where
  pub within : kept.count ≤ length (parts_of kept.write)
  pub none : kept.no_alert ≡ kinds.NoAlert
