-- What went before a place in a capture: what was said, and where a line was dropped. A refusal in which devices may
-- have been written to counts as such a line.
use Rattle.std.specs.Prelude.{List, [], ◌∷◌}
use Rattle.pmb_transaction.specs.Transaction.{TransactionData}

-- A transaction, or a line that was dropped: nobody knows what the devices were told in it.
pub data PastData : Type 0 where
  Said : TransactionData → PastData
  Dropped : PastData

-- the transactions of it
abbrev pub transactions_of : List PastData → List TransactionData
transactions_of [] = []
transactions_of (Said t ∷ past) = t ∷ transactions_of past
transactions_of (Dropped ∷ past) = transactions_of past
