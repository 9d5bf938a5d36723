-- What contracts see of the transactions that are kept.
use Rattle.std.specs.Prelude.{List}
use Rattle.pmb_transaction.specs.Transaction.{PartData, TransactionData}

-- The parts of the packet under way, and the transaction whose packet ended last. While a packet is
-- under way nothing is said of the latter, and between two packets nothing of the parts.
pub record KeptData : Type 0 where
  pub parts : List PartData
  pub last : TransactionData
