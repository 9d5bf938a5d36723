-- Transactions that were said one after the other, with no line dropped. For Reached.
use Rattle.std.proofs.Common.{◌≡◌, List, [], ◌∷◌, map, refl, ap}
use Rattle.pmb_command.specs.Parts.{DeviceParts}
use Rattle.pmb_transaction.specs.Transaction.{TransactionData}
use Rattle.pmb_note.specs.Paging.{PagingData, after_transaction}
use Rattle.pmb_unknown_start.specs.Past.{Said, transactions_of}
use Rattle.pmb_unknown_start.specs.Certain.{DropsOnOwnPage}

pub all_said : (ts : List TransactionData) → transactions_of (map Said ts) ≡ ts
all_said [] = refl
all_said (t ∷ ts) = ap (λ (more : List TransactionData). t ∷ more) (all_said ts)

pub none_dropped : (device : DeviceParts) (p : PagingData) (ts : List TransactionData)
    → DropsOnOwnPage device p (map Said ts)
none_dropped device p [] = tt
none_dropped device p (t ∷ ts) = none_dropped device (after_transaction device p t) ts
