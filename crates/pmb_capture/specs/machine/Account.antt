-- What an `Account` has counted and put out.
use Rattle.std.specs.Prelude.{◌≡◌, ℕ, List}
use Rattle.pmb_io.specs.Tally.{IsTallyOf}
use Rattle.pmb_transaction.specs.Reading.{Outcome}
use Rattle.pmb_transaction.specs.Transaction.{TransactionData}
use Rattle.pmb_capture.specs.declared.account.Account.{Account}
use Rattle.pmb_capture.specs.Output.{OutputText, accepted_in, packets_in, refusals_in, outcomes_text}

-- It began as `start`, and these outcomes came since, whose text was put out.
pub record AccountStands {O : Type 0} (TextOf : O → OutputText) (StandsBehind : O → List TransactionData → Type 0)
    (start now : Account O) (outcomes : List Outcome) (text : List ℕ) : Type 0 where
  pub same : TextOf now.output ≡ TextOf start.output
  pub behind : StandsBehind now.output (accepted_in outcomes)
  pub counts : IsTallyOf (packets_in outcomes) (refusals_in outcomes) now.tally
  pub lines : text ≡ outcomes_text (TextOf start.output) outcomes
