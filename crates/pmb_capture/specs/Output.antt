-- What is written of what a capture reads as.
use Rattle.std.specs.Prelude.{ℕ, Bool, true, false, not, List, [], ◌∷◌, ◌++◌, filter, count_by}
use Rattle.pmb_io.specs.declared.tally.Tally.{Tally}
use Rattle.pmb_transaction.specs.declared.reason.Reason.{Reason}
use Rattle.pmb_transaction.specs.declared.reason.Reason.TheVariants.{ReadFirst, BadRestart, BadPec, UnknownDevice}
use Rattle.pmb_transaction.specs.declared.reason.Reason.TheVariants.{UnknownCommand, TooLong, TooShort, WrongEvent}
use Rattle.pmb_transaction.specs.declared.reason.Reason.TheVariants.{Truncated}
use Rattle.pmb_transaction.specs.Reading.{Outcome, Accepted, Refusal}
use Rattle.pmb_transaction.specs.Transaction.{TransactionData}
use Rattle.pmb_capture.specs.Lines.{refusal_line}

-- What a command writes: a text for each transaction, which may depend on those before it in the
-- capture, and one at the end.
pub record OutputText : Type 0 where
  pub of_packet : List TransactionData → TransactionData → List ℕ
  pub at_end : Tally → List ℕ

-- ---- outcomes

-- the transactions that were read
abbrev pub accepted_in : List Outcome → List TransactionData
accepted_in [] = []
accepted_in (Accepted t ∷ outcomes) = t ∷ accepted_in outcomes
accepted_in (Refusal refusal ∷ outcomes) = accepted_in outcomes

abbrev pub is_packet : Outcome → Bool
is_packet (Accepted t) = true
is_packet (Refusal refusal) = false

abbrev pub packets_in : List Outcome → ℕ
packets_in outcomes = count_by is_packet outcomes

abbrev pub refusals_in : List Outcome → ℕ
refusals_in outcomes = count_by (λ outcome. not (is_packet outcome)) outcomes

-- whether the events ended inside a packet
abbrev pub is_end_inside : Reason → Bool
is_end_inside ReadFirst = false
is_end_inside BadRestart = false
is_end_inside BadPec = false
is_end_inside UnknownDevice = false
is_end_inside UnknownCommand = false
is_end_inside TooLong = false
is_end_inside TooShort = false
is_end_inside WrongEvent = false
is_end_inside Truncated = true

abbrev pub is_truncation : Outcome → Bool
is_truncation (Accepted t) = false
is_truncation (Refusal refusal) = is_end_inside refusal.reason

-- all but an end inside a packet
abbrev pub but_truncation : List Outcome → List Outcome
but_truncation outcomes = filter (λ outcome. not (is_truncation outcome)) outcomes

-- ---- their text

-- What is written of outcomes after some transactions: the text of each packet, and a line for each
-- refusal.
abbrev pub text_behind : OutputText → List TransactionData → List Outcome → List ℕ
text_behind output before [] = []
text_behind output before (Accepted t ∷ outcomes) = output.of_packet before t
    ++ text_behind output (before ++ t ∷ []) outcomes
text_behind output before (Refusal refusal ∷ outcomes) = refusal_line refusal ++ text_behind output before outcomes

abbrev pub outcomes_text : OutputText → List Outcome → List ℕ
outcomes_text output outcomes = text_behind output [] outcomes
