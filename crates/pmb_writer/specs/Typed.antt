-- What its type says of a transaction.
use Rattle.std.specs.Prelude.{◌≤◌, length}
use Rattle.pmb_command.specs.Wire.{IsByte, AreByteValues}
use Rattle.pmb_transaction.specs.Transaction.{TransactionData, Write, Read, Call, Refused, Alert, NoAlert}

-- It has no more parts than there is room for, and what no rule asks about are bytes.
abbrev pub IsTyped : TransactionData → Type 0
IsTyped (Write parts) = length parts ≤ 16
IsTyped (Read t) = Unit {0}
IsTyped (Call t) = Unit {0}
IsTyped (Refused t) = (length t.parts ≤ 15) × AreByteValues t.sent
IsTyped (Alert t) = IsByte t.byte
IsTyped NoAlert = Unit {0}
