-- What contracts see of a transaction: what it says, each bounded list as its items.
use Rattle.std.specs.Prelude.{ℕ, Bool, List, map}
use Rattle.pmb_transaction.specs.declared.part.Part.{Part}
use Rattle.pmb_transaction.specs.declared.transaction.Transaction.{Transaction}
use Rattle.pmb_transaction.specs.declared.transaction.Transaction.TheVariants as declared

-- What is written to one device: its address, a command code, the data after the code, and whether
-- a packet error code follows them.
pub record PartData : Type 0 where
  pub addr : ℕ
  pub code : ℕ
  pub bytes : List ℕ
  pub pec : Bool

-- What is read from a device with a command code.
pub record ReadData : Type 0 where
  pub addr : ℕ
  pub code : ℕ
  pub reply : List ℕ
  pub pec : Bool

-- What is written to a device after a command code, and what it replies.
pub record CallData : Type 0 where
  pub addr : ℕ
  pub code : ℕ
  pub bytes : List ℕ
  pub reply : List ℕ
  pub pec : Bool

-- What was refused after complete parts of a group: where nothing was sent the address, else the
-- last one of the bytes sent, or, with `at_read`, to be read after them.
pub record RefusedData : Type 0 where
  pub parts : List PartData
  pub addr : ℕ
  pub sent : List ℕ
  pub at_read : Bool

-- The answer of a device at the Alert Response Address: a byte, which has the device's own address
-- in bits 7 to 1.
pub record AlertData : Type 0 where
  pub byte : ℕ
  pub pec : Bool

pub data TransactionData : Type 0 where
  Write : List PartData → TransactionData
  Read : ReadData → TransactionData
  Call : CallData → TransactionData
  Refused : RefusedData → TransactionData
  Alert : AlertData → TransactionData
  NoAlert : TransactionData

abbrev pub part_data : Part → PartData
part_data part = record { addr = part.addr; code = part.code; bytes = part.bytes.items; pec = part.pec }

abbrev pub transaction_data : Transaction → TransactionData
transaction_data (declared.Write parts) = Write (map part_data parts.items)
transaction_data (declared.Read addr code reply pec) =
    Read (record { addr = addr; code = code; reply = reply.items; pec = pec })
transaction_data (declared.Call addr code bytes reply pec) =
    Call (record { addr = addr; code = code; bytes = bytes.items; reply = reply.items; pec = pec })
transaction_data (declared.Refused parts addr sent at_read) =
    Refused (record { parts = map part_data parts.items; addr = addr; sent = sent.items; at_read = at_read })
transaction_data (declared.Alert byte pec) = Alert (record { byte = byte; pec = pec })
transaction_data declared.NoAlert = NoAlert
