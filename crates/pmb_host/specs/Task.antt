-- The transaction that a request asks for.
use Rattle.std.specs.Prelude.{ℕ, ◌/◌, ◌%◌, List, [], ◌∷◌}
use Rattle.pmb_request.specs.Request.{Command, RequestData, WriteParts, ReadBytes, CallBytes, Set, Get}
use Rattle.pmb_transaction.specs.Transaction.{TransactionData, Write, Read, Call, Refused, Alert, NoAlert}

-- a word as two bytes, the low one first
abbrev pub word_bytes : ℕ → List ℕ
word_bytes word = (word % 256) ∷ (word / 256) ∷ []

abbrev pub read_by : Command → TransactionData
read_by c = Read (record { addr = c.addr; code = c.code; reply = []; pec = c.pec })

-- The transaction that a request asks for, its reply still empty. Where a quantity is set, this is the
-- word that is written for it.
abbrev pub task_of : RequestData → ℕ → TransactionData
task_of (WriteParts parts) word = Write parts
task_of (ReadBytes c) word = read_by c
task_of (CallBytes c bytes) word = Call (record {
  addr = c.addr;
  code = c.code;
  bytes = bytes;
  reply = [];
  pec =
      c.pec;
})
task_of (Set c value mode) word = Write (record { addr = c.addr; code = c.code; bytes = word_bytes word; pec = c.pec }
    ∷ [])
task_of (Get c mode) word = read_by c

-- a transaction with this reply in place of its own
abbrev pub replied : TransactionData → List ℕ → TransactionData
replied (Write parts) reply = Write parts
replied (Read t) reply = Read (record { addr = t.addr; code = t.code; reply = reply; pec = t.pec })
replied (Call t) reply = Call (record { addr = t.addr; code = t.code; bytes = t.bytes; reply = reply; pec = t.pec })
replied (Refused t) reply = Refused t
replied (Alert t) reply = Alert t
replied NoAlert reply = NoAlert
