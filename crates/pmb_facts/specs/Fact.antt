-- The facts of a capture: what it says, one after the other.
use Rattle.std.specs.Prelude.{ℕ, ◌/◌, Bool, Option, Some, None, List, [], ◌∷◌}
use Rattle.pmb_bus.specs.declared.event.Event.{Event}
use Rattle.pmb_bus.specs.declared.kinds.Kinds.{Kinds}
use Rattle.pmb_json_objects.specs.Head.{Head}
use Rattle.pmb_partial_packet.specs.PartialPacket.{said_device, sent, written_to}
use Rattle.pmb_facts.specs.declared.fact.CommandAt.{CommandAt}
use Rattle.pmb_transaction.specs.declared.reason.Reason.{Reason}
use Rattle.pmb_transaction.specs.Transaction.{AlertData, CallData, PartData, ReadData}
use Rattle.pmb_unknown_start.specs.Past.{PastData}

-- One fact.
pub data WhatData : Type 0 where
  -- a part of a write: its number, of how many, and what was written
  Write : ℕ → ℕ → PartData → WhatData
  Read : ReadData → WhatData
  Call : CallData → WhatData
  -- a leg that was refused, as the last of so many parts: its address, what was sent after it, and whether it was
  -- refused to be read
  Refused : ℕ → ℕ → List ℕ → Bool → WhatData
  Alert : AlertData → WhatData
  NoAlert : WhatData
  -- a packet to an address that speaks no PMBus
  Other : ℕ → WhatData
  -- an event that no packet can have there: the events of the packet before it, that event (none where the events
  -- end), why, and the kinds that can come
  Refusal : List Event → Option Event → Reason → Kinds → WhatData
  -- a word that is no token
  BadToken : List ℕ → WhatData

-- .. with what went before its packet, and where and when it begins
pub record FactData : Type 0 where
  pub before : List PastData
  pub head : Head
  pub what : WhatData

-- the address that a fact names, if it names one
abbrev pub fact_device : WhatData → Option ℕ
fact_device (Write part parts p) = Some p.addr
fact_device (Read t) = Some t.addr
fact_device (Call t) = Some t.addr
fact_device (Refused parts addr sent at_read) = Some addr
fact_device (Alert t) = Some (t.byte / 2)
fact_device NoAlert = None
fact_device (Other addr) = Some addr
fact_device (Refusal front event reason expected) = said_device front
fact_device (BadToken word) = None

-- ---- the command of a fact

abbrev pub command_at : ℕ → ℕ → Option CommandAt
command_at addr code = Some (record { addr = addr; code = code })

-- the code comes first among the bytes that were sent
abbrev pub sent_command : ℕ → List ℕ → Option CommandAt
sent_command addr [] = None
sent_command addr (code ∷ bytes) = command_at addr code

abbrev pub written_command : Option ℕ → Option (List ℕ) → Option CommandAt
written_command None bytes = None
written_command (Some addr) None = None
written_command (Some addr) (Some bytes) = sent_command addr bytes

abbrev pub fact_command : WhatData → Option CommandAt
fact_command (Write part parts p) = command_at p.addr p.code
fact_command (Read t) = command_at t.addr t.code
fact_command (Call t) = command_at t.addr t.code
fact_command (Refused parts addr sent at_read) = sent_command addr sent
fact_command (Alert t) = None
fact_command NoAlert = None
fact_command (Other addr) = None
fact_command (Refusal front event reason expected) = written_command (written_to front) (sent front)
fact_command (BadToken word) = None
