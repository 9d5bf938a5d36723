-- What a `What` of the code stands for.
use Rattle.std.specs.Prelude.{◌≡◌, ◌≤◌, ⊤, Option, List, length}
use Rattle.pmb_bus.specs.declared.event.Event.{Event}
use Rattle.pmb_bus.specs.declared.kinds.Kinds.{Kinds}
use Rattle.pmb_command.specs.Parts.{DeviceParts}
use Rattle.pmb_partial_packet.specs.declared.partial_packet.PartialPacket.{PartialPacket}
use Rattle.pmb_partial_packet.specs.Standing.{SaidStandsAt}
use Rattle.pmb_transaction.specs.Capture.{Viable}
use Rattle.pmb_transaction.specs.declared.reason.Reason.{Reason}
use Rattle.pmb_transaction.specs.Transaction.{part_data}
use Rattle.pmb_facts.specs.declared.fact.What.{What}
use Rattle.pmb_facts.specs.declared.fact.What.TheVariants as declared
use Rattle.pmb_facts.specs.Fact.{WhatData, Write, Read, Call, Refused, Alert, NoAlert, Other, Refusal, BadToken}

-- what a refusal stands for: events of a packet of some profile, which its partial packet was given
pub record IsRefusal (said : PartialPacket) (event : Option Event) (reason : Reason) (expected : Kinds)
    (what : WhatData) : Type 0 where
  pub profile : List DeviceParts
  pub front : List Event
  pub viable : Viable profile front
  pub given : SaidStandsAt said front
  pub is : what ≡ Refusal front event reason expected

abbrev pub Stands : What → WhatData → Type 0
Stands (declared.Write part parts written) what = what ≡ Write part parts (part_data written.now)
Stands (declared.Read addr code reply pec) what =
    what ≡ Read (record { addr = addr; code = code; reply = reply.now; pec = pec })
Stands (declared.Call addr code sent reply pec) what =
    what ≡ Call (record { addr = addr; code = code; bytes = sent.now; reply = reply.now; pec = pec })
Stands (declared.Refused parts addr sent at_read) what = what ≡ Refused parts addr sent.now at_read
Stands (declared.Alert byte pec) what = what ≡ Alert (record { byte = byte; pec = pec })
Stands declared.NoAlert what = what ≡ NoAlert
Stands (declared.Other addr) what = what ≡ Other addr
Stands (declared.Refusal said event reason expected) what = IsRefusal said.now event reason expected what
Stands (declared.BadToken word) what = what ≡ BadToken word.now

-- no more bytes than a packet has
abbrev pub IsShort : What → Type 0
IsShort (declared.Write part parts written) = ⊤
IsShort (declared.Read addr code reply pec) = length reply.now ≤ 255
IsShort (declared.Call addr code sent reply pec) = (length sent.now ≤ 255) × (length reply.now ≤ 255)
IsShort (declared.Refused parts addr sent at_read) = length sent.now ≤ 258
IsShort (declared.Alert byte pec) = ⊤
IsShort declared.NoAlert = ⊤
IsShort (declared.Other addr) = ⊤
IsShort (declared.Refusal said event reason expected) = ⊤
IsShort (declared.BadToken word) = ⊤
