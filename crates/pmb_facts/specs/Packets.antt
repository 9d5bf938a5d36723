-- The facts of a packet: what it says, one for each part of a group.
use Rattle.std.specs.Prelude.{ℕ, ◌+◌, Option, List, [], ◌∷◌, ◌++◌, drop, length, map, take}
use Rattle.pmb_bus.specs.declared.event.Event.{Event}
use Rattle.pmb_json_objects.specs.Head.{head_at}
use Rattle.pmb_json_objects.specs.Packets.{starts}
use Rattle.pmb_places.specs.declared.places.Place.{Place}
use Rattle.pmb_transaction.specs.Transaction.{PartData, RefusedData, TransactionData}
use Rattle.pmb_transaction.specs.Transaction.{Write, Read, Call, Refused, Alert, NoAlert}
use Rattle.pmb_unknown_start.specs.Past.{PastData}
use Rattle.pmb_facts.specs.Fact.{FactData, WhatData}
use Rattle.pmb_facts.specs.Fact as fact

-- after what went before, by the place of each event and the packet's time
module _ (before : List PastData) (place : ℕ → Place) (time : Option (List ℕ)) where
  -- a fact that begins with the event with a number
  abbrev pub fact_at : ℕ → WhatData → FactData
  fact_at at what = record { before = before; head = head_at place time at; what = what }

  -- parts, from the one with this number on, each with the number of its START
  abbrev pub write_facts : ℕ → ℕ → List ℕ → List PartData → List FactData
  write_facts part parts ats [] = []
  write_facts part parts [] (p ∷ more) = []
  write_facts part parts (at ∷ ats) (p ∷ more) =
      fact_at at (fact.Write part parts p) ∷ write_facts (part + 1) parts ats more

  -- the leg that was refused, as the last of so many parts
  abbrev pub refused_fact : RefusedData → ℕ → FactData
  refused_fact t at = fact_at at (fact.Refused (length t.parts + 1) t.addr t.sent t.at_read)

  -- the parts before a refused leg, and that leg
  abbrev pub refused_facts : List ℕ → RefusedData → List FactData
  refused_facts ats t =
      write_facts 1 (length t.parts + 1) ats t.parts ++ map (refused_fact t) (take 1 (drop (length t.parts) ats))

  -- before the packet n events came
  abbrev pub packet_facts : ℕ → List Event → TransactionData → List FactData
  packet_facts n events (Write parts) = write_facts 1 (length parts) (starts n events) parts
  packet_facts n events (Read t) = fact_at n (fact.Read t) ∷ []
  packet_facts n events (Call t) = fact_at n (fact.Call t) ∷ []
  packet_facts n events (Refused t) = refused_facts (starts n events) t
  packet_facts n events (Alert t) = fact_at n (fact.Alert t) ∷ []
  packet_facts n events NoAlert = fact_at n fact.NoAlert ∷ []
