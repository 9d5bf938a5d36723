-- What is kept of the STARTs of a packet under way, and the facts that are made of it.
use Rattle.std.specs.Prelude.{ℕ, ◌+◌, Option, List, [], ◌∷◌, ◌++◌, drop, length, map, take}
use Rattle.pmb_bus.specs.declared.event.Event.{Event}
use Rattle.pmb_bus.specs.declared.event.Event.TheVariants.{Start, Byte, Ack, Nack, Stop}
use Rattle.pmb_io.specs.Count.{capped}
use Rattle.pmb_json_objects.specs.Head.{Head}
use Rattle.pmb_json_objects.specs.Packets.{starts}
use Rattle.pmb_facts.specs.Fact.{FactData, WhatData}
use Rattle.pmb_facts.specs.Fact as fact
use Rattle.pmb_places.specs.declared.places.Place.{Place}
use Rattle.pmb_transaction.specs.Transaction.{PartData, TransactionData, Write, Read, Call, Refused, Alert, NoAlert}
use Rattle.pmb_unknown_start.specs.Past.{PastData}
use Rattle.pmb_fact_stream.specs.declared.stream.Begun.{Begun}

abbrev pub begun_at : (ℕ → Place) → ℕ → Begun
begun_at place at = record { at = capped at; place = place at }

-- The first 17 STARTs among events before which n came: no packet has more.
abbrev pub begun_legs : (ℕ → Place) → ℕ → List Event → List Begun
begun_legs place n events = take 17 (map (begun_at place) (starts n events))

-- what is kept after an event more, before which so many came, and whose word stands there
abbrev pub begun_behind : List Begun → ℕ → Place → Event → List Begun
begun_behind begun at place Start = take 17 (begun ++ record { at = at; place = place } ∷ [])
begun_behind begun at place (Byte b) = begun
begun_behind begun at place Ack = begun
begun_behind begun at place Nack = begun
begun_behind begun at place Stop = begun

-- where a fact begins that begins with a START
abbrev pub begun_head : Option (List ℕ) → Begun → Head
begun_head time first = record { at = first.at; place = first.place; time = time }

-- ---- the facts of a packet, by what went before it, its time and what is kept of its STARTs

module _ (before : List PastData) (time : Option (List ℕ)) where
  abbrev pub kept_fact : WhatData → Begun → FactData
  kept_fact what first = record { before = before; head = begun_head time first; what = what }

  -- that of a START with a number, where it is kept
  abbrev pub kept_at : ℕ → List Begun → WhatData → List FactData
  kept_at index begun what = map (kept_fact what) (take 1 (drop index begun))

  -- those of parts, from the one with this number on
  abbrev pub kept_writes : ℕ → ℕ → List Begun → List PartData → List FactData
  kept_writes part parts begun [] = []
  kept_writes part parts [] (p ∷ more) = []
  kept_writes part parts (first ∷ begun) (p ∷ more) =
      kept_fact (fact.Write part parts p) first ∷ kept_writes (part + 1) parts begun more

  abbrev pub kept_facts : List Begun → TransactionData → List FactData
  kept_facts begun (Write parts) = kept_writes 1 (length parts) begun parts
  kept_facts begun (Read t) = kept_at 0 begun (fact.Read t)
  kept_facts begun (Call t) = kept_at 0 begun (fact.Call t)
  kept_facts begun (Refused t) =
      kept_writes 1 (length t.parts + 1) begun t.parts
      ++ kept_at (length t.parts) begun (fact.Refused (length t.parts + 1) t.addr t.sent t.at_read)
  kept_facts begun (Alert t) = kept_at 0 begun (fact.Alert t)
  kept_facts begun NoAlert = kept_at 0 begun fact.NoAlert
