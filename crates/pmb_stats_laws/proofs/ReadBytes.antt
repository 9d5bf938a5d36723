-- What the reads of a capture reply are bytes: for the law `faults_are_told`.
use Rattle.std.proofs.Common.{ℕ, ◌+◌, Option, List, [], ◌∷◌, drop, length, map, take}
use Rattle.std.specs.List.{AllByRecursion}
use Rattle.pmb_bus.specs.declared.event.Event.{Event}
use Rattle.pmb_command.specs.Parts.{DeviceParts}
use Rattle.pmb_facts.specs.Fact.{FactData}
use Rattle.pmb_facts.specs.Packets.{packet_facts, refused_fact, write_facts}
use Rattle.pmb_json.proofs.EachOf.{each_of_both}
use Rattle.pmb_json_objects.specs.Packets.{starts}
use Rattle.pmb_places.specs.declared.places.Place.{Place}
use Rattle.pmb_stats_laws.proofs.EachFact.{HoldsOfEach}
use Rattle.pmb_stats_laws.proofs.Faults.{HasBytes}
use Rattle.pmb_transaction.specs.Packet.{Packet}
use Rattle.pmb_transaction.specs.Transaction.{PartData, RefusedData, TransactionData}
use Rattle.pmb_transaction.specs.Transaction.{Write, Read, Call, Refused, Alert, NoAlert}
use Rattle.pmb_unknown_start.specs.Past.{PastData}

abbrev pub RepliesBytes : FactData → Type 0
RepliesBytes fact = HasBytes fact.what

abbrev AllReplyBytes : List FactData → Type 0
AllReplyBytes facts = AllByRecursion RepliesBytes facts

module _ (before : List PastData) (place : ℕ → Place) (time : Option (List ℕ)) where
  writes_reply : (part parts : ℕ) (ats : List ℕ) (ps : List PartData)
      → AllReplyBytes (write_facts before place time part parts ats ps)
  writes_reply part parts ats [] = tt
  writes_reply part parts [] (p ∷ ps) = tt
  writes_reply part parts (at ∷ ats) (p ∷ ps) = (tt, writes_reply (part + 1) parts ats ps)

  legs_reply : (t : RefusedData) (ats : List ℕ) → AllReplyBytes (map (refused_fact before place time t) ats)
  legs_reply t [] = tt
  legs_reply t (at ∷ ats) = (tt, legs_reply t ats)

  packet_replies : (profile : List DeviceParts) (n : ℕ) (events : List Event) (t : TransactionData)
      → Packet profile t events → AllReplyBytes (packet_facts before place time n events t)
  packet_replies profile n events (Write parts) packet = writes_reply 1 (length parts) (starts n events) parts
  packet_replies profile n events (Read t) packet = (packet.fits.small, tt)
  packet_replies profile n events (Call t) packet = (tt, tt)
  packet_replies profile n events (Refused t) packet =
      let ats = starts n events in
      each_of_both RepliesBytes (write_facts before place time 1 (length t.parts + 1) ats t.parts)
      (map (refused_fact before place time t) (take 1 (drop (length t.parts) ats)))
      (writes_reply 1 (length t.parts + 1) ats t.parts) (legs_reply t (take 1 (drop (length t.parts) ats)))
  packet_replies profile n events (Alert t) packet = (tt, tt)
  packet_replies profile n events NoAlert packet = (tt, tt)

pub each_replies_bytes : (ignored : Option (List ℕ)) (profile : List DeviceParts)
    → HoldsOfEach RepliesBytes ignored profile
each_replies_bytes ignored profile = record {
  packet = λ before place time n events t packet. packet_replies before place time profile n events t packet;
  refusal = λ before head front event reason expected bytes. tt;
  other = λ head addr events bytes is. tt;
  bad_token = λ head word. tt;
}
