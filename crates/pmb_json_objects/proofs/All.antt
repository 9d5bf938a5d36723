-- What holds of each object holds of all of a packet, and of all of the last ones. For the law
-- `all_objects_are_json`, over what the law `objects_are_json` says of one object (`EachIsJson`). A
-- packet's objects are those of its parts, one for each START.
use Rattle.std.proofs.Common.{ℕ, ◌+◌, ◌^◌, ◌≤◌, Option, List, [], ◌∷◌, Bool, drop, length, map, take}
use Rattle.std.proofs.Common.{arith}
use Rattle.std.specs.List.{AllByRecursion}
use Rattle.pmb_bus.specs.declared.event.Event.{Event}
use Rattle.pmb_command.specs.Bus.{IsBus}
use Rattle.pmb_command.specs.Parts.{DeviceParts}
use Rattle.pmb_places.specs.declared.places.Place.{Place}
use Rattle.pmb_transaction.specs.Transaction.{AlertData, CallData, PartData, ReadData, RefusedData, TransactionData}
use Rattle.pmb_transaction.specs.Transaction.{Write, Read, Call, Refused, Alert, NoAlert}
use Rattle.pmb_json_objects.specs.Counts.{CountsData, DeviceData, counts_object, counts_objects, end_object}
use Rattle.pmb_json_objects.specs.Counts.{end_objects}
use Rattle.pmb_json_objects.specs.Head.{Head, head_at}
use Rattle.pmb_json_objects.specs.Laws.{AreParts, IsCount, IsData, IsHead, IsJsonObject, IsPlace, IsSeen}
use Rattle.pmb_json_objects.specs.Laws.{IsTime, IsTransaction}
use Rattle.pmb_json_objects.specs.Object.{Object}
use Rattle.pmb_json_objects.specs.Packets.{alert_object, call_object, no_alert_object, packet_objects, read_object}
use Rattle.pmb_json_objects.specs.Packets.{refused_object, refused_objects, starts, write_object, write_objects}
use Rattle.pmb_json_objects.specs.Seen.{SeenData}
use Rattle.pmb_json_objects.proofs.Each.{few}
use Rattle.pmb_json_objects.proofs.Fine.{all_of_both}

abbrev IsJson : Object → Type 0
IsJson object = IsJsonObject object.members

abbrev AreJson : List Object → Type 0
AreJson objects = AllByRecursion IsJson objects

of_each : {A : Type 0} (object : A → Object) (xs : List A) → ((x : A) → IsJson (object x)) → AreJson (map object xs)
of_each object [] each = tt
of_each object (x ∷ xs) each = (each x, of_each object xs each)

-- ---- a packet

-- what is said of each object of a packet
pub record EachIsJson (seen : SeenData) : Type 0 where
  -- of a part, a read, a call, a refused leg, an alert and an alert without an answer
  pub write : (head : Head) (part parts : ℕ) (p : PartData) → IsHead head → IsCount part → IsCount parts
      → IsData seen p.addr p.code p.bytes → IsJsonObject (write_object seen head part parts p).members
  pub read : (head : Head) (t : ReadData) → IsHead head → IsData seen t.addr t.code t.reply
      → IsJsonObject (read_object seen head t).members
  pub call : (head : Head) (t : CallData) → IsHead head → IsSeen seen t.addr
      → IsJsonObject (call_object seen head t).members
  pub refused : (head : Head) (parts addr : ℕ) (sent : List ℕ) (at_read : Bool) → IsHead head → IsCount parts
      → IsSeen seen addr → IsJsonObject (refused_object seen head parts addr sent at_read).members
  pub alert : (head : Head) (t : AlertData) → IsBus seen.profile → IsHead head
      → IsJsonObject (alert_object seen.profile head t).members
  pub no_alert : (head : Head) → IsHead head → IsJsonObject (no_alert_object head).members

module _ (seen : SeenData) (each : EachIsJson seen) (place : ℕ → Place) (placed : (at : ℕ) → IsPlace (place at))
    (time : Option (List ℕ)) (timed : IsTime time) where
  -- each object of the packet begins at a place, and has its time
  headed : (at : ℕ) → IsHead (head_at place time at)
  headed at = record { at = few at; place = placed at; time = timed }

  all_writes : (part parts : ℕ) (ats : List ℕ) (ps : List PartData) → part + length ps ≤ 2 ^ 64 → IsCount parts
      → AreParts seen ps → AreJson (write_objects seen place time part parts ats ps)
  all_writes part parts ats [] fits many small = tt
  all_writes part parts [] (p ∷ more) fits many small = tt
  all_writes part parts (at ∷ ats) (p ∷ more) fits many small = (
    each.write (head_at place time at) part parts p (headed at) (omega (arith, fits)) many small.0,
    all_writes (part + 1) parts ats more (omega (arith, fits)) many small.1,
  )

  all_refused : (ats : List ℕ) (t : RefusedData) → AreParts seen t.parts → IsCount (length t.parts + 1)
      → IsSeen seen t.addr → AreJson (refused_objects seen place time ats t)
  all_refused ats t small many is =
      let parts : ℕ = length t.parts + 1 in
      all_of_both IsJson (write_objects seen place time 1 parts ats t.parts)
      (map (λ at. refused_object seen (head_at place time at) parts t.addr t.sent t.at_read)
      (take 1 (drop (length t.parts) ats)))
      (all_writes 1 parts ats t.parts (omega (arith, many)) many small)
      (of_each (λ at. refused_object seen (head_at place time at) parts t.addr t.sent t.at_read)
      (take 1 (drop (length t.parts) ats)) (λ at. each.refused (head_at place time at) parts t.addr t.sent t.at_read
      (headed at) many is))

  pub all_of_packet : (n : ℕ) (events : List Event) (t : TransactionData) → IsTransaction seen t
      → AreJson (packet_objects seen place time n events t)
  all_of_packet n events (Write parts) small = all_writes 1 (length parts) (starts n events) parts
      (omega (arith, small.1)) small.1 small.0
  all_of_packet n events (Read t) small = (each.read (head_at place time n) t (headed n) small, tt)
  all_of_packet n events (Call t) small = (each.call (head_at place time n) t (headed n) small, tt)
  all_of_packet n events (Refused t) small = all_refused (starts n events) t small.0 small.1 small.2
  all_of_packet n events (Alert t) small = (each.alert (head_at place time n) t small (headed n), tt)
  all_of_packet n events NoAlert small = (each.no_alert (head_at place time n) (headed n), tt)

-- ---- the last ones

pub all_last : (profile : List DeviceParts) (gives_others : Bool)
    → ((addr : ℕ) (c : DeviceData) → IsJsonObject (counts_object profile gives_others addr c).members)
    → ((c : CountsData) → IsJsonObject (end_object gives_others c).members)
    → (c : CountsData) → AreJson (end_objects profile gives_others c)
all_last profile gives_others counts end c =
    all_of_both IsJson (counts_objects profile gives_others c.of_device) (end_object gives_others c ∷ [])
    (of_each (λ addr. counts_object profile gives_others addr (c.of_device addr)) _
    (λ addr. counts addr (c.of_device addr)))
    (end c, tt)
