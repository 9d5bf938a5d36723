-- Signals leave the same devices on the bus, and a message that ends by STOP leaves it between two transfers.
use Rattle.std.proofs.Common.{◌≡◌, ◌∙◌, ℕ, ◌<◌, ◌≤◌, Bool, true, List, [], ◌∷◌, ◌++◌, Result, Ok, Err, map, append_assoc}
use Rattle.std.proofs.Common.{ap, refl, subst, sym, arith}
use Rattle.std.specs.Prelude.{is_err}
use Rattle.pmb_command.specs.Parts.{DeviceParts}
use Rattle.pmb_registers.specs.State.{InState}
use Rattle.pmb_device.specs.Legs.{Legs, Outside}
use Rattle.pmb_device.specs.declared.signal.HostSignal.{HostSignal}
use Rattle.pmb_device.specs.declared.signal.HostSignal.TheVariants.{Start, Byte, Ask, Ack, Nack, Stop}
use Rattle.pmb_device.specs.declared.signal.DeviceSignal.{DeviceSignal}
use Rattle.pmb_devices.specs.declared.bus.Bus.{Bus}
use Rattle.pmb_devices.specs.Bus.{AnsweredSignal, legs_after}
use Rattle.pmb_devices.specs.Runs.{AllEnd}
use Rattle.pmb_devices.specs.Signal.{BusEnds, BusLeads, BusStanding, BusStandsAt, behind}
use Rattle.pmb_devices.proofs.RunStates.{end_devices}
use Rattle.pmb_i2c.specs.declared.message.MessageEnd.{MessageEnd}
use Rattle.pmb_i2c.specs.declared.message.MessageFault.{MessageFault}
use Rattle.pmb_i2c.specs.declared.message.MessageFault.TheVariants.{NoDevice}
use Rattle.pmb_i2c.specs.Message.{BeginsAt, EndsBy, IsMessage, answered, stops}
use Rattle.pmb_i2c.specs.Message.BeginsAt.{found, none}
use Rattle.pmb_i2c.specs.Signals.{IsStopped, TakesInTurn}

-- the devices of members
abbrev devices_of : List InState → List DeviceParts
devices_of members = map (λ member. member.device) members

-- STOP leaves them
same_devices : (legs : Legs) (olds news : List InState) → AllEnd legs olds news → devices_of news ≡ devices_of olds
same_devices legs olds news all = end_devices (devices_of olds) legs olds news all

-- where a bus of these devices stands
abbrev pub Somewhere : List DeviceParts → Bus → Type 0
Somewhere devices bus =
    (standing : BusStanding) × BusStandsAt bus standing × (devices_of standing.members ≡ devices)

after_stop : (devices : List DeviceParts) (standing : BusStanding) (new : Bus) → devices_of standing.members ≡ devices
    → BusEnds standing new → IsStopped devices new
after_stop devices standing new are ends = record {
  standing = record { past = standing.past ++ standing.history ∷ []; members = ends.members; history = [] };
  devices_are = same_devices (legs_after Outside standing.history) standing.members ends.members ends.ends ∙ are;
  stands = ends.stands;
  none = refl;
}

-- after one signal
leads_on : (devices : List DeviceParts) (standing : BusStanding) (signal : HostSignal) (answer : DeviceSignal)
    (new : Bus) → devices_of standing.members ≡ devices → BusLeads standing signal answer new → Somewhere devices new
leads_on devices standing Start answer new are leads = (behind standing Start answer, leads, are)
leads_on devices standing (Byte b) answer new are leads = (behind standing (Byte b) answer, leads, are)
leads_on devices standing Ask answer new are leads = (behind standing Ask answer, leads, are)
leads_on devices standing Ack answer new are leads = (behind standing Ack answer, leads, are)
leads_on devices standing Nack answer new are leads = (behind standing Nack answer, leads, are)
leads_on devices standing Stop answer new are leads =
    let over = after_stop devices standing new are leads in (over.standing, over.stands, over.devices_are)

-- after any signals
pub takes_on : (devices : List DeviceParts) (xs : List AnsweredSignal) (standing : BusStanding) (new : Bus)
    → devices_of standing.members ≡ devices → TakesInTurn standing xs new → Somewhere devices new
takes_on devices [] standing new are took = (standing, took, are)
takes_on devices (x ∷ xs) standing new are took =
    let next = leads_on devices standing x.signal x.result took.0 are took.1.leads in
    takes_on devices xs next.0 new next.2 (took.2 next.0 next.1)

-- where the last of some signals is STOP
stop_ends : (devices : List DeviceParts) (xs : List AnsweredSignal) (answer : DeviceSignal) (standing : BusStanding)
    (new : Bus) → devices_of standing.members ≡ devices
    → TakesInTurn standing (xs ++ answered Stop answer ∷ []) new → IsStopped devices new
stop_ends devices [] answer standing new are took =
    let over = after_stop devices standing took.0 are took.1.leads in record {
      standing = over.standing;
      devices_are = over.devices_are;
      stands = took.2 over.standing over.stands;
      none = over.none;
    }
stop_ends devices (x ∷ xs) answer standing new are took =
    let next = leads_on devices standing x.signal x.result took.0 are took.1.leads in
    stop_ends devices xs answer next.0 new next.2 (took.2 next.0 next.1)

-- the last of these signals is STOP
abbrev EndsInStop : List AnsweredSignal → Type 0
EndsInStop heard =
    (xs : List AnsweredSignal) × (answer : DeviceSignal) × (heard ≡ xs ++ answered Stop answer ∷ [])

not_taken : (byte : ℕ) (heard : List AnsweredSignal) → BeginsAt byte (Err NoDevice) heard → EndsInStop heard
not_taken byte heard (found quiet done signals) = cc done
not_taken byte heard (none quiet answer last not_ack failed signals) =
    (answered Start quiet ∷ answered (Byte byte) answer ∷ [], last, signals)

ends_so : {T : Type 0} (address byte : ℕ) (Bytes : List AnsweredSignal → Type 0) (end : MessageEnd)
    (outcome : Result T MessageFault) (heard : List AnsweredSignal) → address < 128 → stops end (is_err outcome) ≡ true
    → IsMessage address byte Bytes end outcome heard → EndsInStop heard
ends_so address byte Bytes end outcome heard below stop (IsMessage.no_address above failed signals) =
    absurd (omega arith)
ends_so address byte Bytes end outcome heard below stop (IsMessage.no_device seven failed begins) =
    not_taken byte heard begins
ends_so address byte Bytes end outcome heard below stop (IsMessage.sent first bytes last seven begins reads ends signals) =
    let final = subst (λ (b : Bool). EndsBy b last) stop ends in (
      first ++ bytes,
      final.0,
      signals ∙ ap (λ (l : List AnsweredSignal). first ++ (bytes ++ l)) final.1
          ∙ sym (append_assoc first bytes (answered Stop final.0 ∷ [])),
    )

-- Such a message left the bus between two transfers, wherever it stood before.
pub message_stops : {T : Type 0} (address byte : ℕ) (Bytes : List AnsweredSignal → Type 0) (end : MessageEnd)
    (outcome : Result T MessageFault) (heard : List AnsweredSignal) (standing : BusStanding) (new : Bus) → address < 128
    → stops end (is_err outcome) ≡ true → IsMessage address byte Bytes end outcome heard
    → TakesInTurn standing heard new → IsStopped (map (λ member. member.device) standing.members) new
message_stops address byte Bytes end outcome heard standing new below stop is_message took =
    let final = ends_so address byte Bytes end outcome heard below stop is_message in
    stop_ends (devices_of standing.members) final.0 final.1 standing new refl
    (subst (λ (l : List AnsweredSignal). TakesInTurn standing l new) final.2 took)
