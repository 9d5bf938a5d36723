-- What a signal does on a bus: for `Bus::signal`. The profile and the memory stay, the answer is that
-- of the devices (`Loud`), and the devices stand where the signal leads them (`Behind`, and at STOP
-- `OtherWrites`); at STOP each becomes what a transaction makes of it, if its packet was recorded.
use Rattle.std.proofs.Common.{◌≡◌, ◌≢◌, List, [], ◌∷◌, ◌++◌, length, map, nat_eq, refl, sym, ap, subst, ◌∙◌}
use Rattle.std.specs.Prelude.{vec_capacity}
use Rattle.std.specs.List.{Contains, IsDistinct}
use Rattle.pmb_bus.specs.declared.event.Event.TheVariants as wire
use Rattle.pmb_command.specs.Bus.{IsBus}
use Rattle.pmb_command.specs.Parts.{DeviceParts}
use Rattle.pmb_transaction.specs.Packet.{Packet}
use Rattle.pmb_transaction.specs.Transaction.{TransactionData}
use Rattle.pmb_registers.specs.State.{DeviceState, InState}
use Rattle.pmb_registers.specs.Apply.{apply}
use Rattle.pmb_device.specs.declared.signal.HostSignal.{HostSignal}
use Rattle.pmb_device.specs.declared.signal.HostSignal.TheVariants.{Start, Byte, Ask, Ack, Nack, Stop}
use Rattle.pmb_device.specs.declared.signal.DeviceSignal.{DeviceSignal}
use Rattle.pmb_device.specs.declared.device.Device.{Device}
use Rattle.pmb_device.specs.Legs.{Legs, Outside}
use Rattle.pmb_devices.specs.declared.bus.Bus.{Bus}
use Rattle.pmb_devices.specs.Bus.{AreAnswered, BusAnswers, AnsweredSignal, recorded_events, legs_after}
use Rattle.pmb_devices.specs.Runs.{Runs, first_members}
use Rattle.pmb_devices.specs.Signal.{BusEnds, BusLeads, BusStandsAt, BusStanding, BusTakes, behind}
use Rattle.pmb_devices.specs.Stops.{EndsOn}
use Rattle.pmb_devices.specs.machine.Standing.{AllStand}
use Rattle.pmb_devices.specs.machine.Hands.{Gives, HandsOn}
use Rattle.pmb_devices.specs.machine.Others.{devices_of, some_listens}
use Rattle.pmb_devices.proofs.Behind.{all_end, all_stand_behind, answered_behind, both_end, legs_behind, runs_more}
use Rattle.pmb_devices.proofs.Loud.{bus_answers}
use Rattle.pmb_devices.proofs.OtherWrites.{ended_stand, taken_devices}
use Rattle.pmb_devices.proofs.Runs.{all_are_applied}

-- what a transaction's packet makes of each device
abbrev pub AreApplied : Type 0
AreApplied = (profile : List DeviceParts) (members : List InState) (history : List AnsweredSignal) (t : TransactionData)
    (member : InState) (after : DeviceState) → IsBus profile → map (λ m. m.device) members ≡ profile
    → AreAnswered members Outside history → Packet profile t (recorded_events history ++ wire.Stop ∷ [])
    → Contains members member → EndsOn profile (legs_after Outside history) member.device member.state after
    → after ≡ apply member.device t member.state

module _ (bus new : Bus) (same : new.profile.now ≡ bus.profile.now)
    (exact : vec_capacity new.devices ≡ length new.devices.items) (listening : new.listens ≡ bus.listens)
    (standing : BusStanding) (at : BusStandsAt bus standing) where
  own_addresses : IsDistinct nat_eq (map (λ d. d.address) (map (λ m. m.device) standing.members))
  own_addresses = subst (λ (ds : List DeviceParts). IsDistinct nat_eq (map (λ d. d.address) ds))
      (sym at.profile) at.accepted.own_addresses

  -- whether some device takes what is written at other addresses stays
  listens_so : new.listens ≡ some_listens new.profile.now
  listens_so = listening ∙ at.listens ∙ ap some_listens (sym same)

  -- the profile stays
  runs_so : (past : List (List AnsweredSignal)) (members : List InState)
      → Runs (first_members bus.profile.now) past members → Runs (first_members new.profile.now) past members
  runs_so past members runs = subst (λ (ds : List DeviceParts). Runs (first_members ds) past members) (sym same) runs

  -- the answer on the bus
  answers_are : (signal : HostSignal) (result : DeviceSignal) (devices : List Device)
      → HandsOn (legs_after Outside standing.history) signal standing.members result devices
      → BusAnswers standing.members (legs_after Outside standing.history) signal result
  answers_are signal result devices handed =
      subst (BusAnswers standing.members (legs_after Outside standing.history) signal) (sym handed.last)
      (bus_answers (legs_after Outside standing.history) signal devices standing.members handed.results
      own_addresses handed.moved)

  -- where a signal other than STOP leads
  goes_on : (signal : HostSignal) (result : DeviceSignal) → signal ≢ Stop
      → HandsOn (legs_after Outside standing.history) signal standing.members result new.devices.items
      → BusStandsAt new (behind standing signal result)
  goes_on signal result other handed =
      let next : AnsweredSignal = record { signal = signal; result = result } in
      record {
        exact = exact;
        accepted = subst IsBus (sym same) at.accepted;
        profile = at.profile ∙ sym same;
        listens = listens_so;
        runs = runs_so standing.past standing.members at.runs;
        devices = subst (λ (legs : Legs). AllStand legs new.devices.items standing.members)
            (sym (legs_behind Outside standing.history next))
            (all_stand_behind (legs_after Outside standing.history) signal other new.devices.items standing.members
            handed.results handed.moved);
        answered = answered_behind standing.members Outside standing.history next at.answered other
            (answers_are signal result new.devices.items handed);
      }

  -- and where STOP does
  ends_so : (result : DeviceSignal) → AreApplied
      → Gives (legs_after Outside standing.history) Stop standing.members result new.devices.items
      → BusEnds standing new
  ends_so result applied given =
      let legs = legs_after Outside standing.history in
      let devices = devices_of standing.members in
      -- each does what its own leg asks for,
      let ended = all_end legs given.handed standing.members given.hands.results given.hands.moved in
      -- and takes what was written at its other addresses
      let taken = given.takes ended.news ended.same ended.ended in
      let ends = both_end devices legs standing.members ended.news taken.news ended.acts taken.takes in
      record {
        -- the devices after STOP, outside of a packet
        members = taken.news;
        ends = ends;
        stands = record {
          exact = exact;
          accepted = subst IsBus (sym same) at.accepted;
          profile = taken_devices devices legs ended.news taken.news taken.takes ∙ ended.same ∙ at.profile ∙ sym same;
          listens = listens_so;
          runs = runs_so (standing.past ++ standing.history ∷ []) taken.news
              (runs_more (first_members bus.profile.now) standing.past standing.members standing.history taken.news
              at.runs at.answered ends);
          devices = ended_stand legs new.devices.items taken.news taken.ended;
          answered = tt;
        };
        -- and a transaction's packet tells their states
        applied = λ t packet.
            all_are_applied devices t legs standing.members taken.news ends
            (λ member after inside ended.
            applied devices standing.members standing.history t member after
            (subst IsBus (sym at.profile) at.accepted) refl at.answered packet inside ended);
      }

  -- after another signal the devices are those that took it
  handed_so : (signal : HostSignal) (result : DeviceSignal) (handed : List Device) → new.devices.items ≡ handed
      → HandsOn (legs_after Outside standing.history) signal standing.members result handed
      → HandsOn (legs_after Outside standing.history) signal standing.members result new.devices.items
  handed_so signal result handed is hands =
      subst (HandsOn (legs_after Outside standing.history) signal standing.members result) (sym is) hands

  leads_so : (signal : HostSignal) (result : DeviceSignal) → AreApplied
      → Gives (legs_after Outside standing.history) signal standing.members result new.devices.items
      → BusLeads standing signal result new
  leads_so Start result applied given =
      goes_on Start result (λ is. cc is) (handed_so Start result given.handed given.takes given.hands)
  leads_so (Byte b) result applied given =
      goes_on (Byte b) result (λ is. cc is) (handed_so (Byte b) result given.handed given.takes given.hands)
  leads_so Ask result applied given =
      goes_on Ask result (λ is. cc is) (handed_so Ask result given.handed given.takes given.hands)
  leads_so Ack result applied given =
      goes_on Ack result (λ is. cc is) (handed_so Ack result given.handed given.takes given.hands)
  leads_so Nack result applied given =
      goes_on Nack result (λ is. cc is) (handed_so Nack result given.handed given.takes given.hands)
  leads_so Stop result applied given = ends_so result applied given

  pub takes : (signal : HostSignal) (told result : DeviceSignal) → told ≡ result → AreApplied
      → Gives (legs_after Outside standing.history) signal standing.members result new.devices.items
      → BusTakes standing signal told new
  takes signal told result is applied given =
      subst (λ (r : DeviceSignal). BusTakes standing signal r new) (sym is)
      (record {
        answers = answers_are signal result given.handed given.hands;
        leads = leads_so signal result applied given;
      })
