-- A bus gives one answer to a signal at most, and STOP leads its devices to one list of states at
-- most. For the laws `one_bus_answer` and `buses_go_alike`. An answer that is not silence is a
-- member's, and that member answers in one way (`loud_is`). What was written at an address is one thing, so
-- what a device takes there leads to one state (`one_taken`, in Taken of `pmb_devices`).
use Rattle.std.proofs.Common.{◌≡◌, ◌≢◌, inl, inr, List, [], ◌∷◌, ◌++◌, map, refl, sym, ap, subst, ◌∙◌}
use Rattle.std.specs.List.{AllByRecursion}
use Rattle.std.proofs.lemmas.List.Elements.{All-contains, All-from_recursion}
use Rattle.pmb_command.specs.Bus.{IsBus, IsDevice}
use Rattle.pmb_command.specs.Parts.{DeviceParts}
use Rattle.pmb_registers.specs.State.{DeviceState, InState}
use Rattle.pmb_device.specs.declared.signal.HostSignal.{HostSignal}
use Rattle.pmb_device.specs.declared.signal.HostSignal.TheVariants.{Start, Byte, Ask, Ack, Nack, Stop}
use Rattle.pmb_device.specs.declared.signal.DeviceSignal.{DeviceSignal}
use Rattle.pmb_device.specs.declared.signal.DeviceSignal.TheVariants as answers
use Rattle.pmb_device.specs.Legs.{Legs, Outside}
use Rattle.pmb_devices.specs.declared.bus.Bus.{Bus}
use Rattle.pmb_devices.specs.Bus.{AnswersOrSilent, BusAnswers, legs_after}
use Rattle.pmb_devices.specs.Runs.{AllEnd}
use Rattle.pmb_devices.specs.Signal.{BusLeads, BusStanding, BusStandsAt, BusTakes, behind}
use Rattle.pmb_devices.specs.Stops.{EachEnds, EndsOn, TakesEach}
use Rattle.pmb_devices.proofs.Taken.{one_taken}
use Rattle.pmb_device_laws.specs.Calls.{StandAlike}
use Rattle.pmb_device_laws.proofs.Alike.{MoveAlike}
use Rattle.pmb_device_laws.proofs.OneAnswer.{one_answer}
use Rattle.pmb_device_laws.proofs.OneEnd.{one_end}

-- ---- the answer

-- each member of an accepted bus is an accepted device
each_accepted : (members : List InState) → AllByRecursion IsDevice (map (λ m. m.device) members)
    → AllByRecursion (λ (m : InState). IsDevice m.device) members
each_accepted [] all = tt
each_accepted (member ∷ members) all = (all.0, each_accepted members all.1)

module _ (members : List InState) (legs : Legs) (signal : HostSignal) (bus : IsBus (map (λ m. m.device) members)) where
  -- an answer that is not silence is the only one
  loud_is : (result other : DeviceSignal) → result ≢ answers.Silent → BusAnswers members legs signal result
      → BusAnswers members legs signal other → result ≡ other
  loud_is result other loud a b =
      let one = a.given_by_one loud in
      let member : InState = one.0 in
      let accepted : IsDevice member.device =
      All-contains (λ (m : InState). IsDevice m.device) members member
      (All-from_recursion (λ (m : InState). IsDevice m.device) members (each_accepted members bus.devices)) one.1 in
      let also : AnswersOrSilent legs signal other member =
      All-contains (AnswersOrSilent legs signal other) members member
      (All-from_recursion (AnswersOrSilent legs signal other) members b.each) one.1 in
      elim also [
        | inl same ↦ one_answer member.device accepted member.state legs signal result other one.2 same
        | inr silent ↦ absurd (loud (one_answer member.device accepted member.state legs signal result answers.Silent
            one.2 silent))
      ]

  pub one_bus_answer : (result other : DeviceSignal) → BusAnswers members legs signal result
      → BusAnswers members legs signal other → result ≡ other
  one_bus_answer answers.Silent answers.Silent a b = refl
  one_bus_answer answers.Silent answers.Ack a b = sym (loud_is answers.Ack answers.Silent (λ is. cc is) b a)
  one_bus_answer answers.Silent answers.Nack a b = sym (loud_is answers.Nack answers.Silent (λ is. cc is) b a)
  one_bus_answer answers.Silent (answers.Byte byte) a b =
      sym (loud_is (answers.Byte byte) answers.Silent (λ is. cc is) b a)
  one_bus_answer answers.Ack other a b = loud_is answers.Ack other (λ is. cc is) a b
  one_bus_answer answers.Nack other a b = loud_is answers.Nack other (λ is. cc is) a b
  one_bus_answer (answers.Byte byte) other a b = loud_is (answers.Byte byte) other (λ is. cc is) a b

-- ---- at STOP

-- a device goes to one state on a bus: by its own leg, and by what was written at its other addresses
one_end_on : (bus : List DeviceParts) (legs : Legs) (device : DeviceParts) (before after other : DeviceState)
    → EndsOn bus legs device before after → EndsOn bus legs device before other → after ≡ other
one_end_on bus legs device before after other a b =
    let between_is : b.between ≡ a.between = one_end device before b.between a.between legs b.own a.own in
    one_taken bus legs device device.also a.between after other a.others
    (subst (λ (state : DeviceState). TakesEach bus legs device device.also state other) between_is b.others)

-- each device does
one_end_each : (bus : List DeviceParts) (legs : Legs) (members after others : List InState)
    → EachEnds bus legs members after → EachEnds bus legs members others → after ≡ others
one_end_each bus legs [] [] [] a b = refl
one_end_each bus legs [] [] (other ∷ others) a b = absurd b
one_end_each bus legs [] (new ∷ after) others a b = absurd a
one_end_each bus legs (member ∷ members) [] others a b = absurd a
one_end_each bus legs (member ∷ members) (new ∷ after) [] a b = absurd b
one_end_each bus legs (member ∷ members) (new ∷ after) (other ∷ others) a b =
    let state_is : new.state ≡ other.state =
    one_end_on bus legs member.device member.state new.state other.state a.1 b.1 in
    let device_is : new.device ≡ other.device = a.0 ∙ sym b.0 in
    let here : new ≡ other =
    ap (λ (device : DeviceParts). record { device = device; state = new.state }) device_is
    ∙ ap (λ (state : DeviceState). record { device = other.device; state = state }) state_is in
    let rest : after ≡ others = one_end_each bus legs members after others a.2 b.2 in
    cc (here, rest)

pub one_bus_end : (legs : Legs) (members after others : List InState) → AllEnd legs members after
    → AllEnd legs members others → after ≡ others
one_bus_end legs members after others a b = one_end_each (map (λ m. m.device) members) legs members after others a b

-- ---- a call

module _ (before : Bus) (standing : BusStanding) (stands : BusStandsAt before standing) (one second : Bus) where
  -- by one answer it leads to one place
  leads_alike : (signal : HostSignal) (result other : DeviceSignal) → result ≡ other
      → BusLeads standing signal result one → BusLeads standing signal other second → StandAlike BusStandsAt one second
  leads_alike Start result other same a b = record {
    standing = behind standing Start result;
    here = a;
    there = subst (λ (r : DeviceSignal). BusStandsAt second (behind standing Start r)) (sym same) b;
  }
  leads_alike (Byte byte) result other same a b = record {
    standing = behind standing (Byte byte) result;
    here = a;
    there = subst (λ (r : DeviceSignal). BusStandsAt second (behind standing (Byte byte) r)) (sym same) b;
  }
  leads_alike Ask result other same a b = record {
    standing = behind standing Ask result;
    here = a;
    there = subst (λ (r : DeviceSignal). BusStandsAt second (behind standing Ask r)) (sym same) b;
  }
  leads_alike Ack result other same a b = record {
    standing = behind standing Ack result;
    here = a;
    there = subst (λ (r : DeviceSignal). BusStandsAt second (behind standing Ack r)) (sym same) b;
  }
  leads_alike Nack result other same a b = record {
    standing = behind standing Nack result;
    here = a;
    there = subst (λ (r : DeviceSignal). BusStandsAt second (behind standing Nack r)) (sym same) b;
  }
  leads_alike Stop result other same a b =
      let members_are : b.members ≡ a.members =
      one_bus_end (legs_after Outside standing.history) standing.members b.members a.members b.ends a.ends in
      record {
        standing = record {
          past = standing.past ++ standing.history ∷ [];
          members = a.members;
          history = [];
        };
        here = a.stands;
        there = subst (λ (members : List InState). BusStandsAt second (record {
          past = standing.past ++ standing.history ∷ [];
          members = members;
          history = [];
        })) members_are b.stands;
      }

  pub one_bus_move : (signal : HostSignal) (result other : DeviceSignal) → BusTakes standing signal result one
      → BusTakes standing signal other second → MoveAlike BusStandsAt BusTakes result other one second
  one_bus_move signal result other a b =
      let bus : IsBus (map (λ m. m.device) standing.members) = subst IsBus (sym stands.profile) stands.accepted in
      let legs = legs_after Outside standing.history in
      let same : result ≡ other =
      one_bus_answer standing.members legs signal bus result other a.answers b.answers in
      record { answer = same; stand = leads_alike signal result other same a.leads b.leads }
