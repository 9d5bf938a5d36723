-- Where a bus stands after one signal more: each device where the signal leads it, and the answers
-- with one more. For `Bus::device`, `Bus::signal` and `add_device`. A signal other than STOP goes
-- to the end of what came since the last STOP; STOP ends that stretch, and another one begins. At STOP
-- each device does what its own leg asks for (`all_end`), and then takes what others took (`both_end`).
use Rattle.std.proofs.Common.{subst, ◌≡◌, ◌≢◌, List, [], ◌∷◌, ◌++◌, refl, ap, ◌∙◌}
use Rattle.pmb_command.specs.Parts.{DeviceParts}
use Rattle.pmb_registers.specs.State.{InState}
use Rattle.pmb_device.specs.declared.signal.HostSignal.{HostSignal}
use Rattle.pmb_device.specs.declared.signal.HostSignal.TheVariants.{Start, Byte, Ask, Ack, Nack, Stop}
use Rattle.pmb_device.specs.declared.signal.DeviceSignal.{DeviceSignal}
use Rattle.pmb_device.specs.declared.device.Device.{Device}
use Rattle.pmb_device.specs.Legs.{Legs, Outside, with_signal}
use Rattle.pmb_device.specs.Device.{DeviceStanding, DeviceStandsAt, Leads}
use Rattle.pmb_device.specs.Ends.{Ends}
use Rattle.pmb_devices.specs.Bus.{AreAnswered, BusAnswers, AnsweredSignal, legs_after}
use Rattle.pmb_devices.specs.Runs.{AllEnd, Runs}
use Rattle.pmb_devices.specs.Stops.{EachEnds, TakesEach}
use Rattle.pmb_devices.specs.machine.Standing.{AllStand}
use Rattle.pmb_devices.specs.machine.Hands.{AllMoved}
use Rattle.pmb_devices.specs.machine.Others.{AllEnded, AllTake, devices_of}

-- ---- what came since the last STOP

-- the legs after one signal more
pub legs_behind : (legs : Legs) (history : List AnsweredSignal) (next : AnsweredSignal)
    → legs_after legs (history ++ next ∷ []) ≡ with_signal (legs_after legs history) next.signal
legs_behind legs [] next = refl
legs_behind legs (exchange ∷ history) next = legs_behind (with_signal legs exchange.signal) history next

-- one answer more
pub answered_behind : (members : List InState) (legs : Legs) (history : List AnsweredSignal) (next : AnsweredSignal)
    → AreAnswered members legs history
    → next.signal ≢ Stop → BusAnswers members (legs_after legs history) next.signal next.result
    → AreAnswered members legs (history ++ next ∷ [])
answered_behind members legs [] next answered other answer = (other, answer, tt)
answered_behind members legs (exchange ∷ history) next answered other answer = (
  answered.0,
  answered.1,
  answered_behind members (with_signal legs exchange.signal) history next answered.2 other
      answer,
)

-- ---- the devices

-- where a device goes at a signal other than STOP
led : (standing : DeviceStanding) (signal : HostSignal) (d : Device) → signal ≢ Stop → Leads standing signal d
    → DeviceStandsAt d (record standing { legs = with_signal standing.legs signal })
led standing Start d other leads = leads
led standing (Byte b) d other leads = leads
led standing Ask d other leads = leads
led standing Ack d other leads = leads
led standing Nack d other leads = leads
led standing Stop d other leads = absurd (other refl)

-- After a signal other than STOP all devices stand after it.
pub all_stand_behind : (legs : Legs) (signal : HostSignal) → signal ≢ Stop
    → (devices : List Device) (members : List InState) (results : List DeviceSignal)
    → AllMoved legs signal devices members results → AllStand (with_signal legs signal) devices members
all_stand_behind legs signal other [] [] [] all = tt
all_stand_behind legs signal other [] [] (result ∷ results) all = absurd all
all_stand_behind legs signal other [] (member ∷ members) results all = absurd all
all_stand_behind legs signal other (d ∷ devices) [] results all = absurd all
all_stand_behind legs signal other (d ∷ devices) (member ∷ members) [] all = absurd all
all_stand_behind legs signal other (d ∷ devices) (member ∷ members) (result ∷ results) all = (
  led (record { device = member.device; state = member.state; legs = legs }) signal d other all.0.leads,
  all_stand_behind legs signal other devices members results all.1,
)

-- each device does what its own leg asks for
abbrev pub EachActs : Legs → List InState → List InState → Type 0
EachActs legs [] [] = Unit {0}
EachActs legs [] (new ∷ news) = ⊥
EachActs legs (old ∷ olds) [] = ⊥
EachActs legs (old ∷ olds) (new ∷ news) =
    (new.device ≡ old.device) × Ends old.device legs old.state new.state × EachActs legs olds news

-- What STOP makes of all devices, before they take what was written at other addresses.
pub record Ended (legs : Legs) (devices : List Device) (members : List InState) : Type 0 where
  -- the members with their new states
  pub news : List InState
  -- each became what its own leg makes of it,
  pub acts : EachActs legs members news
  -- stands outside of a packet, and knows what it took,
  pub ended : AllEnded legs devices news
  -- and its device is the same
  pub same : devices_of news ≡ devices_of members

pub all_end : (legs : Legs) (devices : List Device) (members : List InState) (results : List DeviceSignal)
    → AllMoved legs Stop devices members results → Ended legs devices members
all_end legs [] [] [] all = record { news = []; acts = tt; ended = tt; same = refl }
all_end legs [] [] (result ∷ results) all = absurd all
all_end legs [] (member ∷ members) results all = absurd all
all_end legs (d ∷ devices) [] results all = absurd all
all_end legs (d ∷ devices) (member ∷ members) [] all = absurd all
all_end legs (d ∷ devices) (member ∷ members) (result ∷ results) all =
    let leads = all.0.leads in
    let more = all_end legs devices members results all.1 in
    record {
      news = record { device = member.device; state = leads.0 } ∷ more.news;
      acts = (refl, leads.1, more.acts);
      ended = (record { stands = leads.2; remembers = leads.3 }, more.ended);
      same = ap (λ (ds : List DeviceParts). member.device ∷ ds) more.same;
    }

-- After that they take it: each goes where STOP leads it on the bus.
pub both_end : (bus : List DeviceParts) (legs : Legs) (olds mids news : List InState) → EachActs legs olds mids
    → AllTake bus legs mids news → EachEnds bus legs olds news
both_end bus legs [] [] [] acts takes = tt
both_end bus legs [] [] (new ∷ news) acts takes = absurd takes
both_end bus legs [] (mid ∷ mids) news acts takes = absurd acts
both_end bus legs (old ∷ olds) [] news acts takes = absurd acts
both_end bus legs (old ∷ olds) (mid ∷ mids) [] acts takes = absurd takes
both_end bus legs (old ∷ olds) (mid ∷ mids) (new ∷ news) acts takes = (
  takes.0 ∙ acts.0,
  record {
    between = mid.state;
    own = acts.1;
    others = subst (λ (d : DeviceParts). TakesEach bus legs d d.also mid.state new.state) acts.0 takes.1;
  },
  both_end bus legs olds mids news acts.2 takes.2,
)

-- ---- one device more

pub stand_more : (legs : Legs) (devices : List Device) (members : List InState) (d : Device) (member : InState)
    → AllStand legs devices members
    → DeviceStandsAt d (record { device = member.device; state = member.state; legs = legs })
    → AllStand legs (devices ++ d ∷ []) (members ++ member ∷ [])
stand_more legs [] [] d member all one = (one, tt)
stand_more legs [] (m ∷ members) d member all one = absurd all
stand_more legs (first ∷ devices) [] d member all one = absurd all
stand_more legs (first ∷ devices) (m ∷ members) d member all one =
    (all.0, stand_more legs devices members d member all.1 one)

-- ---- one stretch more

pub runs_more : (members : List InState) (past : List (List AnsweredSignal)) (now : List InState)
    (stretch : List AnsweredSignal) (next : List InState)
    → Runs members past now → AreAnswered now Outside stretch → AllEnd (legs_after Outside stretch) now next
    → Runs members (past ++ stretch ∷ []) next
runs_more members [] now stretch next runs answered ends =
    let here : AreAnswered members Outside stretch =
    subst (λ (ms : List InState). AreAnswered ms Outside stretch) runs answered in
    let there : AllEnd (legs_after Outside stretch) members next =
    subst (λ (ms : List InState). AllEnd (legs_after Outside stretch) ms next) runs ends in
    (here, (next, there, refl))
runs_more members (first ∷ past) now stretch next runs answered ends =
    (runs.0, (runs.1.0, runs.1.1, runs_more runs.1.0 past now stretch next runs.1.2 answered ends))
