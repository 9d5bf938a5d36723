-- The steps of an exchange, for `Exchange::new` and `Exchange::next`. Each signal of the host goes
-- to the bus, which answers and records it; at STOP the devices act, and then the law
-- `runs_are_exchanges` says what was exchanged, and so the end that the host tells. By where the
-- exchange stands (`Stands`): signals go on, STOP was sent, or it is over.
use Rattle.std.proofs.Common.{◌≡◌, ◌≢◌, ℕ, ◌+◌, ◌<◌, Bool, true, false, Option, Some, None, List, [], ◌∷◌, ◌++◌, length}
use Rattle.std.proofs.Common.{refl, sym, ap, subst, ◌∙◌, length-append, arith}
use Rattle.std.specs.List.{AllByRecursion, Contains}
use Rattle.std.proofs.lemmas.List.{append-nil}
use Rattle.pmb_bus.specs.declared.event.Event.{Event}
use Rattle.pmb_bus.specs.declared.event.Event.TheVariants as events
use Rattle.pmb_command.specs.Bus.{IsBus}
use Rattle.pmb_command.specs.Parts.{DeviceParts}
use Rattle.pmb_transaction.specs.Packet.{Packet}
use Rattle.pmb_transaction.specs.Transaction.{PartData, TransactionData, Write, Read, Call, Refused, Alert, NoAlert}
use Rattle.pmb_registers.specs.State.{InState}
use Rattle.pmb_device.specs.declared.signal.HostSignal.{HostSignal}
use Rattle.pmb_device.specs.declared.signal.HostSignal.TheVariants.{Start, Byte, Ask, Ack, Nack, Stop}
use Rattle.pmb_device.specs.declared.signal.DeviceSignal.{DeviceSignal}
use Rattle.pmb_device.specs.declared.signal.DeviceSignal.TheVariants as answers
use Rattle.pmb_device.specs.Legs.{Legs, Outside, with_signal}
use Rattle.pmb_devices.specs.declared.bus.Bus.{Bus}
use Rattle.pmb_devices.specs.Bus.{AreAnswered, AnsweredSignal, BusAnswers, legs_after, recorded, recorded_events}
use Rattle.pmb_devices.specs.Signal.{BusEnds, BusStanding, BusStandsAt, BusTakes, all_applied, behind}
use Rattle.pmb_devices.specs.Replies.{IsState}
use Rattle.pmb_devices.specs.Runs.{Runs, first_members}
use Rattle.pmb_request.specs.Request.{RequestData}
use Rattle.pmb_host.specs.declared.host.Host.{Host}
use Rattle.pmb_value.specs.declared.number_format.NumberFormat.{NumberFormat}
use Rattle.pmb_host.specs.declared.step.HostStep.{HostStep}
use Rattle.pmb_host.specs.declared.step.HostStep.TheVariants.{Send}
use Rattle.pmb_host.specs.Host.{Ends, FirstSteps, HostStanding, HostStandsAt, IsNext, Job, Steps, answered}
use Rattle.pmb_exchange.specs.Exchange.{EndsWith, RefusedAt}
use Rattle.pmb_exchange.specs.Run.{AreSentInTurn, HasEnded, HasRun, IsExchanged, stopped}
use Rattle.pmb_exchange.specs.Steps.{Begins, beginning}
use Rattle.pmb_exchange.specs.machine.Standing.{ExchangeStanding, IsOver, IsRunning, Stands, running, at_end, over}
use Rattle.pmb_exchange.proofs.Stops.{recorded-append}

-- ---- one signal more

-- what was answered, with one more
answered_more : (members : List InState) (legs : Legs) (history : List AnsweredSignal) (one : AnsweredSignal)
    → AreAnswered members legs history
    → one.signal ≢ Stop → BusAnswers members (legs_after legs history) one.signal one.result
    → AreAnswered members legs (history ++ one ∷ [])
answered_more members legs [] one answered other bus = (other, bus, tt)
answered_more members legs (first ∷ history) one answered other bus =
    (answered.0, answered.1, answered_more members (with_signal legs first.signal) history one answered.2 other bus)

-- a place in a list with one more is in the list, or the one
data InMore {X : Type 0} (xs : List X) (x : X) (before : List X) (one : X) : Type 0 where
  -- it is in the list,
  within : (behind : List X) → xs ≡ before ++ one ∷ behind → InMore xs x before one
  -- or it is the one more
  at_last : before ≡ xs → one ≡ x → InMore xs x before one

no_place : {X : Type 0} (front : List X) (x : X) (back : List X) → [] ≡ front ++ x ∷ back → ⊥
no_place [] x back is = cc is
no_place (y ∷ front) x back is = cc is

in_more : {X : Type 0} (xs : List X) (x : X) (before : List X) (one : X) (behind : List X)
    → xs ++ x ∷ [] ≡ before ++ one ∷ behind → InMore xs x before one
in_more [] x [] one behind is = at_last refl (sym (cc is))
in_more [] x (y ∷ before) one behind is =
    let rest : [] ≡ before ++ one ∷ behind = cc is in
    absurd (no_place before one behind rest)
in_more {X} (y ∷ xs) x [] one behind is =
    let first : y ≡ one = cc is in
    within xs (ap (λ (z : X). z ∷ xs) first)
in_more (y ∷ xs) x (z ∷ before) one behind is =
    let rest : xs ++ x ∷ [] ≡ before ++ one ∷ behind = cc is in
    let first : y ≡ z = cc is in
    more_first y z xs x before one first (in_more xs x before one behind rest)
  where
    more_first : {X : Type 0} (y z : X) (xs : List X) (x : X) (before : List X) (one : X) → y ≡ z
        → InMore xs x before one → InMore (y ∷ xs) x (z ∷ before) one
    more_first y z xs x before one first (within later is) = within later (cc)
    more_first y z xs x before one first (at_last is also) = at_last (cc) also

module _ (job : Job) (history : List AnsweredSignal) (one : AnsweredSignal) (turn : AreSentInTurn job history)
    (next : IsNext job history one.signal) where
  -- the next signal of the host, and where host and bus stand with it
  by_place : (before : List AnsweredSignal) (x : AnsweredSignal) → InMore history one before x
      → IsNext job before x.signal
  by_place before x (within behind split) = turn before x behind split
  by_place before x (at_last before_is x_is) =
      subst (λ (h : List AnsweredSignal). IsNext job h x.signal) (sym before_is)
      (subst (λ (o : AnsweredSignal). IsNext job history o.signal) (sym x_is) next)

  -- Signals that were sent in turn, and the next one.
  in_turn_more : AreSentInTurn job (history ++ one ∷ [])
  in_turn_more before x behind split = by_place before x (in_more history one before x behind split)

-- ---- STOP

-- what was answered before STOP ends in another signal
no_stop_last : (members : List InState) (legs : Legs) (front : List AnsweredSignal) (one : AnsweredSignal)
    → AreAnswered members legs (front ++ one ∷ [])
    → one.signal ≢ Stop
no_stop_last members legs [] one answered = answered.0
no_stop_last members legs (first ∷ front) one answered =
    no_stop_last members (with_signal legs first.signal) front one answered.2

stop_within : (history : List AnsweredSignal) (result : DeviceSignal)
    → AllByRecursion (λ one. one.signal ≢ Stop) (stopped history result) → ⊥
stop_within [] result none = none.0 refl
stop_within (one ∷ history) result none = stop_within history result none.1

-- an exchange does not end with a signal
no_refused_send : (parts : List PartData) (sent : List ℕ) (at_read : Bool) (signal : HostSignal)
    → RefusedAt parts sent at_read (Send signal) → ⊥
no_refused_send parts sent true signal told = cc told
no_refused_send parts sent false signal told = cc told

no_send : (number : Option NumberFormat) (done : TransactionData) (signal : HostSignal)
    → EndsWith number done (Send signal) → ⊥
no_send number (Write parts) signal told = cc (told.1)
no_send number (Read t) signal told = cc (told.1)
no_send number (Call t) signal told = cc (told.1)
no_send number (Refused t) signal told = no_refused_send t.parts t.sent t.at_read signal told
no_send number (Alert t) signal told = told
no_send number NoAlert signal told = told

-- ---- a signal

module _ (standing : ExchangeStanding) (new : Host) (bus after : Bus) (result : DeviceSignal) where
  -- where the exchange stands after a signal
  abbrev pub with_events : List Event → ExchangeStanding
  with_events es = record standing { events = standing.events ++ es; sent = standing.sent + 1 }

  module _ (history : List AnsweredSignal) (signal : HostSignal) (run : IsRunning standing history bus)
      (next : IsNext standing.job history signal)
      (stands : HostStandsAt new (record {
        job = standing.job;
        heard = history;
        last = Some signal;
        ended =
            None;
      })) where
    abbrev one : AnsweredSignal
    one = record { signal = signal; result = result }

    recorded_more : (es : List Event) → es ≡ recorded signal result
        → standing.events ++ es ≡ recorded_events (history ++ one ∷ [])
    recorded_more es is =
        ap (λ (x : List Event). x ++ es) run.events_are ∙ ap (λ (x : List Event). recorded_events history ++ x)
        (is ∙ sym (append-nil (recorded signal result)))
        ∙ sym (recorded-append history (one ∷ []))

    sent_more : standing.sent + 1 ≡ length (history ++ one ∷ [])
    sent_more =
        let long = length-append history (one ∷ []) in
        omega (arith, long, run.sent_is)

    -- other than STOP
    other_signal : (es : List Event) → es ≡ recorded signal result → signal ≢ Stop
        → BusAnswers standing.members (legs_after Outside history) signal result
        → BusStandsAt after (record { past = standing.past; members = standing.members; history = history ++ one ∷ [] })
        → Stands new result after (with_events es)
    other_signal es is other answers bus_is =
        running history (Some signal) stands
        (
        record {
          heard = record {
            requested = run.heard.requested;
            on = run.heard.on;
            answers = answered_more standing.members Outside history one run.heard.answers other answers;
            in_turn = in_turn_more standing.job history one run.heard.in_turn next;
          };
          stands = bus_is;
          events_are = recorded_more es is;
          sent_is = sent_more;
        }
        )

  -- STOP
  stop_signal : (history : List AnsweredSignal) (es : List Event) → es ≡ recorded Stop result
      → IsRunning standing history bus
      → IsNext standing.job history Stop
      → HostStandsAt new (record { job = standing.job; heard = history; last = Some Stop; ended = None })
      → BusEnds (record { past = standing.past; members = standing.members; history = history }) after
      → Stands new result after (with_events es)
  stop_signal history es is run next stands ends =
      at_end history stands
      (
      record {
        heard = record {
          requested = run.heard.requested;
          on = run.heard.on;
          answers = run.heard.answers;
          in_turn = run.heard.in_turn;
        };
        in_turn = λ r. in_turn_more standing.job history (record { signal = Stop; result = r }) run.heard.in_turn next;
        after = ends.members;
        stands = ends.stands;
        applied = ends.applied;
        events_are = ap (λ (x : List Event). x ++ es) run.events_are
            ∙ ap (λ (x : List Event). recorded_events history ++ x) is;
      }
      )

  -- each of them
  send_running : (history : List AnsweredSignal) (signal : HostSignal) (es : List Event) → es ≡ recorded signal result
      → IsRunning standing history bus
      → IsNext standing.job history signal
      → HostStandsAt new (record { job = standing.job; heard = history; last = Some signal; ended = None })
      → BusTakes (record { past = standing.past; members = standing.members; history = history }) signal result after
      → Stands new result after (with_events es)
  send_running history Start es is run next stands takes = other_signal history Start run next stands es is
      (λ stop. cc stop) takes.answers takes.leads
  send_running history (Byte b) es is run next stands takes = other_signal history (Byte b) run next stands es is
      (λ stop. cc stop) takes.answers takes.leads
  send_running history Ask es is run next stands takes = other_signal history Ask run next stands es is
      (λ stop. cc stop) takes.answers takes.leads
  send_running history Ack es is run next stands takes = other_signal history Ack run next stands es is
      (λ stop. cc stop) takes.answers takes.leads
  send_running history Nack es is run next stands takes = other_signal history Nack run next stands es is
      (λ stop. cc stop) takes.answers takes.leads
  send_running history Stop es is run next stands takes = stop_signal history es is run next stands takes.leads

  -- The host sends a signal, and the bus takes it.
  pub send_step : (host : Host) (answer : DeviceSignal) (signal : HostSignal) (es : List Event)
      → es ≡ recorded signal result → Stands host answer bus standing
      → ((hs : HostStanding) → HostStandsAt host hs → Steps hs answer (Send signal) new)
      → ((bs : BusStanding) → BusStandsAt bus bs → BusTakes bs signal result after)
      → (standing.sent < 4161) × Stands new result after (with_events es)
  -- signals go on: the host sends the next one, of at most 4,161, and the bus takes it
  send_step host answer signal es is (running heard before stands run) steps takes =
      let sends = steps (record { job = standing.job; heard = heard; last = before; ended = None }) stands in
      let few : standing.sent < 4161 = omega (arith, sends.few, run.sent_is) in (
        few,
        send_running (heard ++ answered before answer) signal es is run sends.next sends.stands
            -- nothing was heard so far
            (takes (record {
              past = standing.past;
              members = standing.members;
              history = heard
                  ++ answered before answer;
            }) run.stands),
      )
  -- after STOP the host sends nothing
  send_step host answer signal es is (at_end history stands stop) steps takes =
      let sends = steps (record { job = standing.job; heard = history; last = Some Stop; ended = None }) stands in
      absurd (stop_within history answer sends.no_stop)
  -- it is over, and the host returns its end again, which is no signal
  send_step host answer signal es is (over heard step stands o) steps takes =
      let again = steps (record { job = standing.job; heard = heard; last = None; ended = Some step }) stands in
      absurd
      (
      no_send standing.job.number o.done signal
      (subst (λ (s : HostStep). EndsWith standing.job.number o.done s) (sym again.0) o.told)
      )

-- ---- the end

module _ (law : (job : Job) (members : List InState) (heard : List AnsweredSignal) (step : HostStep)
    → HasRun job members heard step
    → IsExchanged job members heard step) (standing : ExchangeStanding) (new : Host) (bus : Bus) (step : HostStep)
    (first : (hs : HostStanding) (heard : List AnsweredSignal) → FirstSteps hs heard step new
    → Ends hs heard step new × HasEnded hs.job heard step) where
  -- The host tells how it ended.
  pub end_step : (host : Host) (answer : DeviceSignal) → Stands host answer bus standing
      → ((hs : HostStanding) → HostStandsAt host hs → Steps hs answer step new)
      → IsOver standing step bus × Stands new answer bus standing
  -- signals go on: the host ends after STOP only, and none was sent
  end_step host answer (running heard before stands run) steps =
      let hs : HostStanding = record { job = standing.job; heard = heard; last = before; ended = None } in
      let ends = (first hs (heard ++ answered before answer) (steps hs stands)).0 in
      absurd
      (
      no_stop_last standing.members Outside ends.front ends.last
      (subst (AreAnswered standing.members Outside) ends.split run.heard.answers) ends.stop
      )
  -- STOP was sent: what the host heard is a whole run, and it returns how that ended
  end_step host answer (at_end history stands stop) steps =
      let hs : HostStanding = record { job = standing.job; heard = history; last = Some Stop; ended = None } in
      -- by the law the run is an exchange,
      let told = first hs (stopped history answer) (steps hs stands) in
      let is =
      law standing.job standing.members history step
      (
      record {
        requested = stop.heard.requested;
        on = stop.heard.on;
        answered = stop.heard.answers;
        last = answer;
        in_turn = stop.in_turn answer;
        ended = told.1;
      }
      ) in
      -- so the devices became what its transaction makes of them,
      let profile_is = stop.heard.on.devices_are in
      let applied : stop.after ≡ all_applied is.done standing.members =
      stop.applied is.done (subst (λ (ps : List DeviceParts). Packet ps is.done
      -- and the exchange is over
      (recorded_events history ++ events.Stop ∷ [])) (sym profile_is) is.packet) in
      let is_over : IsOver standing step bus =
      record {
        done = is.done;
        exchanges = is.exchanges;
        packet = subst (Packet standing.job.profile is.done) (sym stop.events_are) is.packet;
        told = is.told;
        stretch = history;
        stands =
            subst (λ (ms : List InState). BusStandsAt bus
            (record { past = standing.past ++ history ∷ []; members = ms; history = [] })) applied stop.stands;
      } in
      (is_over, over (stopped history answer) step told.0.stands is_over)
  -- it is over: the host returns the same end again
  end_step host answer (over heard before stands o) steps =
      let again = steps (record { job = standing.job; heard = heard; last = None; ended = Some before }) stands in
      (subst (λ (s : HostStep). IsOver standing s bus) (sym again.0) o, over heard before again.1 o)

-- ---- the beginning

-- A new host and its bus between packets stand at the beginning.
pub begins : ((profile : List DeviceParts) (stretches : List (List AnsweredSignal)) (now : List InState)
    (member : InState) → IsBus profile
    → Runs (first_members profile) stretches now → Contains now member → IsState member.device member.state)
    → (profile : List DeviceParts)
    (request : RequestData) (host : Host) (bus : Bus) (b : Begins profile request host bus)
    → Stands host answers.Silent bus (beginning profile request host bus b)
begins fit profile request host bus b =
    running [] None b.new.stands
    (
    record {
      heard = record {
        requested = record { request = request; word = b.new.word; task_is = refl; allowed = b.new.allowed };
        on = record {
          accepted = subst IsBus (sym b.stands.profile ∙ b.devices_are) b.stands.accepted;
          devices_are = b.devices_are;
          fit = λ member there. fit bus.profile.now b.past b.members member b.stands.accepted b.stands.runs there;
        };
        answers = tt;
        in_turn = λ before one behind split. absurd (no_place before one behind split);
      };
      stands = b.stands;
      events_are = refl;
      sent_is = refl;
    }
    )
