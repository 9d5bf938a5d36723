-- Where the devices of a session stand, call by call: for the laws.
use Rattle.std.proofs.Common.{◌≡◌, ◌∙◌, ℕ, Option, Some, None, List, [], ap, refl, subst, sym}
use Rattle.pmb_devices.specs.Signal.{BusStandsAt}
use Rattle.pmb_message.specs.declared.message.Message.{Message}
use Rattle.pmb_registers.specs.State.{InState}
use Rattle.pmb_transaction.specs.Transaction.{TransactionData}
use Rattle.pmb_reader.specs.Reader.{IsBetween, Open, Held, Passing, ReaderStandsAt, Standing}
use Rattle.pmb_run.specs.declared.bench.Bench.{Bench}
use Rattle.pmb_run.specs.machine.Bench.{BenchStands, bench_profile}
use Rattle.pmb_bus_session.specs.Devices.{DevicesStand}
use Rattle.pmb_bus_session.specs.Session.{IsFree, MovesText, Opens, Ran, Requests, RunsThere, SendsMessage, SessionStands, StandsFresh, session_devices}
use Rattle.pmb_bus_session.specs.declared.devices.Devices.{Devices}
use Rattle.pmb_bus_session.specs.declared.session.BusGround.{BusGround}
use Rattle.pmb_bus_session.specs.declared.session.BusSession.{BusSession}
use Rattle.pmb_bus_session.specs.declared.work.BusAnswer.{BusAnswer}
use Rattle.pmb_bus_session.specs.declared.work.BusStatus.TheVariants.{Done}

-- ---- devices

-- a bench that stands between two packets
pub at_rest : (devices : Devices) (members : List InState) (ts : List TransactionData)
    → BenchStands devices.runner.bench members ts
    → (place : Standing) × (seen : List TransactionData) × DevicesStand devices place seen
at_rest devices members ts stands = (
  Open stands.n [],
  ts,
  record {
    bus = record {
      standing = record { past = stands.past; members = members; history = [] };
      stands = stands.bus;
      devices_are = stands.devices_are;
      ended = λ over. refl;
    };
    hears = record { reader = stands.reader; free = tt; context = stands.context };
  },
)

-- between two packets some number of events came
no_packet : (bench : Bench) (place : Standing) → ReaderStandsAt (bench_profile bench) bench.reader place
    → IsBetween place → (n : ℕ) × ReaderStandsAt (bench_profile bench) bench.reader (Open n [])
no_packet bench (Open n events) stands between =
    (n, subst (λ es. ReaderStandsAt (bench_profile bench) bench.reader (Open n es)) between stands)
no_packet bench (Held n refusal) stands between = absurd between
no_packet bench (Passing n) stands between = absurd between

-- devices that are free stand between two packets
pub free_stands : (devices : Devices) (place : Standing) (ts : List TransactionData) → DevicesStand devices place ts
    → IsFree devices → (members : List InState) × BenchStands devices.runner.bench members ts
free_stands devices place ts stands free =
    let bench = devices.runner.bench in
    let standing = stands.bus.standing in
    let between = no_packet bench place stands.hears.reader (free.between place stands.hears.reader) in (
      standing.members,
      record {
        devices_are = stands.bus.devices_are;
        past = standing.past;
        bus = subst (λ history. BusStandsAt bench.bus
            (record { past = standing.past; members = standing.members; history = history }))
            (stands.bus.ended free.ended) stands.bus.stands;
        n = between.0;
        reader = between.1;
        context = stands.hears.context;
      },
    )

-- ---- sessions

some_is : {A : Type 0} (a b : A) (o : Option A) → o ≡ Some a → o ≡ Some b → a ≡ b
some_is a b o one two = cc (one, two)

none_is : {A : Type 0} (a : A) (o : Option A) → o ≡ None → o ≡ Some a → ⊥
none_is a o none some = cc (none, some)

stays : (old new : BusSession) → session_devices new ≡ session_devices old → SessionStands old → SessionStands new
stays old new same stands devices there = stands devices (sym same ∙ there)

gone : (new : BusSession) → session_devices new ≡ None → SessionStands new
gone new none devices there = absurd (none_is devices (session_devices new) none there)

-- the devices in it stand
now_stand : (new : BusSession) (now : Devices) → session_devices new ≡ Some now
    → (place : Standing) × (ts : List TransactionData) × DevicesStand now place ts → SessionStands new
now_stand new now is stand devices there =
    subst (λ (it : Devices). (place : Standing) × (ts : List TransactionData) × DevicesStand it place ts)
    (some_is now devices (session_devices new) is there) stand

pub fresh : (ground : BusGround) (session : BusSession) → StandsFresh ground session → SessionStands session
fresh ground session stands = gone session stands.no_devices

pub opened : (old new : BusSession) (answer : BusAnswer) → SessionStands old → Opens old new answer → SessionStands new
opened old new answer stands (Opens.there devices was same is) = stays old new same.devices stands
opened old new answer stands (Opens.made devices none now opens profile log is) =
    now_stand new devices now (at_rest devices _ _ opens.fresh)
opened old new answer stands (Opens.no_memory none same is) = stays old new same.devices stands

pub sent : (message : Message) (before after : List ℕ) (old new : BusSession) (answer : BusAnswer) → SessionStands old
    → SendsMessage message before after old new answer → SessionStands new
sent message before after old new answer stands (SendsMessage.closed none same room is) =
    stays old new same.devices stands
sent message before after old new answer stands (SendsMessage.no_memory devices was same room is) =
    stays old new same.devices stands
sent message before after old new answer stands (SendsMessage.sent was now result was_there there sends profile log is) =
    let stood = stands was was_there in
    let more = sends.reads_on stood.0 stood.1 stood.2.hears in
    now_stand new now there
    (more.place, _, record { bus = sends.stands stood.2.bus; hears = more.hears })

-- the request was run on devices that were free
runs_there : (line : List ℕ) (old new : BusSession) (answer : BusAnswer) (was now : Devices) → SessionStands old
    → session_devices old ≡ Some was → session_devices new ≡ Some now → IsFree was
    → ((members : List InState) (ts : List TransactionData) → BenchStands was.runner.bench members ts
    → Ran line members ts was now old.log.left new.log.left answer.tally)
    → RunsThere line old new answer
runs_there line old new answer was now stands was_there there free runs =
    let stood = stands was was_there in
    let at = free_stands was stood.0 stood.1 stood.2 free in
    record {
      was = was;
      now = now;
      was_there = was_there;
      there = there;
      members = at.0;
      ts = stood.1;
      stood = at.1;
      ran = runs at.0 stood.1 at.1;
    }

pub requested : (line : List ℕ) (old new : BusSession) (answer : BusAnswer) → SessionStands old
    → Requests line old new answer → SessionStands new
requested line old new answer stands (Requests.closed none same is) = stays old new same.devices stands
requested line old new answer stands (Requests.busy devices was busy same is) = stays old new same.devices stands
requested line old new answer stands (Requests.no_memory devices was free same is) = stays old new same.devices stands
requested line old new answer stands (Requests.gone was there free none profile log is) = gone new none
requested line old new answer stands (Requests.run was now was_there there free ended profile runs is) =
    let stood = stands was was_there in
    let at = free_stands was stood.0 stood.1 stood.2 free in
    now_stand new now there (at_rest now _ _ (runs at.0 stood.1 at.1).stands)

pub taken : (before after : List ℕ) (old new : BusSession) (answer : BusAnswer) → SessionStands old
    → MovesText before after old new answer → SessionStands new
taken before after old new answer stands moves = stays old new moves.devices stands

-- ---- requests

-- no other answer has that status
pub run_there : (line : List ℕ) (old new : BusSession) (answer : BusAnswer) → SessionStands old
    → Requests line old new answer → answer.status ≡ Done → RunsThere line old new answer
run_there line old new answer stands (Requests.closed none same is) done =
    absurd (cc (ap (λ (a : BusAnswer). a.status) is, done))
run_there line old new answer stands (Requests.busy devices was busy same is) done =
    absurd (cc (ap (λ (a : BusAnswer). a.status) is, done))
run_there line old new answer stands (Requests.no_memory devices was free same is) done =
    absurd (cc (ap (λ (a : BusAnswer). a.status) is, done))
run_there line old new answer stands (Requests.gone was there free none profile log is) done =
    absurd (cc (ap (λ (a : BusAnswer). a.status) is, done))
run_there line old new answer stands (Requests.run was now was_there there free ended profile runs is) done =
    runs_there line old new answer was now stands was_there there free runs
