-- A host on the bench, from its first signal to the end that it tells. For `take_host`,
-- `take_request`, `take_text` of the runner and the law `some_running`. After some signals, at
-- most 4,161, their events are put out and the exchange stands after them; at the end the
-- transaction is one more that the bench has recorded, and it is counted as done or failed.
use Rattle.std.proofs.Common.{◌≡◌, ◌≢◌, ◌≤◌, ℕ, ◌+◌, Bool, true, false, Option, List, [], ◌∷◌, ◌++◌, map, refl, sym}
use Rattle.std.proofs.Common.{◌∙◌, ap, subst, append-nil, arith}
use Rattle.std.proofs.lemmas.Grind.{flat_map-append}
use Rattle.pmb_bus.specs.Event.{canonical_text, text_of}
use Rattle.pmb_bus.specs.declared.event.Event.{Event}
use Rattle.pmb_command.specs.Parts.{DeviceParts}
use Rattle.pmb_io.specs.Outgoing.{PutsText, TextsAddUp}
use Rattle.pmb_io.specs.Tally.{with_refusal}
use Rattle.pmb_io.specs.declared.tally.Tally.{Tally}
use Rattle.pmb_note.specs.Context.{HasSeen}
use Rattle.pmb_reader.specs.Reader.{Open, ReaderStandsAt}
use Rattle.pmb_transaction.specs.Packet.{Packet}
use Rattle.pmb_transaction.specs.Transaction.{PartData, TransactionData, Write, Read, Call, Refused, Alert, NoAlert}
use Rattle.pmb_registers.specs.Apply.{apply, apply_all}
use Rattle.pmb_registers.specs.State.{InState, DeviceState}
use Rattle.pmb_devices.specs.Runs.{all_after, first_members}
use Rattle.pmb_devices.specs.Signal.{BusStandsAt, all_applied}
use Rattle.pmb_request.specs.Request.{RequestData}
use Rattle.pmb_host.specs.Host.{IsNewHost}
use Rattle.pmb_host.specs.Task.{task_of}
use Rattle.pmb_host.specs.declared.host.Host.{Host}
use Rattle.pmb_value.specs.declared.number_format.NumberFormat.{NumberFormat}
use Rattle.pmb_host.specs.declared.step.HostStep.{HostStep}
use Rattle.pmb_exchange.specs.Exchange.{EndsWith, RefusedAt}
use Rattle.pmb_exchange.specs.Steps.{Begins, ExchangeStanding, ExchangeStandsAt, IsOver}
use Rattle.pmb_exchange.specs.declared.exchange.Exchange.{Exchange}
use Rattle.pmb_run.specs.declared.bench.Bench.{Bench}
use Rattle.pmb_run.specs.machine.Bench.{BenchStands, GoesOn, HaveHeard, HaveRead, RunsHost, bench_profile}
use Rattle.pmb_run.specs.machine.Running.{counted_transaction, end_counted}

-- ---- what transactions make of the devices

-- one transaction after others
applied_behind : (device : DeviceParts) (ts : List TransactionData) (t : TransactionData) (state : DeviceState)
    → apply device t (apply_all device ts state) ≡ apply_all device (ts ++ t ∷ []) state
applied_behind device [] t state = refl
applied_behind device (first ∷ ts) t state = applied_behind device ts t (apply device first state)

-- of each device
pub after_one_more : (ts : List TransactionData) (t : TransactionData) (members : List InState)
    → all_applied t (all_after ts members) ≡ all_after (ts ++ t ∷ []) members
after_one_more ts t [] = refl
after_one_more ts t (member ∷ members) =
    λ i. record { device = member.device; state = applied_behind member.device ts t member.state i }
    ∷ after_one_more ts t members i

-- some transactions after others
applied_after : (device : DeviceParts) (ts us : List TransactionData) (state : DeviceState)
    → apply_all device us (apply_all device ts state) ≡ apply_all device (ts ++ us) state
applied_after device [] us state = refl
applied_after device (first ∷ ts) us state = applied_after device ts us (apply device first state)

pub after_both : (ts us : List TransactionData) (members : List InState)
    → all_after us (all_after ts members) ≡ all_after (ts ++ us) members
after_both ts us [] = refl
after_both ts us (member ∷ members) =
    λ i. record { device = member.device; state = applied_after member.device ts us member.state i }
    ∷ after_both ts us members i

-- the devices stay
pub devices_stay : (t : TransactionData) (members : List InState)
    → map (λ (member : InState). member.device) (all_applied t members) ≡ map (λ (member : InState). member.device) members
devices_stay t [] = refl
devices_stay t (member ∷ members) =
    ap (λ (devices : List DeviceParts). member.device ∷ devices) (devices_stay t members)

-- the devices stay those of the profile
pub devices_after : (ts : List TransactionData) (profile : List DeviceParts)
    → map (λ (member : InState). member.device) (all_after ts (first_members profile)) ≡ profile
devices_after ts [] = refl
devices_after ts (device ∷ profile) = ap (λ (devices : List DeviceParts). device ∷ devices) (devices_after ts profile)

-- ---- how a request begins

-- a new host and the bench's bus
abbrev pub begins_on : (members : List InState) (ts : List TransactionData) (bench : Bench) (request : RequestData)
    (host : Host) (stands : BenchStands bench members ts) → IsNewHost (bench_profile bench) request host
    → Begins (bench_profile bench) request host bench.bus
begins_on members ts bench request host stands new = record {
  new = new;
  past = stands.past;
  members = members;
  devices_are = stands.devices_are;
  stands = stands.bus;
}

-- where the host begins
abbrev pub beginning_on : (members : List InState) (ts : List TransactionData) (bench : Bench) (request : RequestData)
    (host : Host) (stands : BenchStands bench members ts) → IsNewHost (bench_profile bench) request host
    → ExchangeStanding
beginning_on members ts bench request host stands new = record {
  job = record { profile = bench_profile bench; task = task_of request new.word; number = new.number };
  past = stands.past;
  members = members;
  events = [];
  sent = 0;
}

-- no packet ends before its first event
heard_nothing : (ts : List TransactionData) (bench : Bench) (n : ℕ)
    → ((profile : List DeviceParts) (t : TransactionData) (events : List Event) → Packet profile t events → events ≢ [])
    → ReaderStandsAt (bench_profile bench) bench.reader (Open n []) → HasSeen bench.context (bench_profile bench) ts
    → HaveHeard bench ts n []
heard_nothing ts bench n not_empty reader context t [] packet =
    absurd (not_empty (bench_profile bench) t [] packet refl)
heard_nothing ts bench n not_empty reader context t (event ∷ rest) packet = (reader, context)

-- The host stands at its beginning.
pub runs_first : (members : List InState) (ts : List TransactionData) (bench : Bench) (request : RequestData)
    (host : Host) (exchange : Exchange)
    (stands : BenchStands bench members ts) (new : IsNewHost (bench_profile bench) request host)
    → ((profile : List DeviceParts) (t : TransactionData) (events : List Event) → Packet profile t events → events ≢ [])
    → ExchangeStandsAt exchange bench.bus (beginning_on members ts bench request host stands new)
    → RunsHost members ts bench exchange (beginning_on members ts bench request host stands new)
runs_first members ts bench request host exchange stands new not_empty there = record {
  stands = there;
  profile_is = refl;
  devices_are = stands.devices_are;
  members_are = refl;
  n = stands.n;
  heard = heard_nothing ts bench stands.n not_empty stands.reader stands.context;
}

-- ---- how it goes on

-- So many signals were sent, and their events put out.
pub record HostRuns (members : List InState) (ts : List TransactionData) (first : ExchangeStanding) (sent : ℕ)
    (bench : Bench) (exchange : Exchange) (held_old : Option (List ℕ)) (waiting_old : List ℕ) (held_new : Option (List ℕ))
    (waiting_new : List ℕ) : Type 0 where
  -- 4,161 is the greatest number of signals (`signals_are_few` of pmb_host)
  pub few : sent ≤ 4161
  -- the events of these signals,
  pub events : List Event
  -- which were put out as text
  pub writes : PutsText held_old waiting_old held_new waiting_new (canonical_text events)
  pub runs : RunsHost members ts bench exchange (record first { events = events; sent = sent })

-- One signal more was sent.
pub sent_more : TextsAddUp → (members : List InState) (ts : List TransactionData) (first : ExchangeStanding) (sent : ℕ)
    (bench after : Bench) (exchange next : Exchange)
    (h0 h1 h2 : Option (List ℕ)) (w0 w1 w2 : List ℕ) (runs : HostRuns members ts first sent bench exchange h0 w0 h1 w1)
    → GoesOn members ts (record first { events = runs.events; sent = sent }) after next h1 w1 h2 w2
    → HostRuns members ts first (sent + 1) after next h0 w0 h2 w2
sent_more add_up members ts first sent bench after exchange next h0 h1 h2 w0 w1 w2 runs more = record {
  few = omega (arith, more.few);
  events = runs.events ++ more.events;
  writes = subst (λ (text : List ℕ). PutsText h0 w0 h2 w2 text) (sym (flat_map-append text_of runs.events more.events))
      (add_up h0 h1 h2 w0 w1 w2 (canonical_text runs.events) (canonical_text more.events) runs.writes more.writes);
  runs = more.runs;
}

-- ---- how it ends

-- After the end the bench stands between requests, with the transaction among those that were
-- recorded.
pub stands_behind : (members : List InState) (ts : List TransactionData) (bench : Bench) (exchange : Exchange)
    (standing : ExchangeStanding) (end : HostStep)
    → RunsHost members ts bench exchange standing → (over : IsOver standing end bench.bus)
    → BenchStands bench (all_after (over.done ∷ []) members) (ts ++ over.done ∷ [])
stands_behind members ts bench exchange standing end runs over =
    let packet = subst (λ (events : List Event). Packet (bench_profile bench) over.done events)
    (sym (append-nil standing.events))
    (subst (λ (profile : List DeviceParts). Packet profile over.done standing.events) runs.profile_is over.packet) in
    let heard : HaveRead bench ts runs.n standing.events over.done [] = runs.heard over.done [] packet in
    let applied = ap (all_applied over.done) runs.members_are in record {
      devices_are = devices_stay over.done members ∙ runs.devices_are;
      past = standing.past ++ over.stretch ∷ [];
      bus = subst (λ (ms : List InState). BusStandsAt bench.bus
          (record { past = standing.past ++ over.stretch ∷ []; members = ms; history = [] })) applied over.stands;
      n = _;
      reader = heard.0;
      context = heard.1;
    }

-- a refused byte is a failure
refused_counted : (parts : List PartData) (sent : List ℕ) (at_read : Bool) (end : HostStep) (tally : Tally)
    → RefusedAt parts sent at_read end → end_counted end tally ≡ with_refusal tally
refused_counted parts sent true end tally is = ap (λ (e : HostStep). end_counted e tally) is
refused_counted parts sent false end tally is = ap (λ (e : HostStep). end_counted e tally) is

-- What the host tells is counted as the transaction is.
pub counted_as : (number : Option NumberFormat) (t : TransactionData) (end : HostStep) (tally : Tally)
    → EndsWith number t end → end_counted end tally ≡ counted_transaction t tally
counted_as number (Write parts) end tally told = ap (λ (e : HostStep). end_counted e tally) told.1
counted_as number (Read t) end tally told = ap (λ (e : HostStep). end_counted e tally) told.1
counted_as number (Call t) end tally told = ap (λ (e : HostStep). end_counted e tally) told.1
counted_as number (Refused t) end tally told = refused_counted t.parts t.sent t.at_read end tally told
counted_as number (Alert t) end tally told = absurd told
counted_as number NoAlert end tally told = absurd told
