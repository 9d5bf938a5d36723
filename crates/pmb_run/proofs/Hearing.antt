-- What a bench has heard with one event more: as long as the events begin a packet, its reader
-- stands after them, and at the packet's end its context knows the transaction. For `Bench::hear`,
-- `Bench::next` and `put_events`. An event of a packet continues it or ends it; it is never
-- refused.
use Rattle.std.proofs.Common.{◌≡◌, ◌≢◌, ℕ, ◌+◌, List, [], ◌∷◌, ◌++◌, length, get_or, refl, sym, ◌∙◌, subst}
use Rattle.std.proofs.Common.{append_assoc, append-nil, ◌⊎◌, inl, inr, arith}
use Rattle.std.proofs.lemmas.List.{length-append}
use Rattle.pmb_bus.specs.declared.event.Event.{Event}
use Rattle.pmb_bus.specs.declared.event.Event.TheVariants.{Start}
use Rattle.pmb_command.specs.Bus.{IsBus}
use Rattle.pmb_command.specs.Parts.{DeviceParts}
use Rattle.pmb_devices.specs.declared.bus.Bus.{Bus}
use Rattle.pmb_note.specs.Context.{HasSeen}
use Rattle.pmb_note.specs.declared.context.Context.{Context}
use Rattle.pmb_reader.specs.Reader.{Standing, Open, ReaderStandsAt, ReaderTakes, last_read}
use Rattle.pmb_reader.specs.declared.reader.Reader.{Reader}
use Rattle.pmb_reader.specs.declared.reader.Took.{Took}
use Rattle.pmb_reader.specs.declared.reader.Took.TheVariants as answers
use Rattle.pmb_reader.specs.declared.refusal.Refusal.{Refusal}
use Rattle.pmb_transaction.specs.Packet.{Packet}
use Rattle.pmb_transaction.specs.Reading.{IsUnderWay}
use Rattle.pmb_transaction.specs.Transaction.{TransactionData}
use Rattle.pmb_run.specs.declared.bench.Bench.{Bench}
use Rattle.pmb_run.specs.machine.Bench.{HaveHeard, HaveRead, bench_profile}

-- the event at a place, where there is one
abbrev pub event_at : List Event → ℕ → Event
event_at events i = get_or events i Start

-- The same was heard, whatever became of the bus.
pub heard_beside : (bench : Bench) (bus : Bus) (ts : List TransactionData) (n : ℕ) (before : List Event)
    → HaveHeard bench ts n before
    → HaveHeard (record bench { bus = bus }) ts n before
heard_beside bench bus ts n before heard t [] packet = heard t [] packet
heard_beside bench bus ts n before heard t (event ∷ rest) packet = heard t (event ∷ rest) packet

-- The same was heard with an equal list of events.
pub heard_as : (bench : Bench) (ts : List TransactionData) (n : ℕ) (a b : List Event) → a ≡ b → HaveHeard bench ts n a
    → HaveHeard bench ts n b
heard_as bench ts n a b same heard = subst (λ (events : List Event). HaveHeard bench ts n events) same heard

-- ---- one event more

-- what `take` tells of it
abbrev pub Takes : Reader → Event → Took → Reader → Type 0
Takes old event took new = (profile : List DeviceParts) (standing : Standing) → ReaderStandsAt profile old standing
    → ReaderTakes profile standing event took new

-- one of the other two answers
pub ends_none : (took : Took) → (took ≡ answers.Continues) ⊎ ((refusal : Refusal) × (took ≡ answers.Refused refusal))
    → took ≢ answers.Packet
ends_none took (inl more) packet = cc
ends_none took (inr refused) packet = cc (refused.1)

module _ (bench : Bench) (reader : Reader) (ts : List TransactionData) (n : ℕ) (before : List Event) (event : Event)
    (t : TransactionData) where
  -- It ends no packet: the packet goes on, and some event is left of it.
  other_read : ((profile : List DeviceParts) (now : Reader) (k : ℕ) (events : List Event)
      → ReaderStandsAt profile now (Open k events) → IsUnderWay profile events)
      → (took : Took) (rest : List Event) → took ≢ answers.Packet
      → ReaderTakes (bench_profile bench) (Open n before) event took reader
      → HasSeen bench.context (bench_profile bench) ts → Packet (bench_profile bench) t ((before ++ event ∷ []) ++ rest)
      → HaveRead (record bench { reader = reader }) ts n (before ++ event ∷ []) t rest
  -- the packet continues, and nothing is left of it: so it would have ended here
  other_read under_way answers.Continues [] other takes seen packet =
      let events = before ++ event ∷ [] in
      let whole : Packet (bench_profile bench) t events = subst (λ (es : List Event). Packet (bench_profile bench) t es)
      (append-nil events) packet in
      absurd ((under_way (bench_profile bench) reader n events takes.1).no_packet events [] (sym (append-nil events))
      (t, whole))
  -- the packet continues
  other_read under_way answers.Continues (next ∷ rest) other takes seen packet = (takes.1, seen)
  other_read under_way answers.Packet rest other takes seen packet = absurd (other refl)
  -- a refusal: but a packet has these events
  other_read under_way (answers.Refused refusal) rest other takes seen packet =
      absurd (takes.0.refused (inr (rest, (t, packet))))

  -- It ends a packet: this one, and nothing is left of it.
  packet_read : (context : Context) (told : TransactionData) (rest : List Event)
      → ((profile : List DeviceParts) (a b : TransactionData) (events : List Event) → IsBus profile
      → Packet profile a events → Packet profile b events → a ≡ b)
      → ((profile : List DeviceParts) (a b : TransactionData) (events more : List Event) → Packet profile a events
      → Packet profile b (events ++ more) → more ≡ [])
      → IsBus (bench_profile bench) → ReaderTakes (bench_profile bench) (Open n before) event answers.Packet reader
      → told ≡ last_read reader → HasSeen context (bench_profile bench) (ts ++ told ∷ [])
      → Packet (bench_profile bench) t ((before ++ event ∷ []) ++ rest)
      → HaveRead (record bench { reader = reader; context = context }) ts n (before ++ event ∷ []) t rest
  packet_read context told [] one_transaction longest bus takes told_is seen packet =
      let events = before ++ event ∷ [] in
      let whole : Packet (bench_profile bench) t events = subst (λ (es : List Event). Packet (bench_profile bench) t es)
      (append-nil events) packet in
      let same : told ≡ t = told_is ∙ one_transaction (bench_profile bench) (last_read reader) t events bus takes.0
      whole in
      let count : n + length before + 1 ≡ n + length events = omega (arith, length-append before (event ∷ [])) in (
        subst (λ (k : ℕ). ReaderStandsAt (bench_profile bench) reader (Open k [])) count takes.1,
        subst (λ (u : TransactionData). HasSeen context (bench_profile bench) (ts ++ u ∷ [])) same seen,
      )
  packet_read context told (next ∷ rest) one_transaction longest bus takes told_is seen packet =
      let none : next ∷ rest ≡ [] = longest (bench_profile bench) (last_read reader) t (before ++ event ∷ [])
      (next ∷ rest) takes.0 packet in
      absurd cc

module _ (bench : Bench) (reader : Reader) (event : Event) (ts : List TransactionData) (n : ℕ) (before : List Event)
    (heard : HaveHeard bench ts n before) where
  -- where it stood before, if a packet begins with that event after the others
  begun : (t : TransactionData) (rest : List Event) → Packet (bench_profile bench) t ((before ++ event ∷ []) ++ rest)
      → HaveRead bench ts n before t (event ∷ rest)
  begun t rest packet =
      heard t (event ∷ rest) (subst (λ (es : List Event). Packet (bench_profile bench) t es)
      (append_assoc before (event ∷ []) rest) packet)

  -- an event that ends no packet
  pub heard_other : ((profile : List DeviceParts) (now : Reader) (k : ℕ) (events : List Event)
      → ReaderStandsAt profile now (Open k events) → IsUnderWay profile events)
      → (took : Took) → took ≢ answers.Packet → Takes bench.reader event took reader
      → HaveHeard (record bench { reader = reader }) ts n (before ++ event ∷ [])
  heard_other under_way took other takes t rest packet =
      let so_far = begun t rest packet in
      other_read bench reader ts n before event t under_way took rest other
      (takes (bench_profile bench) (Open n before) so_far.0) so_far.1 packet

  -- an event that ends one
  pub heard_packet : (context : Context) (told : TransactionData)
      → ((profile : List DeviceParts) (a b : TransactionData) (events : List Event) → IsBus profile
      → Packet profile a events → Packet profile b events → a ≡ b)
      → ((profile : List DeviceParts) (a b : TransactionData) (events more : List Event) → Packet profile a events
      → Packet profile b (events ++ more) → more ≡ [])
      → IsBus (bench_profile bench) → (took : Took) → took ≡ answers.Packet → Takes bench.reader event took reader
      → told ≡ last_read reader
      → ((profile : List DeviceParts) (us : List TransactionData) → HasSeen bench.context profile us
      → HasSeen context profile (us ++ told ∷ []))
      → HaveHeard (record bench { reader = reader; context = context }) ts n (before ++ event ∷ [])
  heard_packet context told one_transaction longest bus took is_packet takes told_is observes t rest packet =
      let so_far = begun t rest packet in
      let taken = subst (λ (answer : Took). ReaderTakes (bench_profile bench) (Open n before) event answer reader)
      is_packet (takes (bench_profile bench) (Open n before) so_far.0) in
      packet_read bench reader ts n before event t context told rest one_transaction longest bus taken told_is
      (observes (bench_profile bench) ts so_far.1) packet
