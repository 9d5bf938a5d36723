-- What a piece of a capture comes to, one event after the other. For `Reader::feed` and its loop.
-- The place after the first i events is led to from the place before the piece (`LedTo`); an event
-- that ends a packet or is refused ends the loop.
use Rattle.std.proofs.Common.{◌≡◌, ℕ, ◌+◌, ◌<◌, ◌⊎◌, inl, inr, List, [], ◌∷◌, ◌++◌, length, take, drop, get_or, Some}
use Rattle.std.proofs.Common.{None, refl, sym, ap, subst, ◌∙◌, arith, append_assoc, length-append}
use Rattle.std.proofs.lemmas.List.{append-nil, length-take-le, take_more, take_all, drop_more, take-append-drop}
use Rattle.pmb_bus.specs.declared.event.Event.{Event}
use Rattle.pmb_bus.specs.declared.event.Event.TheVariants.{Start, Byte, Ack, Nack, Stop}
use Rattle.pmb_command.specs.Parts.{DeviceParts}
use Rattle.pmb_transaction.specs.Transaction.{TransactionData}
use Rattle.pmb_transaction.specs.Packet.{Packet}
use Rattle.pmb_transaction.specs.Capture.{HasNoStop}
use Rattle.pmb_transaction.specs.Reading.{IsUnderWay, RefusalData}
use Rattle.pmb_packet_state.specs.declared.packet_state.PacketState.{PacketState}
use Rattle.pmb_packet_state.specs.PacketState.{StandsIn}
use Rattle.pmb_reader.specs.declared.reader.Reader.{Reader}
use Rattle.pmb_reader.specs.declared.reader.Took.TheVariants as answers
use Rattle.pmb_reader.specs.declared.refusal.Refusal.{Refusal}
use Rattle.pmb_reader.specs.Refusal.{refusal_data}
use Rattle.pmb_reader.specs.Reader.{Standing, Open, Held, Passing, ReaderStandsAt, IsHeldAt, ReaderTakes, behind_passed}
use Rattle.pmb_reader.specs.Reader.{last_read}
use Rattle.pmb_reader.specs.Feed.{IsUnderWayAt, Leads, ReaderNeedsMore, EndsPacket, ReaderRefuses, AnswersAgain}
use Rattle.pmb_reader.proofs.Stopless.{no_stop_in_none, no_stop_in_more}

-- ---- one event more

-- a place that a piece led to, and that a reader stands at
pub record LedTo (profile : List DeviceParts) (standing : Standing) (piece : List Event) (now : Reader) : Type 0 where
  -- where the piece leads, and that the reader stands there
  pub behind : Standing
  pub leads : Leads standing piece behind
  pub stands : ReaderStandsAt profile now behind

module _ (profile : List DeviceParts) where
  -- no event
  pub led_nowhere : (now : Reader) (standing : Standing) → ReaderStandsAt profile now standing
      → LedTo profile standing [] now
  led_nowhere now (Open n events) stands =
      record {
        behind = Open n events;
        leads = ap (λ (es : List Event). Open n es) (sym (append-nil events));
        stands =
            stands;
      }
  led_nowhere now (Held n refusal) stands = record { behind = Held n refusal; leads = (refl, refl); stands = stands }
  led_nowhere now (Passing n) stands =
      let same : n ≡ n + 0 = omega arith in
      record { behind = Passing n; leads = inl (no_stop_in_none, ap (λ (m : ℕ). Passing m) same); stands = stands }

  passed_one : (n : ℕ) (piece : List Event) (event : Event) (after : Reader) → HasNoStop (piece ++ event ∷ [])
      → ReaderStandsAt profile after (Passing (n + length piece + 1))
      → LedTo profile (Passing n) (piece ++ event ∷ []) after
  passed_one n piece event after none stands =
      let count : n + length piece + 1 ≡ n + length (piece ++ event ∷ []) =
      omega (arith, length-append piece (event ∷ [])) in record {
        behind = Passing (n + length piece + 1);
        leads = inl (none, ap (λ (m : ℕ). Passing m) count);
        stands = stands;
      }

  passed_on : (n : ℕ) (piece : List Event) (event : Event) (after : Reader) → HasNoStop piece
      → ReaderStandsAt profile after (behind_passed (n + length piece) event)
      → LedTo profile (Passing n) (piece ++ event ∷ []) after
  passed_on n piece Stop after none stands =
      let count : n + length piece + 1 ≡ n + length (piece ++ Stop ∷ []) =
      omega (arith, length-append piece (Stop ∷ [])) in record {
        behind = Open (n + length piece + 1) [];
        leads = inr (
          piece ++ Stop ∷ [],
          [],
          sym (append-nil (piece ++ Stop ∷ [])),
          record { front = piece; no_stop = none; split = refl },
          ap (λ (m : ℕ). Open m []) count,
        );
        stands = stands;
      }
  passed_on n piece Start after none stands =
      passed_one n piece Start after (no_stop_in_more piece Start none (λ e. cc e)) stands
  passed_on n piece (Byte b) after none stands =
      passed_one n piece (Byte b) after (no_stop_in_more piece (Byte b) none (λ e. cc e)) stands
  passed_on n piece Ack after none stands = passed_one n piece Ack after (no_stop_in_more piece Ack none (λ e. cc e))
      stands
  passed_on n piece Nack after none stands = passed_one n piece Nack after (no_stop_in_more piece Nack none (λ e. cc e))
      stands

  led_on : (standing behind : Standing) (piece : List Event) (event : Event) (after : Reader)
      → Leads standing piece behind
      → ReaderTakes profile behind event answers.Continues after → LedTo profile standing (piece ++ event ∷ []) after
  -- in a packet: the event goes to those under way
  led_on (Open n events) behind piece event after leads takes =
      let took : ReaderTakes profile (Open n (events ++ piece)) event answers.Continues after =
      subst (λ (s : Standing). ReaderTakes profile s event answers.Continues after) leads takes in record {
        behind = Open n ((events ++ piece) ++ event ∷ []);
        leads = ap (λ (es : List Event). Open n es) (append_assoc events piece (event ∷ []));
        stands = took.1;
      }
  -- while a refusal is held no event is taken
  led_on (Held n refusal) behind piece event after leads takes =
      absurd (subst (λ (s : Standing). ReaderTakes profile s event answers.Continues after) leads.1 takes)
  -- while events are passed over, before STOP and after it
  led_on (Passing n) behind piece event after (inl leads) takes =
      passed_on n piece event after leads.0
      (subst (λ (s : Standing). ReaderTakes profile s event answers.Continues after) leads.1 takes)
  led_on (Passing n) behind piece event after (inr leads) takes =
      let took : ReaderTakes profile (Open (n + length leads.0) leads.1) event answers.Continues after =
      subst (λ (s : Standing). ReaderTakes profile s event answers.Continues after) leads.4 takes in record {
        behind = Open (n + length leads.0) (leads.1 ++ event ∷ []);
        leads = inr (
          leads.0,
          leads.1 ++ event ∷ [],
          ap (λ (es : List Event). es ++ event ∷ []) leads.2 ∙ append_assoc leads.0 leads.1 (event ∷ []),
          leads.3,
          refl,
        );
        stands = took.1;
      }

-- ---- a loop over a piece

-- what a reader that was given the first i events of a piece has come to
pub record FedTo (before : Reader) (piece : List Event) (i : ℕ) (now : Reader) : Type 0 where
  -- from each place of the reader the first i events lead to where it is now
  pub led : (profile : List DeviceParts) (standing : Standing) → ReaderStandsAt profile before standing
      → LedTo profile standing (take i piece) now
  pub not_held : (profile : List DeviceParts) (standing : Standing) → ReaderStandsAt profile before standing
      → IsHeldAt standing None

length_take_within : (i : ℕ) (piece : List Event) → i < length piece → length (take i piece) ≡ i
length_take_within i piece within = length-take-le i piece (omega arith)

-- some packet begins with the events of the one under way
abbrev UnderWayHolds : Type 0
UnderWayHolds = (profile : List DeviceParts) (u : PacketState) (events : List Event) → StandsIn profile u events
    → IsUnderWay profile events

module _ (before now : Reader) (piece : List Event) (i : ℕ) (d : Event) (fed : FedTo before piece i now)
    (within : i < length piece) where
  whole : piece ≡ take i piece ++ get_or piece i d ∷ drop (i + 1) piece
  whole =
      sym (take-append-drop i piece)
      ∙ ap (λ (rest : List Event). take i piece ++ rest) (drop_more piece i d within)

  pub fed_more : (after : Reader)
      → ((profile : List DeviceParts) (standing : Standing) → ReaderStandsAt profile now standing
      → ReaderTakes profile standing (get_or piece i d) answers.Continues after)
      → FedTo before piece (i + 1) after
  fed_more after takes = record {
    led = λ profile standing stands.
        let here = fed.led profile standing stands in
        subst (λ (front : List Event). LedTo profile standing front after) (sym (take_more piece i d within))
        (led_on profile standing here.behind (take i piece) (get_or piece i d) after here.leads
        (takes profile here.behind here.stands));
    not_held = fed.not_held;
  }

  open_packet : UnderWayHolds → (profile : List DeviceParts) (standing behind : Standing) (ended after : Reader)
      (t : TransactionData)
      → Leads standing (take i piece) behind → ReaderStandsAt profile now behind
      → ReaderTakes profile behind (get_or piece i d) answers.Packet ended
      → last_read ended ≡ t
      → ((n : ℕ) → ReaderStandsAt profile ended (Open n []) → ReaderStandsAt profile after (Open n []))
      → EndsPacket profile standing piece (i + 1) after t
  open_packet holds profile standing (Open n events) ended after t leads here takes is stands = record {
    front = take i piece;
    event = get_or piece i d;
    rest = drop (i + 1) piece;
    split = whole;
    up_to = ap (λ (m : ℕ). m + 1) (sym (length_take_within i piece within));
    n = n;
    events = events;
    leads = leads;
    under_way = holds profile now.under_way events here.inside;
    packet = subst (λ (u : TransactionData). Packet profile u (events ++ get_or piece i d ∷ [])) is takes.0;
    stands = stands (n + length events + 1) takes.1;
  }
  open_packet holds profile standing (Held n refusal) ended after t leads here takes is stands = absurd takes
  open_packet holds profile standing (Passing n) ended after t leads here takes is stands = absurd takes

  pub fed_packet : UnderWayHolds → (ended after : Reader) (t : TransactionData)
      → ((profile : List DeviceParts) (standing : Standing) → ReaderStandsAt profile now standing
      → ReaderTakes profile standing (get_or piece i d) answers.Packet ended)
      → last_read ended ≡ t
      → ((profile : List DeviceParts) (n : ℕ) → ReaderStandsAt profile ended (Open n [])
      → ReaderStandsAt profile after (Open n []))
      → (profile : List DeviceParts) (standing : Standing) → ReaderStandsAt profile before standing
      → EndsPacket profile standing piece (i + 1) after t
  fed_packet holds ended after t takes is stands profile standing at =
      let here = fed.led profile standing at in
      open_packet holds profile standing here.behind ended after t here.leads here.stands
      (takes profile here.behind here.stands) is (stands profile)

  open_refused : (profile : List DeviceParts) (standing behind : Standing) (after : Reader) (refusal : Refusal)
      → IsHeldAt standing None → Leads standing (take i piece) behind → ReaderStandsAt profile now behind
      → ReaderTakes profile behind (get_or piece i d) (answers.Refused refusal) after
      → ReaderRefuses profile standing piece i after (refusal_data refusal)
  open_refused profile standing (Open n events) after refusal none leads here takes = record {
    front = take i piece;
    event = get_or piece i d;
    rest = drop (i + 1) piece;
    split = whole;
    up_to = sym (length_take_within i piece within);
    n = n;
    events = events;
    leads = leads;
    refused = takes.0;
    stands = takes.1;
  }
  open_refused profile (Open n events) (Held m held) after refusal none leads here takes = absurd (cc leads)
  open_refused profile (Held n first) (Held m held) after refusal none leads here takes = absurd none
  open_refused profile (Passing n) (Held m held) after refusal none (inl leads) here takes = absurd (cc (leads.1))
  open_refused profile (Passing n) (Held m held) after refusal none (inr leads) here takes = absurd (cc (leads.4))
  open_refused profile standing (Passing m) after refusal none leads here takes = absurd takes

  pub fed_refused : (after : Reader) (refusal : Refusal)
      → ((profile : List DeviceParts) (standing : Standing) → ReaderStandsAt profile now standing
      → ReaderTakes profile standing (get_or piece i d) (answers.Refused refusal) after)
      → (profile : List DeviceParts) (standing : Standing) → ReaderStandsAt profile before standing
      → ReaderRefuses profile standing piece i after (refusal_data refusal) ⊎ AnswersAgain profile standing i after
      (refusal_data refusal)
  fed_refused after refusal takes profile standing at =
      let here = fed.led profile standing at in
      inl
      (
      open_refused profile standing here.behind after refusal (fed.not_held profile standing at) here.leads here.stands
      (takes profile here.behind here.stands)
      )

-- the whole piece
not_held : (standing : Standing) → IsHeldAt standing None → (n : ℕ) (refusal : RefusalData) → standing ≡ Held n refusal
    → ⊥
not_held standing none n refusal is = subst (λ (s : Standing). IsHeldAt s None) is none

-- what some packet begins with, where a reader reads one
under_way_at : (profile : List DeviceParts) (reader : Reader) (standing : Standing)
    → ReaderStandsAt profile reader standing → IsUnderWayAt profile standing
under_way_at profile reader (Open n events) stands = stands.inside.goes
under_way_at profile reader (Held n refusal) stands = tt
under_way_at profile reader (Passing n) stands = tt

pub fed_all : (before now : Reader) (piece : List Event) (i : ℕ) → FedTo before piece i now → i ≡ length piece
    → (profile : List DeviceParts) (standing : Standing) → ReaderStandsAt profile before standing
    → ReaderNeedsMore profile standing piece (length piece) now
fed_all before now piece i fed last profile standing at =
    let whole : take i piece ≡ piece = take_all i piece (omega arith) in
    let here = fed.led profile standing at in record {
      not_held = not_held standing (fed.not_held profile standing at);
      all = refl;
      behind = here.behind;
      leads = subst (λ (front : List Event). Leads standing front here.behind) whole here.leads;
      under_way = under_way_at profile now here.behind here.stands;
      stands = here.stands;
    }

-- before the first event
pub fed_none : (before : Reader) (piece : List Event)
    → ((profile : List DeviceParts) (standing : Standing) → ReaderStandsAt profile before standing
    → IsHeldAt standing None)
    → FedTo before piece 0 before
fed_none before piece none = record {
  led = λ profile standing stands. led_nowhere profile before standing stands;
  not_held = none;
}

-- a refusal that is held
pub held_again : (profile : List DeviceParts) (reader : Reader) (refusal : Refusal) (standing : Standing)
    → IsHeldAt standing (Some refusal) → ReaderStandsAt profile reader standing
    → AnswersAgain profile standing 0 reader (refusal_data refusal)
held_again profile reader refusal (Open n events) held stands = absurd held
held_again profile reader refusal (Held n first) held stands =
    record { n = n; held = ap (λ (r : RefusalData). Held n r) (sym held); none = refl; stands = stands }
held_again profile reader refusal (Passing n) held stands = absurd held
