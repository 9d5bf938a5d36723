-- Events take turns in a packet (`follows_in_turn`), and nothing follows a packet. For the laws
-- `events_take_turns` and `packets_go_no_further`. Whether they take turns is computed over a list
-- of events, and is shown of each sort of packet; so it holds of any two that stand side by side.
use Rattle.std.proofs.Common.{◌≡◌, ℕ, inl, inr, Bool, true, false, ◌&&◌, List, [], ◌∷◌, ◌++◌, refl, sym, ap, ◌∙◌, subst}
use Rattle.std.proofs.Common.{append_assoc}
use Rattle.std.proofs.lemmas.Bool.{and_parts}
use Rattle.pmb_bus.specs.declared.event.Event.{Event}
use Rattle.pmb_bus.specs.declared.event.Event.TheVariants.{Start, Byte, Ack, Nack, Stop}
use Rattle.pmb_bus.specs.Address.{write_address, read_address, alert_address}
use Rattle.pmb_command.specs.Parts.{DeviceParts}
use Rattle.pmb_command.specs.Wire.{wire}
use Rattle.pmb_transaction.specs.Transaction.{PartData, TransactionData, Write, Read, Call, Refused, Alert, NoAlert}
use Rattle.pmb_transaction.specs.Body.{checked}
use Rattle.pmb_transaction.specs.Packet.{Packet, PartsEvents, RefusedLeg, acked, answered, leg, nacked}
use Rattle.pmb_transaction.specs.Capture.{IsPacket, MayFollow}
use Rattle.pmb_transaction.specs.Turns.{follows_in_turn}
use Rattle.pmb_transaction.proofs.Fronts.{no_end}
use Rattle.pmb_transaction.proofs.Stops.{no_packet_begins_another}

-- whether events take turns after one
abbrev pub take_turns : Event → List Event → Bool
take_turns before [] = true
take_turns before (event ∷ events) = follows_in_turn before event && take_turns event events

-- two of them that stand side by side
side_by_side : (before : Event) (front : List Event) (d e : Event) (rest : List Event)
    → take_turns before (front ++ d ∷ e ∷ rest) ≡ true
    → follows_in_turn d e ≡ true
side_by_side before [] d e rest turns =
    let later = (and_parts (follows_in_turn before d) (take_turns d (e ∷ rest)) turns).1 in
    (and_parts (follows_in_turn d e) (take_turns e rest) later).0
side_by_side before (f ∷ front) d e rest turns =
    side_by_side f front d e rest (and_parts (follows_in_turn before f) (take_turns f (front ++ d ∷ e ∷ rest)) turns).1

-- the first of them
first_stands : (before event : Event) (events : List Event) → take_turns before (event ∷ events) ≡ true
    → follows_in_turn before event ≡ true
first_stands before event events turns = (and_parts (follows_in_turn before event) (take_turns event events) turns).0

-- ---- the parts of packets, each after an ACK or at the front

turns-acked : (bytes : List ℕ) (tail : List Event) → take_turns Ack tail ≡ true → take_turns Ack (acked bytes ++ tail)
    ≡ true
turns-acked [] tail turns = turns
turns-acked (b ∷ bytes) tail turns = turns-acked bytes tail turns

turns-nacked : (bytes : List ℕ) → take_turns Ack (nacked bytes ++ Stop ∷ []) ≡ true
turns-nacked [] = refl
turns-nacked (b ∷ []) = refl
turns-nacked (b ∷ c ∷ bytes) = turns-nacked (c ∷ bytes)

turns-answered : (events : List Event) (addr : ℕ) (body reply : List ℕ) (with_pec : Bool)
    → events ≡ answered addr body reply with_pec
    → take_turns Ack events ≡ true
turns-answered events addr body reply with_pec spelled =
    let written = leg (write_address addr ∷ body) in
    let bytes = checked with_pec (write_address addr ∷ body ++ read_address addr ∷ []) reply in
    let read = leg (read_address addr ∷ []) ++ nacked bytes in
    let tail : take_turns Ack (read ++ Stop ∷ []) ≡ true = turns-nacked bytes in
    ap (take_turns Ack) (spelled ∙ append_assoc written read (Stop ∷ [])) ∙ turns-acked body (read ++ Stop ∷ []) tail

module _ (profile : List DeviceParts) where
  turns-parts : (parts : List PartData) (legs tail : List Event) → PartsEvents profile parts legs
      → take_turns Ack tail ≡ true
      → take_turns Ack (legs ++ tail) ≡ true
  turns-parts [] legs tail each turns = ap (λ (es : List Event). take_turns Ack (es ++ tail)) each ∙ turns
  turns-parts (part ∷ parts) legs tail each turns =
      let later = turns-parts parts each.1 tail each.4 turns in
      let same : legs ++ tail ≡ leg (write_address part.addr ∷ each.3.body) ++ (each.1 ++ tail) =
      ap (λ (es : List Event). es ++ tail) each.2
      ∙ append_assoc each.0 each.1 tail
      ∙ ap (λ (es : List Event). es ++ (each.1 ++ tail)) each.3.spelled in
      ap (take_turns Ack) same ∙ turns-acked each.3.body (each.1 ++ tail) later

  turns-at_read : (addr : ℕ) (sent : List ℕ) (last : List Event)
      → last ≡ leg (write_address addr ∷ sent) ++ Start ∷ Byte (read_address addr) ∷ Nack ∷ []
      → take_turns Ack (last ++ Stop ∷ []) ≡ true
  turns-at_read addr sent last spelled =
      let written = leg (write_address addr ∷ sent) in
      let read = Start ∷ Byte (read_address addr) ∷ Nack ∷ [] in
      ap (λ (es : List Event). take_turns Ack (es ++ Stop ∷ [])) spelled
      ∙ ap (take_turns Ack) (append_assoc written read (Stop ∷ []))
      ∙ turns-acked sent (read ++ Stop ∷ []) refl

  turns-refused : (parts : List PartData) (addr : ℕ) (sent : List ℕ) (at_read : Bool) (last : List Event)
      → RefusedLeg profile parts addr sent at_read last → take_turns Ack (last ++ Stop ∷ []) ≡ true
  turns-refused parts addr [] false last refused =
      ap (λ (es : List Event). take_turns Ack (es ++ Stop ∷ [])) refused.spelled
  turns-refused parts addr (b ∷ bytes) false last refused =
      ap (λ (es : List Event). take_turns Ack (es ++ Stop ∷ [])) refused.spelled ∙ turns-nacked (b ∷ bytes)
  turns-refused parts addr [] true last refused = turns-at_read addr [] last refused.spelled
  turns-refused parts addr (b ∷ bytes) true last refused = turns-at_read addr (b ∷ bytes) last refused.spelled

  -- the events of a packet
  turns-packet : (t : TransactionData) (events : List Event) → Packet profile t events → take_turns Ack events ≡ true
  turns-packet (Write parts) events packet =
      ap (take_turns Ack) packet.spelled ∙ turns-parts parts packet.legs (Stop ∷ []) packet.each refl
  turns-packet (Read t) events packet = turns-answered events t.addr (t.code ∷ [])
      (wire packet.form t.reply) t.pec packet.spelled
  turns-packet (Call t) events packet =
      turns-answered events t.addr (t.code ∷ wire packet.form t.bytes) (wire packet.form t.reply) t.pec packet.spelled
  turns-packet (Refused t) events packet =
      ap (take_turns Ack) (packet.spelled ∙ append_assoc packet.legs packet.last (Stop ∷ []))
      ∙ turns-parts t.parts packet.legs (packet.last ++ Stop ∷ []) packet.each
      (turns-refused t.parts t.addr t.sent t.at_read packet.last packet.refused)
  turns-packet (Alert t) events packet =
      ap (take_turns Ack) packet.spelled ∙ turns-nacked (checked t.pec (read_address alert_address ∷ []) (t.byte ∷ []))
  turns-packet NoAlert events packet = ap (take_turns Ack) packet

  -- ---- what may follow

  -- an event that follows another one takes its turn
  pub events_take_turns : (events : List Event) (before event : Event) → MayFollow profile (events ++ before ∷ []) event
      → follows_in_turn before event ≡ true
  events_take_turns events before event (inl none) = absurd (no_end (events ++ before ∷ []) event [] none)
  events_take_turns events before event (inr w) =
      let same : ((events ++ before ∷ []) ++ event ∷ []) ++ w.0 ≡ events ++ before ∷ event ∷ w.0 =
      append_assoc (events ++ before ∷ []) (event ∷ []) w.0 ∙ append_assoc events (before ∷ []) (event ∷ w.0) in
      side_by_side Ack events before event w.0
      (ap (take_turns Ack) (sym same) ∙ turns-packet w.1.0 (((events ++ before ∷ []) ++ event ∷ []) ++ w.0) w.1.1)

  -- nothing follows a packet
  pub packets_go_no_further : (events : List Event) (event : Event) → IsPacket profile events
      → MayFollow profile events event → ⊥
  packets_go_no_further events event packet (inl none) = no_end events event [] none
  packets_go_no_further events event packet (inr w) =
      let same : (events ++ event ∷ []) ++ w.0 ≡ events ++ event ∷ w.0 = append_assoc events (event ∷ []) w.0 in
      let none : event ∷ w.0 ≡ [] =
      no_packet_begins_another profile packet.0 w.1.0 events (event ∷ w.0) packet.1
      (subst (Packet profile w.1.0) same w.1.1) in
      cc none
