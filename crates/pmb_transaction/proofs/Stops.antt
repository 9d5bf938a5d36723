-- A packet has one STOP, its last event; it is not empty, and begins no other packet. For the laws
-- `packet_ends_with_stop`, `packet_is_not_empty` and `no_packet_begins_another`. The parts of a
-- packet before its STOP hold none, by a test that is computed (`has_no_stop`), and events are cut
-- at their first STOP in one way.
use Rattle.std.proofs.Common.{◌≡◌, ℕ, Bool, true, false, ◌&&◌, List, [], ◌∷◌, ◌++◌, refl, sym, ap, ◌∙◌, append_assoc}
use Rattle.std.specs.List.{list_all}
use Rattle.std.proofs.lemmas.List.Folds.{list_all-append}
use Rattle.std.proofs.lemmas.Bool.{and_parts}
use Rattle.pmb_bus.specs.declared.event.Event.{Event}
use Rattle.pmb_bus.specs.declared.event.Event.TheVariants.{Start, Byte, Ack, Nack, Stop}
use Rattle.pmb_bus.specs.Address.{write_address, read_address, alert_address}
use Rattle.pmb_command.specs.Parts.{DeviceParts}
use Rattle.pmb_command.specs.Wire.{wire}
use Rattle.pmb_transaction.specs.Body.{checked}
use Rattle.pmb_transaction.specs.Transaction.{PartData, TransactionData, Write, Read, Call, Refused, Alert, NoAlert}
use Rattle.pmb_transaction.specs.Packet.{Packet, PartsEvents, RefusedLeg, acked, answered, leg, nacked}
use Rattle.pmb_transaction.specs.Capture.{EndsAtFirstStop, HasNoStop}

-- an event other than STOP
abbrev pub is_other : Event → Bool
is_other Start = true
is_other (Byte b) = true
is_other Ack = true
is_other Nack = true
is_other Stop = false

-- whether no event is STOP
abbrev pub has_no_stop : List Event → Bool
has_no_stop events = list_all is_other events

pub no_stop-append : (a b : List Event) → has_no_stop a ≡ true → has_no_stop b ≡ true → has_no_stop (a ++ b) ≡ true
no_stop-append a b first second =
    list_all-append is_other a b ∙ ap (λ (c : Bool). c && has_no_stop b) first ∙ second

-- where no event is STOP, there is no STOP among the events
pub HasNoStop-from : (events : List Event) → has_no_stop events ≡ true → HasNoStop events
HasNoStop-from [] none [] after same = cc same
HasNoStop-from [] none (x ∷ before) after same = cc same
HasNoStop-from (e ∷ events) none [] after same =
    let stop : e ≡ Stop = cc same in
    cc (sym (and_parts (is_other e) (has_no_stop events) none).0 ∙ ap is_other stop)
HasNoStop-from (e ∷ events) none (x ∷ before) after same =
    HasNoStop-from events (and_parts (is_other e) (has_no_stop events) none).1 before after (cc same)

-- Events with a STOP and something before it and after it can be cut at the first STOP in one
-- way.
pub same_cut : (a b x y : List Event) → HasNoStop a → HasNoStop b → a ++ Stop ∷ x ≡ b ++ Stop ∷ y → (a ≡ b) × (x ≡ y)
same_cut [] [] x y none_a none_b same = (refl, cc same)
same_cut [] (e ∷ b) x y none_a none_b same = absurd (none_b [] b (ap (λ (first : Event). first ∷ b) (cc same)))
same_cut (e ∷ a) [] x y none_a none_b same = absurd (none_a [] a (ap (λ (first : Event). first ∷ a) (cc same)))
same_cut (d ∷ a) (e ∷ b) x y none_a none_b same =
    let rest =
    same_cut a b x y (λ before after split. none_a (d ∷ before) after (ap (λ (events : List Event). d ∷ events) split))
    (λ before after split. none_b (e ∷ before) after (ap (λ (events : List Event). e ∷ events) split)) (cc same) in
    let first : d ≡ e = cc same in
    let tails : a ≡ b = rest.0 in
    (cc (first, tails), rest.1)

-- ---- the parts of packets

pub no_stop-acked : (bytes : List ℕ) → has_no_stop (acked bytes) ≡ true
no_stop-acked [] = refl
no_stop-acked (b ∷ bytes) = no_stop-acked bytes

pub no_stop-nacked : (bytes : List ℕ) → has_no_stop (nacked bytes) ≡ true
no_stop-nacked [] = refl
no_stop-nacked (b ∷ []) = refl
no_stop-nacked (b ∷ c ∷ bytes) = no_stop-nacked (c ∷ bytes)

-- what ends with STOP is not empty
not_empty : (front : List Event) → [] ≡ front ++ Stop ∷ [] → ⊥
not_empty [] same = cc same
not_empty (e ∷ front) same = cc same

-- where a STOP ends what has none
ends : (events front : List Event) → has_no_stop front ≡ true → events ≡ front ++ Stop ∷ [] → EndsAtFirstStop events
ends events front none split = record { front = front; no_stop = HasNoStop-from front none; split = split }

-- the packet of a read or a call
ends-answered : (events : List Event) (addr : ℕ) (body reply : List ℕ) (with_pec : Bool)
    → events ≡ answered addr body reply with_pec → EndsAtFirstStop events
ends-answered events addr body reply with_pec spelled =
    let written = leg (write_address addr ∷ body) in
    let bytes = checked with_pec (write_address addr ∷ body ++ read_address addr ∷ []) reply in
    let read = leg (read_address addr ∷ []) ++ nacked bytes in
    ends events (written ++ read)
    (no_stop-append written read (no_stop-acked body) (no_stop-nacked bytes))
    spelled

module _ (profile : List DeviceParts) where
  no_stop-parts : (parts : List PartData) (events : List Event) → PartsEvents profile parts events
      → has_no_stop events ≡ true
  no_stop-parts [] events each = ap has_no_stop each
  no_stop-parts (part ∷ parts) events each =
      let body = each.3.body in
      let first : has_no_stop each.0 ≡ true = ap has_no_stop each.3.spelled ∙ no_stop-acked body in
      ap has_no_stop each.2 ∙ no_stop-append each.0 each.1 first (no_stop-parts parts each.1 each.4)

  no_stop-refused : (parts : List PartData) (addr : ℕ) (sent : List ℕ) (at_read : Bool) (last : List Event)
      → RefusedLeg profile parts addr sent at_read last → has_no_stop last ≡ true
  no_stop-refused parts addr [] false last refused = ap has_no_stop refused.spelled
  no_stop-refused parts addr (b ∷ bytes) false last refused = ap has_no_stop refused.spelled
      ∙ no_stop-nacked (b ∷ bytes)
  no_stop-refused parts addr [] true last refused = ap has_no_stop refused.spelled
  no_stop-refused parts addr (b ∷ bytes) true last refused =
      ap has_no_stop refused.spelled
      ∙ no_stop-append (leg (write_address addr ∷ b ∷ bytes)) (Start ∷ Byte (read_address addr) ∷ Nack ∷ [])
      (no_stop-acked bytes) refl

  pub packet_ends_with_stop : (t : TransactionData) (events : List Event) → Packet profile t events
      → EndsAtFirstStop events
  packet_ends_with_stop (Write parts) events packet =
      ends events packet.legs (no_stop-parts parts packet.legs packet.each) packet.spelled
  packet_ends_with_stop (Read t) events packet =
      ends-answered events t.addr (t.code ∷ []) (wire packet.form t.reply) t.pec packet.spelled
  packet_ends_with_stop (Call t) events packet =
      ends-answered events t.addr (t.code ∷ wire packet.form t.bytes) (wire packet.form t.reply) t.pec packet.spelled
  packet_ends_with_stop (Refused t) events packet =
      ends events (packet.legs ++ packet.last)
      (
      no_stop-append packet.legs packet.last (no_stop-parts t.parts packet.legs packet.each)
      (no_stop-refused t.parts t.addr t.sent t.at_read packet.last packet.refused)
      ) packet.spelled
  packet_ends_with_stop (Alert t) events packet =
      let bytes = checked t.pec (read_address alert_address ∷ []) (t.byte ∷ []) in
      let address = leg (read_address alert_address ∷ []) in
      ends events (address ++ nacked bytes) (no_stop-nacked bytes) packet.spelled
  packet_ends_with_stop NoAlert events packet = ends events (Start ∷ Byte (read_address alert_address) ∷ Nack ∷ []) refl
      packet

  pub packet_is_not_empty : (t : TransactionData) (events : List Event) → Packet profile t events → events ≡ [] → ⊥
  packet_is_not_empty t events packet none =
      let at_stop = packet_ends_with_stop t events packet in
      not_empty at_stop.front (sym none ∙ at_stop.split)

  -- a packet begins no other one
  pub no_packet_begins_another : (t u : TransactionData) (events more : List Event) → Packet profile t events
      → Packet profile u (events ++ more) → more ≡ []
  no_packet_begins_another t u events more packet longer =
      let first = packet_ends_with_stop t events packet in
      let second = packet_ends_with_stop u (events ++ more) longer in
      let cut : first.front ++ Stop ∷ more ≡ second.front ++ Stop ∷ [] =
      sym (append_assoc first.front (Stop ∷ []) more) ∙ ap (λ (front : List Event). front ++ more) (sym first.split)
      ∙ second.split in
      (same_cut first.front second.front more [] first.no_stop second.no_stop cut).1
