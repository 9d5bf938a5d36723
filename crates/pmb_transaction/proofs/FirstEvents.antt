-- A packet begins with START, and nothing else may come first. For the law
-- `packets_begin_with_start`. Each sort of packet begins with a leg, which begins with START; and
-- START alone is the beginning of a written leg.
use Rattle.std.proofs.Common.{◌≡◌, ℕ, ◌<◌, inl, inr, Bool, true, false, List, [], ◌∷◌, ◌++◌, refl, sym, ap, ◌∙◌, subst}
use Rattle.std.proofs.Common.{arith}
use Rattle.pmb_bus.specs.Pec.{pec}
use Rattle.pmb_bus.specs.declared.event.Event.{Event}
use Rattle.pmb_bus.specs.declared.event.Event.TheVariants.{Start, Byte, Ack, Nack, Stop}
use Rattle.pmb_bus.specs.Address.{read_address, write_address, alert_address}
use Rattle.pmb_command.specs.Bus.{IsBus}
use Rattle.pmb_command.specs.Parts.{DeviceParts}
use Rattle.pmb_command.specs.Wire.{wire}
use Rattle.pmb_transaction.specs.Body.{checked}
use Rattle.pmb_transaction.specs.Transaction.{PartData, TransactionData, Write, Read, Call, Refused, Alert, NoAlert}
use Rattle.pmb_transaction.specs.Packet.{Packet, PartsEvents, RefusedLeg, acked, answered, leg, nacked}
use Rattle.pmb_transaction.specs.Capture.{MayFollow}
use Rattle.pmb_transaction.specs.Viable.{leg_start, written}
use Rattle.pmb_transaction.proofs.Addresses.{distinct_none}
use Rattle.pmb_transaction.proofs.Completions.{beginning_is_viable}

-- some events, the first of which is START
pub record BeginsAtStart (events : List Event) : Type 0 where
  pub rest : List Event
  pub split : events ≡ Start ∷ rest

-- events before which such events stand
in_front_of : (events front rest : List Event) → BeginsAtStart front → events ≡ front ++ rest → BeginsAtStart events
in_front_of events front rest first split =
    record { rest = first.rest ++ rest; split = split ∙ ap (λ (es : List Event). es ++ rest) first.split }

start_of_answered : (events : List Event) (addr : ℕ) (body reply : List ℕ) (with_pec : Bool)
    → events ≡ answered addr body reply with_pec
    → BeginsAtStart events
start_of_answered events addr body reply with_pec spelled =
    let written_leg = leg (write_address addr ∷ body) in
    let bytes = checked with_pec (write_address addr ∷ body ++ read_address addr ∷ []) reply in
    let read_leg = leg (read_address addr ∷ []) ++ nacked bytes in
    in_front_of events (written_leg ++ read_leg) (Stop ∷ [])
    (
    in_front_of (written_leg ++ read_leg) written_leg read_leg
    (record { rest = acked (write_address addr ∷ body); split = refl }) refl
    ) spelled

module _ (profile : List DeviceParts) where
  start_of_parts : (part : PartData) (parts : List PartData) (legs : List Event)
      → PartsEvents profile (part ∷ parts) legs → BeginsAtStart legs
  start_of_parts part parts legs each = in_front_of legs each.0 each.1
      (record { rest = acked (write_address part.addr ∷ each.3.body); split = each.3.spelled }) each.2

  start_of_refused : (parts : List PartData) (addr : ℕ) (sent : List ℕ) (at_read : Bool) (last : List Event)
      → RefusedLeg profile parts addr sent at_read last → BeginsAtStart last
  start_of_refused parts addr [] false last refused =
      record { rest = Byte (write_address addr) ∷ Nack ∷ []; split = refused.spelled }
  start_of_refused parts addr (b ∷ bytes) false last refused =
      record { rest = Byte (write_address addr) ∷ Ack ∷ nacked (b ∷ bytes); split = refused.spelled }
  start_of_refused parts addr [] true last refused =
      in_front_of last (leg (write_address addr ∷ [])) (Start ∷ Byte (read_address addr) ∷ Nack ∷ [])
      (record { rest = acked (write_address addr ∷ []); split = refl }) refused.spelled
  start_of_refused parts addr (b ∷ bytes) true last refused =
      in_front_of last (leg (write_address addr ∷ b ∷ bytes)) (Start ∷ Byte (read_address addr) ∷ Nack ∷ [])
      (record { rest = acked (write_address addr ∷ b ∷ bytes); split = refl }) refused.spelled

  start_of_legs : (parts : List PartData) (legs last : List Event) → PartsEvents profile parts legs → BeginsAtStart last
      → BeginsAtStart (legs ++ last)
  start_of_legs [] legs last each first = record {
    rest = first.rest;
    split = ap (λ (es : List Event). es ++ last) each
        ∙ first.split;
  }
  start_of_legs (part ∷ parts) legs last each first = in_front_of (legs ++ last) legs last
      (start_of_parts part parts legs each) refl

  start_of_packet : (t : TransactionData) (events : List Event) → Packet profile t events → BeginsAtStart events
  -- a write begins with its first part
  start_of_packet (Write []) events packet = absurd (omega (arith, packet.some))
  start_of_packet (Write (part ∷ parts)) events packet =
      in_front_of events packet.legs (Stop ∷ []) (start_of_parts part parts packet.legs packet.each) packet.spelled
  -- a read and a call with the leg that is written
  start_of_packet (Read t) events packet = start_of_answered events t.addr (t.code ∷ [])
      (wire packet.form t.reply) t.pec packet.spelled
  start_of_packet (Call t) events packet =
      start_of_answered events t.addr (t.code ∷ wire packet.form t.bytes)
      (wire packet.form t.reply) t.pec packet.spelled
  -- a refused packet with its parts, or with the refused leg
  start_of_packet (Refused t) events packet =
      in_front_of events (packet.legs ++ packet.last) (Stop ∷ [])
      (
      start_of_legs t.parts packet.legs packet.last packet.each
      (start_of_refused t.parts t.addr t.sent t.at_read packet.last packet.refused)
      ) packet.spelled
  -- an answer at the Alert Response Address with its only leg
  start_of_packet (Alert t) events packet =
      let bytes = checked t.pec (read_address alert_address ∷ []) (t.byte ∷ []) in
      in_front_of events (leg (read_address alert_address ∷ []) ++ nacked bytes) (Stop ∷ [])
      (
      in_front_of (leg (read_address alert_address ∷ []) ++ nacked bytes) (leg (read_address alert_address ∷ []))
      (nacked bytes)
      (record { rest = acked (read_address alert_address ∷ []); split = refl }) refl
      ) packet.spelled
  start_of_packet NoAlert events packet = record {
    rest = Byte (read_address alert_address) ∷ Nack ∷ Stop ∷ [];
    split =
        packet;
  }

  pub first_is_start : (event : Event) → MayFollow profile [] event → event ≡ Start
  first_is_start event (inl none) = cc none
  first_is_start event (inr w) =
      let first = start_of_packet w.1.0 (event ∷ w.0) w.1.1 in
      let same : event ∷ w.0 ≡ Start ∷ first.rest = first.split in
      cc same

  module _ (pec_is_byte : (bytes : List ℕ) → pec bytes < 256) (bus : IsBus profile) where
    start_is_first : (event : Event) → event ≡ Start → MayFollow profile [] event
    start_is_first event is =
        subst (MayFollow profile []) (sym is)
        (
        beginning_is_viable pec_is_byte profile bus (Start ∷ [])
        (
        written
        (record {
          parts = [];
          few = omega arith;
          distinct = distinct_none;
          legs = [];
          each = refl;
          last = Start ∷ [];
          begins = leg_start refl;
          spelled = refl;
        })
        )
        )

    pub packets_begin_with_start : (event : Event) → (MayFollow profile [] event → event ≡ Start)
        × (event ≡ Start → MayFollow profile [] event)
    packets_begin_with_start event = (first_is_start event, start_is_first event)
