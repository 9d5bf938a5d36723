-- The address byte that may come first in a packet, and the answers to an address byte for writing.
-- For the laws `first_addresses`, `addresses_may_be_refused` and `addresses_taken_are_known`.
-- Events that may follow are one of the stated beginnings: each form of a beginning is tried, and
-- where one fits, it is built.
use Rattle.std.proofs.Common.{◌≡◌, ℕ, ◌<◌, ◌≤◌, ◌⊎◌, inl, inr, false, Some, List, [], ◌∷◌, ◌++◌, length, nat_eq, refl}
use Rattle.std.proofs.Common.{sym, ap, subst, append_assoc, arith}
use Rattle.std.specs.List.{IsDistinct}
use Rattle.pmb_bus.specs.Pec.{pec}
use Rattle.pmb_bus.specs.declared.event.Event.{Event}
use Rattle.pmb_bus.specs.declared.event.Event.TheVariants.{Start, Byte, Ack, Nack, Stop}
use Rattle.pmb_bus.specs.Address.{write_address, read_address, alert_address}
use Rattle.pmb_command.specs.Bus.{IsBus}
use Rattle.pmb_command.specs.Parts.{DeviceParts, IsNew, device_with}
use Rattle.pmb_transaction.specs.Transaction.{PartData}
use Rattle.pmb_transaction.specs.Packet.{PartsEvents, acked, addresses, leg, nacked}
use Rattle.pmb_transaction.specs.Capture.{IsPacket, MayFollow}
use Rattle.pmb_transaction.specs.Viable.{AlertBegins, LegBegins, at_alert, alert_answer, leg_start, leg_address}
use Rattle.pmb_transaction.specs.Viable.{leg_taken, leg_sent, written, alert}
use Rattle.pmb_transaction.specs.Following.{IsFirstAddress, alert_first, written_first}
use Rattle.pmb_transaction.proofs.Addresses.{distinct_none}
use Rattle.pmb_transaction.proofs.Beginnings.{viable_is_beginning}
use Rattle.pmb_transaction.proofs.Completions.{beginning_is_viable, refused_follows}
use Rattle.pmb_transaction.proofs.Ends.{ends_with}
use Rattle.pmb_transaction.proofs.Fronts.{no_end}
use Rattle.pmb_transaction.proofs.LastStarts.{EndsInLeg, InLastLeg, at_read_address, at_reply, by_last_leg, by_open_leg}
use Rattle.pmb_transaction.proofs.LastStarts.{by_stop, ends_alert, ends_at_address, ends_at_byte, ends_at_read}
use Rattle.pmb_transaction.proofs.LastStarts.{ends_reply, ends_write, in_alert, in_reply, in_written, no_alert_written}
use Rattle.pmb_transaction.proofs.LastStarts.{not_written}
use Rattle.pmb_transaction.proofs.NextLegs.{no_answer_yet}
use Rattle.pmb_transaction.proofs.Starts.{none_refused, not_both, same_half}

module _ (pec_is_byte : (bytes : List ℕ) → pec bytes < 256) (profile : List DeviceParts) (bus : IsBus profile) where
  -- ---- the first address byte

  -- a beginning that is START and one byte, by its form
  first_in_leg : (byte : ℕ) (parts : List PartData) → LegBegins profile parts (Start ∷ Byte byte ∷ [])
      → IsFirstAddress byte
  first_in_leg byte parts (leg_start is) = absurd (cc is)
  first_in_leg byte parts (leg_address addr seven new is) = written_first addr seven (cc is)
  first_in_leg byte parts (leg_taken addr device bytes new known begins is) = absurd (cc is)
  first_in_leg byte parts (leg_sent addr device bytes last new known inside small is) = absurd (cc is)

  first_of_alert : (byte : ℕ) → AlertBegins (Start ∷ Byte byte ∷ []) → IsFirstAddress byte
  first_of_alert byte (at_alert is) = alert_first (cc is)
  first_of_alert byte (alert_answer answered with_pec small begins) =
      absurd (no_answer_yet (read_address alert_address) _ byte begins)

  first_is : (byte : ℕ) → InLastLeg profile [] (Byte byte ∷ []) → IsFirstAddress byte
  first_is byte (in_written parts few own each begins) = first_in_leg byte parts begins
  first_is byte (at_reply addr device body known is front none) = absurd (cc none)
  first_is byte (at_read_address addr device body known is front none) = absurd (cc front)
  first_is byte (in_reply addr device body answer known answers front begins) = absurd (cc front)
  first_is byte (in_alert front begins) = first_of_alert byte begins

  first_follows_at : (byte : ℕ) → IsFirstAddress byte → MayFollow profile (Start ∷ []) (Byte byte)
  first_follows_at byte (written_first addr seven same) =
      beginning_is_viable pec_is_byte profile bus (Start ∷ Byte byte ∷ [])
      (
      written
      (record {
        parts = [];
        few = omega arith;
        distinct = distinct_none;
        legs = [];
        each = refl;
        last = Start ∷ Byte byte ∷ [];
        begins = leg_address addr seven refl (ap (λ (b : ℕ). Start ∷ Byte b ∷ []) same);
        spelled = refl;
      })
      )
  first_follows_at byte (alert_first same) =
      beginning_is_viable pec_is_byte profile bus (Start ∷ Byte byte ∷ [])
      (alert (at_alert (ap (λ (b : ℕ). Start ∷ Byte b ∷ []) same)))

  pub first_follows : (byte : ℕ)
      → (MayFollow profile (Start ∷ []) (Byte byte) → IsFirstAddress byte)
      × (IsFirstAddress byte → MayFollow profile (Start ∷ []) (Byte byte))
  first_follows byte = (
    λ follows.
        first_is byte
        (
        by_open_leg profile (Start ∷ []) (Byte byte) [] (Byte byte ∷ []) refl refl refl refl
        (viable_is_beginning pec_is_byte profile bus (Start ∷ Byte byte ∷ []) (λ none. cc none) follows)
        ),
    first_follows_at byte,
  )

  -- ---- after the address byte of a written leg

  module _ (parts : List PartData) (few : length parts ≤ 15) (own : IsDistinct nat_eq (addresses parts))
      (legs : List Event) (each : PartsEvents profile parts legs) (addr : ℕ) (new : IsNew addr (addresses parts)) where
    abbrev addressed : List Event
    addressed = legs ++ Start ∷ Byte (write_address addr) ∷ []

    -- NACK may
    pub nack_follows : addr < 128 → MayFollow profile addressed Nack
    nack_follows seven =
        refused_follows pec_is_byte profile bus parts few own legs each addr [] false new
        (Start ∷ Byte (write_address addr) ∷ Nack ∷ [])
        (record { seven = seven; spelled = refl }) (addressed ++ Nack ∷ [])
        (Start ∷ Byte (write_address addr) ∷ Nack ∷ []) (Stop ∷ [])
        (append_assoc legs (Start ∷ Byte (write_address addr) ∷ []) (Nack ∷ [])) refl

    -- a device has the address
    abbrev IsKnown : Type 0
    IsKnown = (device : DeviceParts) × (device_with addr profile ≡ Some device)

    known_as : (other : ℕ) (device : DeviceParts) → Byte (write_address addr) ≡ Byte (write_address other)
        → device_with other profile ≡ Some device
        → IsKnown
    known_as other device same found =
        (device, subst (λ (a : ℕ). device_with a profile ≡ Some device) (sym (same_half addr other same)) found)

    -- where ACK follows the address byte, a device has the address, by the form of the beginning
    known_in_leg : (done : List PartData) → LegBegins profile done (Start ∷ Byte (write_address addr) ∷ Ack ∷ [])
        → IsKnown
    known_in_leg done (leg_start is) = absurd (cc is)
    known_in_leg done (leg_address other seven free is) = absurd (cc is)
    known_in_leg done (leg_taken other device bytes free found begins is) = known_as other device (cc is) found
    known_in_leg done (leg_sent other device bytes byte free found inside small is) =
        let rest : acked bytes ++ Byte byte ∷ [] ≡ [] = cc (is) in
        absurd (no_end (acked bytes) (Byte byte) [] rest)

    known_in : InLastLeg profile legs (Byte (write_address addr) ∷ Ack ∷ []) → IsKnown
    known_in (in_written done few_done own_done before begins) = known_in_leg done begins
    known_in (at_reply other device body found is front none) = absurd (cc none)
    known_in (at_read_address other device body found is front same) = absurd (not_both addr other (cc same))
    known_in (in_reply other device body answer found answers front begins) =
        absurd (not_written addr other answer (Ack ∷ []) begins)
    known_in (in_alert front begins) = absurd (no_alert_written addr (Ack ∷ []) begins)

    known_at_end : EndsInLeg profile legs (Byte (write_address addr) ∷ Ack ∷ []) → IsKnown
    known_at_end (ends_write done part before here) = known_as part.addr here.device (cc (here.spelled)) here.known
    known_at_end (ends_at_address other is) = absurd (cc is)
    known_at_end (ends_at_byte other byte sent is) =
        let rest : nacked (byte ∷ sent) ≡ acked [] = cc is in
        absurd (none_refused byte sent [] rest)
    known_at_end (ends_at_read other is) = absurd (not_both addr other (cc is))
    known_at_end (ends_reply other device body answer found answers front is) = absurd (not_both addr other (cc is))
    known_at_end (ends_alert answer answers front is) = absurd (not_both addr alert_address (cc is))

    known_by : (events : List Event) → events ≡ legs ++ Start ∷ Byte (write_address addr) ∷ Ack ∷ []
        → (IsPacket profile events → ⊥)
        → (IsPacket profile events ⊎ IsPacket profile (events ++ Stop ∷ []))
        ⊎ InLastLeg profile legs (Byte (write_address addr) ∷ Ack ∷ [])
        → IsKnown
    known_by events spelled more (inl (inl packet)) = absurd (more packet)
    known_by events spelled more (inl (inr packet)) =
        known_at_end (by_stop profile legs (Byte (write_address addr) ∷ Ack ∷ []) events refl spelled packet)
    known_by events spelled more (inr w) = known_in w

    -- and ACK where a device has the address
    pub ack_follows : (MayFollow profile addressed Ack → IsKnown) × (IsKnown → MayFollow profile addressed Ack)
    ack_follows =
        let events = addressed ++ Ack ∷ [] in
        let spelled : events ≡ legs ++ Start ∷ Byte (write_address addr) ∷ Ack ∷ [] =
        append_assoc legs (Start ∷ Byte (write_address addr) ∷ []) (Ack ∷ []) in (
          -- an event that may follow makes a packet or a beginning, and each tells a device
          λ follows.
              known_by events spelled (ends_with profile addressed Ack refl)
              (
              by_last_leg profile legs (Byte (write_address addr) ∷ Ack ∷ []) events refl spelled
              (viable_is_beginning pec_is_byte profile bus events (λ none. no_end addressed Ack [] none) follows)
              ),
          -- a device that is known makes a beginning with no byte of a body
          λ known.
              beginning_is_viable pec_is_byte profile bus events
              (
              written
              (record {
                parts = parts;
                few = few;
                distinct = own;
                legs = legs;
                each = each;
                last = leg (write_address addr ∷ []);
                begins = leg_taken addr known.0 [] new known.1 (inl refl) refl;
                spelled = spelled;
              })
              ),
        )
