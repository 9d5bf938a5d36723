-- A written leg of a device after some parts: a byte follows inside a body, any device may refuse
-- it (NACK), and ACK follows where a body begins with it. For the laws
-- `bytes_follow_inside_a_body`, `bytes_may_be_refused` and `bytes_taken_begin_a_body`. The leg's
-- START is the last one, so a beginning that ends here has this device and these parts
-- (LastStarts).
use Rattle.std.proofs.Common.{◌≡◌, ℕ, ◌<◌, ◌≤◌, ◌⊎◌, inl, inr, Some, List, [], ◌∷◌, ◌++◌, length, nat_eq, refl, sym, ap}
use Rattle.std.proofs.Common.{◌∙◌, subst, append_assoc}
use Rattle.std.specs.List.{IsDistinct}
use Rattle.std.proofs.lemmas.List.{append-nil, same_from_push}
use Rattle.pmb_bus.specs.Pec.{pec}
use Rattle.pmb_bus.specs.declared.event.Event.{Event}
use Rattle.pmb_bus.specs.declared.event.Event.TheVariants.{Start, Byte, Ack, Nack, Stop}
use Rattle.pmb_bus.specs.Address.{write_address}
use Rattle.pmb_command.specs.Bus.{IsBus}
use Rattle.pmb_command.specs.Parts.{DeviceParts, IsNew, device_with}
use Rattle.pmb_command.specs.Wire.{IsByte}
use Rattle.pmb_transaction.specs.Transaction.{PartData}
use Rattle.pmb_transaction.specs.Packet.{PartsEvents, acked, addresses, leg}
use Rattle.pmb_transaction.specs.Capture.{IsPacket, MayFollow, Viable}
use Rattle.pmb_transaction.specs.Viable.{BeginsBody, IsInsideBody, LegBegins, leg_start, leg_address, leg_taken}
use Rattle.pmb_transaction.specs.Viable.{leg_sent, written}
use Rattle.pmb_transaction.proofs.Beginnings.{viable_is_beginning, write_is_allowed}
use Rattle.pmb_transaction.proofs.Completions.{beginning_is_viable, inside_follows}
use Rattle.pmb_transaction.proofs.Ends.{ends_with}
use Rattle.pmb_transaction.proofs.Fronts.{no_end}
use Rattle.pmb_transaction.proofs.LastStarts.{InLastLeg, at_read_address, at_reply, by_last_leg, by_open_leg, by_stop}
use Rattle.pmb_transaction.proofs.LastStarts.{in_alert, in_reply, in_written, no_alert_written, not_written}
use Rattle.pmb_transaction.proofs.LastStarts.{one_list_of_parts}
use Rattle.pmb_transaction.proofs.NextLegs.{ends_whole}
use Rattle.pmb_transaction.proofs.OnePacket.{same_found}
use Rattle.pmb_transaction.proofs.Readings.{front_is_viable}
use Rattle.pmb_transaction.proofs.Starts.{acked_push, all_answered, ends_taken, no_start-acked, no_start-sent, not_both}
use Rattle.pmb_transaction.proofs.Starts.{one_row_of_bytes, same_half}

module _ (pec_is_byte : (bytes : List ℕ) → pec bytes < 256) (profile : List DeviceParts) (bus : IsBus profile) where
  module _ (parts : List PartData) (few : length parts ≤ 15) (own : IsDistinct nat_eq (addresses parts))
      (legs : List Event) (each : PartsEvents profile parts legs) (addr : ℕ) (new : IsNew addr (addresses parts))
      (device : DeviceParts) (known : device_with addr profile ≡ Some device) where
    abbrev written_leg : List ℕ → List Event
    written_leg bytes = leg (write_address addr ∷ bytes)

    -- what holds of the device and the parts of a leg that is this one
    of_this_leg : (Holds : DeviceParts → List PartData → List ℕ → Type 0) (done : List PartData) (other : ℕ)
        (d : DeviceParts) (front bytes : List ℕ)
        → PartsEvents profile done legs → device_with other profile ≡ Some d
        → Byte (write_address addr) ≡ Byte (write_address other) → front ≡ bytes
        → Holds d done front → Holds device parts bytes
    of_this_leg Holds done other d front bytes behind found address same holds =
        let same_address : other ≡ addr = sym (same_half addr other address) in
        let there : device_with addr profile ≡ Some d =
        subst (λ (a : ℕ). device_with a profile ≡ Some d) same_address found in
        let same_device : d ≡ device = same_found (device_with addr profile) d device there known in
        let same_parts : done ≡ parts = one_list_of_parts profile done parts legs behind each in
        let by_device = subst (λ (x : DeviceParts). Holds x done front) same_device holds in
        let by_parts = subst (λ (ps : List PartData). Holds device ps front) same_parts by_device in
        subst (Holds device parts) same by_parts

    -- ---- a byte

    abbrev bytes_sent : List ℕ → ℕ → List Event
    bytes_sent bytes byte = acked (write_address addr ∷ bytes) ++ Byte byte ∷ []

    sent_in_leg : (bytes : List ℕ) (byte : ℕ) (done : List PartData) → PartsEvents profile done legs
        → LegBegins profile done (Start ∷ bytes_sent bytes byte) → IsInsideBody device parts bytes × IsByte byte
    sent_in_leg bytes byte done behind (leg_start is) = absurd (cc is)
    sent_in_leg bytes byte done behind (leg_address other seven free is) = absurd (cc is)
    sent_in_leg bytes byte done behind (leg_taken other d front free found begins is) =
        let rest : acked front ≡ acked bytes ++ Byte byte ∷ [] = cc is in
        absurd (all_answered front bytes byte rest)
    sent_in_leg bytes byte done behind (leg_sent other d front last free found inside small is) =
        let rest : acked front ++ Byte last ∷ [] ≡ acked bytes ++ Byte byte ∷ [] = cc is in
        let ends = same_from_push (acked front) (acked bytes) (Byte last) (Byte byte) rest in
        let same_byte : last ≡ byte = cc (ends.1) in (
          of_this_leg IsInsideBody done other d front bytes behind found (cc is) (one_row_of_bytes front bytes ends.0)
              inside,
          subst IsByte same_byte small,
        )

    sent_in : (bytes : List ℕ) (byte : ℕ) → InLastLeg profile legs (bytes_sent bytes byte)
        → IsInsideBody device parts bytes × IsByte byte
    sent_in bytes byte (in_written done few_done own_done behind begins) = sent_in_leg bytes byte done behind begins
    sent_in bytes byte (at_reply other d body found is front none) = absurd (cc none)
    sent_in bytes byte (at_read_address other d body found is front same) = absurd (cc same)
    sent_in bytes byte (in_reply other d body answer found answers front begins) =
        absurd (not_written addr other answer _ begins)
    sent_in bytes byte (in_alert front begins) = absurd (no_alert_written addr _ begins)

    -- a byte may follow inside of a body, and nowhere else
    pub byte_follows : (bytes : List ℕ) (byte : ℕ)
        → (MayFollow profile (legs ++ written_leg bytes) (Byte byte) → IsInsideBody device parts bytes × IsByte byte)
        × (IsInsideBody device parts bytes × IsByte byte → MayFollow profile (legs ++ written_leg bytes) (Byte byte))
    byte_follows bytes byte =
        let events = (legs ++ written_leg bytes) ++ Byte byte ∷ [] in
        let spelled : events ≡ legs ++ Start ∷ bytes_sent bytes byte = append_assoc legs (written_leg bytes)
        (Byte byte ∷ []) in (
          -- a byte that may follow makes a beginning that ends in this leg
          λ follows.
              sent_in bytes byte
              (
              by_open_leg profile (legs ++ written_leg bytes) (Byte byte) legs (bytes_sent bytes byte) refl refl
              (no_start-sent bytes byte) spelled
              (viable_is_beginning pec_is_byte profile bus events
              (λ none. no_end (legs ++ written_leg bytes) (Byte byte) [] none) follows)
              ),
          -- and one inside a body makes such a beginning
          λ inside.
              beginning_is_viable pec_is_byte profile bus events
              (
              written
              (record {
                parts = parts;
                few = few;
                distinct = own;
                legs = legs;
                each = each;
                last = Start ∷ bytes_sent bytes byte;
                begins = leg_sent addr device bytes byte new known inside.0 inside.1 refl;
                spelled = spelled;
              })
              ),
        )

    -- ---- NACK after it

    -- any device may refuse it
    pub refusal_follows : (bytes : List ℕ) (byte : ℕ)
        → (MayFollow profile (legs ++ written_leg bytes ++ Byte byte ∷ []) Nack
        → IsInsideBody device parts bytes × IsByte byte)
        × (IsInsideBody device parts bytes × IsByte byte
        → MayFollow profile (legs ++ written_leg bytes ++ Byte byte ∷ []) Nack)
    refusal_follows bytes byte =
        let sent = (legs ++ written_leg bytes) ++ Byte byte ∷ [] in
        let both = byte_follows bytes byte in (
          λ follows. both.0 (front_is_viable profile sent (Nack ∷ []) follows),
          λ inside.
              inside_follows pec_is_byte profile bus parts few own legs each addr device bytes byte new known inside.0
              inside.1 (sent ++ Nack ∷ [])
              (written_leg bytes ++ Byte byte ∷ Nack ∷ []) (Stop ∷ [])
              (
              append_assoc (legs ++ written_leg bytes) (Byte byte ∷ []) (Nack ∷ [])
              ∙ append_assoc legs (written_leg bytes) (Byte byte ∷ Nack ∷ [])
              ) (append_assoc (written_leg bytes) (Byte byte ∷ Nack ∷ []) (Stop ∷ [])),
        )

    -- ---- ACK after it

    module _ (bytes : List ℕ) where
      abbrev bytes_taken : List Event
      bytes_taken = acked (write_address addr ∷ bytes)

      abbrev all_legs : List Event
      all_legs = legs ++ Start ∷ bytes_taken

      taken_in_leg : (done : List PartData) → PartsEvents profile done legs
          → LegBegins profile done (Start ∷ bytes_taken)
          → BeginsBody device parts bytes
      taken_in_leg done behind (leg_start is) = absurd (cc is)
      taken_in_leg done behind (leg_address other seven free is) = absurd (cc is)
      taken_in_leg done behind (leg_taken other d front free found begins is) =
          let rest : acked front ≡ acked bytes = cc is in
          of_this_leg BeginsBody done other d front bytes behind found (cc is)
          (one_row_of_bytes front bytes rest) begins
      taken_in_leg done behind (leg_sent other d front last free found inside small is) =
          let rest : acked bytes ≡ acked front ++ Byte last ∷ [] = cc is in
          absurd (all_answered bytes front last rest)

      -- they end with ACK
      no_packet : IsPacket profile all_legs → ⊥
      no_packet packet =
          let taken = ends_taken (write_address addr) bytes in
          let same : all_legs ≡ (legs ++ Start ∷ taken.0) ++ Ack ∷ [] =
          ap (λ (es : List Event). legs ++ Start ∷ es) taken.1 ∙ sym (append_assoc legs (Start ∷ taken.0) (Ack ∷ [])) in
          ends_with profile (legs ++ Start ∷ taken.0) Ack refl (subst (IsPacket profile) same packet)

      taken_in : (IsPacket profile all_legs ⊎ IsPacket profile (all_legs ++ Stop ∷ []))
          ⊎ InLastLeg profile legs bytes_taken
          → BeginsBody device parts bytes
      taken_in (inl (inl packet)) = absurd (no_packet packet)
      taken_in (inl (inr packet)) =
          let ends = by_stop profile legs bytes_taken all_legs (no_start-acked bytes) refl packet in
          let whole = ends_whole pec_is_byte profile bus parts few own legs each addr new device known bytes ends in
          inr (bytes, [], write_is_allowed device parts bytes whole, sym (append-nil bytes))
      taken_in (inr (in_written done few_done own_done behind begins)) = taken_in_leg done behind begins
      taken_in (inr (at_reply other d body found is front none)) = absurd (cc none)
      taken_in (inr (at_read_address other d body found is front same)) = absurd (not_both addr other (cc same))
      taken_in (inr (in_reply other d body answer found answers front begins)) =
          absurd (not_written addr other answer _ begins)
      taken_in (inr (in_alert front begins)) = absurd (no_alert_written addr _ begins)

      -- bytes that were taken begin a body
      leg_is_viable : (Viable profile all_legs → BeginsBody device parts bytes)
          × (BeginsBody device parts bytes → Viable profile all_legs)
      leg_is_viable = (
        λ viable.
            taken_in
            (
            by_last_leg profile legs bytes_taken all_legs (no_start-acked bytes) refl
            (viable_is_beginning pec_is_byte profile bus all_legs (λ none. no_end legs Start bytes_taken none) viable)
            ),
        λ begins.
            beginning_is_viable pec_is_byte profile bus all_legs
            (
            written
            (record {
              parts = parts;
              few = few;
              distinct = own;
              legs = legs;
              each = each;
              last = Start ∷ bytes_taken;
              begins = leg_taken addr device bytes new known begins refl;
              spelled = refl;
            })
            ),
      )

    -- so a byte may be taken where it goes on with a body
    pub taken_follows : (bytes : List ℕ) (byte : ℕ)
        → (MayFollow profile (legs ++ written_leg bytes ++ Byte byte ∷ []) Ack
        → BeginsBody device parts (bytes ++ byte ∷ []))
        × (BeginsBody device parts (bytes ++ byte ∷ [])
        → MayFollow profile (legs ++ written_leg bytes ++ Byte byte ∷ []) Ack)
    taken_follows bytes byte =
        let sent = (legs ++ written_leg bytes) ++ Byte byte ∷ [] in
        let same : sent ++ Ack ∷ [] ≡ legs ++ written_leg (bytes ++ byte ∷ []) =
        append_assoc (legs ++ written_leg bytes) (Byte byte ∷ []) (Ack ∷ [])
        ∙ append_assoc legs (written_leg bytes) (Byte byte ∷ Ack ∷ [])
        ∙ ap (λ (es : List Event). legs ++ Start ∷ Byte (write_address addr) ∷ Ack ∷ es)
        (sym (acked_push bytes byte)) in
        let both = leg_is_viable (bytes ++ byte ∷ []) in (
          λ follows. both.0 (subst (Viable profile) same follows),
          λ begins. subst (Viable profile) (sym same)
              (both.1 begins),
        )
