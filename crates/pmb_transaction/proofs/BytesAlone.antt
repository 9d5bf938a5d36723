-- In a leg in which a device is read, nothing but a byte follows a byte that was taken. For the law
-- `bytes_alone_follow_in_an_answer`. By the turns of events START, STOP or a byte follows ACK; the
-- leg before START or STOP would be a written one, and this leg has an address byte for reading.
use Rattle.std.proofs.Common.{◌≡◌, ℕ, ◌<◌, true, List, [], ◌∷◌, ◌++◌, refl, sym, ap, ◌∙◌, subst, append_assoc}
use Rattle.pmb_bus.specs.Pec.{pec}
use Rattle.pmb_bus.specs.declared.event.Event.{Event}
use Rattle.pmb_bus.specs.declared.event.Event.TheVariants.{Start, Byte, Ack, Nack, Stop}
use Rattle.pmb_bus.specs.Address.{write_address, read_address}
use Rattle.pmb_command.specs.Bus.{IsBus}
use Rattle.pmb_command.specs.Parts.{DeviceParts}
use Rattle.pmb_transaction.specs.Transaction.{PartData}
use Rattle.pmb_transaction.specs.Packet.{PartsEvents, acked, nacked}
use Rattle.pmb_transaction.specs.Capture.{MayFollow}
use Rattle.pmb_transaction.specs.Turns.{is_byte, follows_in_turn}
use Rattle.pmb_transaction.proofs.Alerts.{alert_has_byte}
use Rattle.pmb_transaction.proofs.Answers.{answer_has_byte, no_end_taken}
use Rattle.pmb_transaction.proofs.Beginnings.{viable_is_beginning}
use Rattle.pmb_transaction.proofs.Ends.{packet_with_stop}
use Rattle.pmb_transaction.proofs.Fronts.{no_end}
use Rattle.pmb_transaction.proofs.LastStarts.{EndsInLeg, InLastLeg, at_read_address, at_reply, by_open_leg, by_stop}
use Rattle.pmb_transaction.proofs.LastStarts.{ends_alert, ends_at_address, ends_at_byte, ends_at_read, ends_reply}
use Rattle.pmb_transaction.proofs.LastStarts.{ends_write, in_alert, in_reply, in_written, not_a_part, part_behind}
use Rattle.pmb_transaction.proofs.NextLegs.{no_answer_at_start}
use Rattle.pmb_transaction.proofs.Starts.{ends_taken, no_start-acked, not_both, same_last_start}
use Rattle.pmb_transaction.proofs.Turns.{events_take_turns}

module _ (pec_is_byte : (bytes : List ℕ) → pec bytes < 256) (profile : List DeviceParts) (bus : IsBus profile)
    (front : List Event) (addr : ℕ) (bytes : List ℕ) where
  abbrev bytes_taken : List Event
  bytes_taken = acked (read_address addr ∷ bytes)

  abbrev all_legs : List Event
  all_legs = front ++ Start ∷ bytes_taken

  -- no START: the leg before is a written one
  no_parts : (parts : List PartData) → PartsEvents profile parts all_legs → ⊥
  no_parts parts each =
      let w = part_behind profile parts all_legs front bytes_taken (no_start-acked bytes) each refl in
      not_a_part profile w.part addr _ w.here

  no_start_follows : InLastLeg profile all_legs [] → ⊥
  no_start_follows (in_written parts few own each begins) = no_parts parts each
  no_start_follows (at_reply other device body known is same none) =
      let cut =
      same_last_start front [] bytes_taken (acked (write_address other ∷ body)) (no_start-acked bytes)
      (no_start-acked body) same in
      not_both other addr (sym (cc (cut.1)))
  no_start_follows (at_read_address other device body known is same none) = cc none
  no_start_follows (in_reply other device body answer known answers same begins) =
      no_answer_at_start (read_address other) answer begins
  no_start_follows (in_alert none begins) = no_end front Start bytes_taken none

  -- no STOP: NACK stands before it
  no_stop_follows : EndsInLeg profile front bytes_taken → ⊥
  no_stop_follows (ends_write parts part each here) = not_a_part profile part addr _ here
  no_stop_follows (ends_at_address other is) = not_both other addr (sym (cc is))
  no_stop_follows (ends_at_byte other byte sent is) = not_both other addr (sym (cc is))
  no_stop_follows (ends_at_read other is) = cc is
  no_stop_follows (ends_reply other device body answer known answers same is) =
      let rest : acked bytes ≡ nacked answer = cc is in
      no_end_taken answer bytes (answer_has_byte profile bus other device body answer known answers) rest
  no_stop_follows (ends_alert answer answers same is) =
      let rest : acked bytes ≡ nacked answer = cc is in
      no_end_taken answer bytes (alert_has_byte answer answers) rest

  -- the leg ends with ACK
  behind_ack : (event : Event) → MayFollow profile all_legs event → follows_in_turn Ack event ≡ true
  behind_ack event follows =
      let taken = ends_taken (read_address addr) bytes in
      let same : all_legs ≡ (front ++ Start ∷ taken.0) ++ Ack ∷ [] =
      ap (λ (es : List Event). front ++ Start ∷ es) taken.1 ∙ sym (append_assoc front (Start ∷ taken.0) (Ack ∷ [])) in
      events_take_turns profile (front ++ Start ∷ taken.0) Ack event
      (subst (λ (es : List Event). MayFollow profile es event) same follows)

  pub bytes_alone : (event : Event) → MayFollow profile all_legs event → is_byte event ≡ true
  bytes_alone (Byte b) follows = refl
  bytes_alone Ack follows = absurd (cc (behind_ack Ack follows))
  bytes_alone Nack follows = absurd (cc (behind_ack Nack follows))
  bytes_alone Start follows =
      absurd
      (
      no_start_follows
      (
      by_open_leg profile all_legs Start all_legs [] refl refl refl refl
      (viable_is_beginning pec_is_byte profile bus (all_legs ++ Start ∷ []) (λ none. no_end all_legs Start [] none)
      follows)
      )
      )
  bytes_alone Stop follows =
      absurd
      (
      no_stop_follows (by_stop profile front bytes_taken all_legs (no_start-acked bytes) refl
      (packet_with_stop profile all_legs follows))
      )
