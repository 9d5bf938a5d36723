-- The leg at the Alert Response Address: ACK or NACK may follow its address byte, then a byte is
-- read, with or without a packet error code. For the laws `alerts_may_be_taken`,
-- `alerts_may_be_refused`, `bytes_follow_in_an_alert`, `alerts_go_on` and `alerts_end`. What
-- follows in a leg that is read is proved once, in ReadLegs; its four premises are proved here.
use Rattle.std.proofs.Common.{ℕ, ◌<◌, inr, false, List, [], ◌∷◌, ◌++◌, refl, sym, subst, arith}
use Rattle.pmb_bus.specs.Pec.{pec}
use Rattle.pmb_bus.specs.declared.event.Event.{Event}
use Rattle.pmb_bus.specs.declared.event.Event.TheVariants.{Start, Byte, Ack, Nack, Stop}
use Rattle.pmb_bus.specs.Address.{read_address, alert_address}
use Rattle.pmb_command.specs.Bus.{IsBus}
use Rattle.pmb_command.specs.Parts.{DeviceParts}
use Rattle.pmb_transaction.specs.Transaction.{AlertData, Alert, NoAlert}
use Rattle.pmb_transaction.specs.Body.{checked}
use Rattle.pmb_transaction.specs.Packet.{AlertPacket, leg, nacked}
use Rattle.pmb_transaction.specs.Capture.{IsPacket, MayFollow}
use Rattle.pmb_transaction.specs.Viable.{AlertBegins, AnswerBegins, IsBeginning, answer_taken, alert, alert_answer}
use Rattle.pmb_transaction.specs.Viable.{at_alert}
use Rattle.pmb_transaction.specs.Following.{IsAlertAnswer}
use Rattle.pmb_transaction.proofs.Answers.{HasByte, checked_has_byte}
use Rattle.pmb_transaction.proofs.Completions.{beginning_is_viable}
use Rattle.pmb_transaction.proofs.LastStarts.{EndsInLeg, InLastLeg, at_read_address, at_reply, ends_alert}
use Rattle.pmb_transaction.proofs.LastStarts.{ends_at_address, ends_at_byte, ends_at_read, ends_reply, ends_write}
use Rattle.pmb_transaction.proofs.LastStarts.{in_alert, in_reply, in_written, not_a_part, not_in_written}
use Rattle.pmb_transaction.proofs.ReadLegs.{Answered, Answering, IsReadLeg}
use Rattle.pmb_transaction.proofs.Starts.{not_both}

-- an answer to an alert has a byte
pub alert_has_byte : (answer : List ℕ) → IsAlertAnswer answer → HasByte answer
alert_has_byte answer is =
    subst HasByte (sym is.spelled)
    (
    checked_has_byte is.with_pec (read_address alert_address ∷ []) (is.byte ∷ [])
    (record { first = is.byte; rest = []; split = refl })
    )

-- ---- after the address byte

-- NACK may follow
pub nack_follows : (profile : List DeviceParts)
    → MayFollow profile (Start ∷ Byte (read_address alert_address) ∷ []) Nack
nack_follows profile = inr (Stop ∷ [], (NoAlert, refl))

-- and ACK
pub ack_follows : (pec_is_byte : (bytes : List ℕ) → pec bytes < 256) (profile : List DeviceParts) → IsBus profile
    → MayFollow profile (Start ∷ Byte (read_address alert_address) ∷ []) Ack
ack_follows pec_is_byte profile bus =
    beginning_is_viable pec_is_byte profile bus (leg (read_address alert_address ∷ []))
    (
    alert
    (alert_answer 0 false (omega arith) (answer_taken [] (record { next = 0; rest = []; split = refl }) refl))
    )

-- ---- the answers

answering_alert : (own : List Event) → AlertBegins (Start ∷ Byte (read_address alert_address) ∷ Ack ∷ own)
    → Answering alert_address IsAlertAnswer own
answering_alert own (at_alert is) = absurd (cc is)
answering_alert own (alert_answer byte with_pec small begins) = record {
  answer = checked with_pec (read_address alert_address ∷ []) (byte ∷ []);
  answers = record { byte = byte; small = small; with_pec = with_pec; spelled = refl };
  other = alert_address;
  begins = begins;
}

module _ (profile : List DeviceParts) where
  answering : (own : List Event) → InLastLeg profile [] (Byte (read_address alert_address) ∷ Ack ∷ own)
      → Answering alert_address IsAlertAnswer own
  answering own (in_written parts few distinct each begins) =
      absurd (not_in_written profile parts alert_address (Ack ∷ own) begins)
  answering own (at_reply addr device body known is front none) = absurd (cc none)
  answering own (at_read_address addr device body known is front same) = absurd (cc front)
  answering own (in_reply addr device body answer known answers front begins) = absurd (cc front)
  answering own (in_alert front begins) = answering_alert own begins

  answer_ends : (own : List Event) → EndsInLeg profile [] (Byte (read_address alert_address) ∷ Ack ∷ own)
      → Answered IsAlertAnswer own
  answer_ends own (ends_write parts part each here) = absurd (not_a_part profile part alert_address (Ack ∷ own) here)
  answer_ends own (ends_at_address other is) = absurd (cc is)
  answer_ends own (ends_at_byte other byte sent is) = absurd (not_both other alert_address (sym (cc is)))
  answer_ends own (ends_at_read other is) = absurd (cc is)
  answer_ends own (ends_reply addr device body answer known answers front is) = absurd (cc front)
  answer_ends own (ends_alert answer answers front is) =
      record { answer = answer; answers = answers; some = alert_has_byte answer answers; all = cc is }

  answer_begins : (answer : List ℕ) → IsAlertAnswer answer → (last : List Event)
      → AnswerBegins (read_address alert_address) answer last
      → IsBeginning profile last
  answer_begins answer is last begins =
      alert
      (
      alert_answer is.byte is.with_pec is.small
      (subst (λ (bs : List ℕ). AnswerBegins (read_address alert_address) bs last) is.spelled begins)
      )

  alert_packet : (answer : List ℕ) → IsAlertAnswer answer
      → IsPacket profile ((leg (read_address alert_address ∷ []) ++ nacked answer) ++ Stop ∷ [])
  alert_packet answer is =
      let t : AlertData = record { byte = is.byte; pec = is.with_pec } in
      let bytes = checked is.with_pec (read_address alert_address ∷ []) (is.byte ∷ []) in
      let packet : AlertPacket t (leg (read_address alert_address ∷ []) ++ nacked bytes ++ Stop ∷ []) =
      record { byte = is.small; spelled = refl } in
      subst (λ (bs : List ℕ). IsPacket profile ((leg (read_address alert_address ∷ []) ++ nacked bs) ++ Stop ∷ []))
      (sym is.spelled)
      (Alert t, packet)

  -- The leg is one in which these are read.
  pub alert_is_read : IsReadLeg profile [] alert_address IsAlertAnswer
  alert_is_read = record { inside = answering; at_end = answer_ends; begins = answer_begins; ends = alert_packet }
