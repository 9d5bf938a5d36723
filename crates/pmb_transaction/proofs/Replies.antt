-- The leg in which a device that was asked is read: ACK or NACK may follow its address byte, and
-- its answers are those to the body that was written. For the laws `reads_may_be_taken`,
-- `reads_may_be_refused`, `bytes_follow_in_a_reply`, `replies_go_on` and `replies_end`. The leg
-- before it tells the address and the body, so each beginning that ends here has this device and
-- this body; ReadLegs does the rest.
use Rattle.std.proofs.Common.{◌≡◌, ℕ, ◌<◌, Some, List, [], ◌∷◌, ◌++◌, refl, sym, subst, append_assoc}
use Rattle.pmb_bus.specs.Pec.{pec}
use Rattle.pmb_bus.specs.declared.event.Event.{Event}
use Rattle.pmb_bus.specs.declared.event.Event.TheVariants.{Start, Byte, Ack, Nack, Stop}
use Rattle.pmb_bus.specs.Address.{write_address, read_address}
use Rattle.pmb_command.specs.Bus.{IsBus}
use Rattle.pmb_command.specs.Parts.{DeviceParts, device_with}
use Rattle.pmb_transaction.specs.Body.{IsRequest}
use Rattle.pmb_transaction.specs.Packet.{acked, leg, nacked}
use Rattle.pmb_transaction.specs.Capture.{IsPacket, MayFollow}
use Rattle.pmb_transaction.specs.Viable.{IsAnswer, answer_taken, read, read_answer}
use Rattle.pmb_transaction.proofs.Answers.{answer_has_byte, some_answer}
use Rattle.pmb_transaction.proofs.Completions.{answered_packet, beginning_is_viable, read_follows}
use Rattle.pmb_transaction.proofs.LastStarts.{EndsInLeg, InLastLeg, at_read_address, at_reply, ends_alert}
use Rattle.pmb_transaction.proofs.LastStarts.{ends_at_address, ends_at_byte, ends_at_read, ends_reply, ends_write}
use Rattle.pmb_transaction.proofs.LastStarts.{in_alert, in_reply, in_written, not_a_part, not_in_written}
use Rattle.pmb_transaction.proofs.OnePacket.{same_found}
use Rattle.pmb_transaction.proofs.ReadLegs.{Answered, Answering, IsReadLeg}
use Rattle.pmb_transaction.proofs.Starts.{not_both, one_row_of_bytes, same_half}

module _ (pec_is_byte : (bytes : List ℕ) → pec bytes < 256) (profile : List DeviceParts) (bus : IsBus profile)
    (addr : ℕ) (device : DeviceParts) (known : device_with addr profile ≡ Some device) (body : List ℕ) where
  abbrev written_leg : List Event
  written_leg = leg (write_address addr ∷ body)

  -- ---- after the address byte

  abbrev addressed : List Event
  addressed = written_leg ++ Start ∷ Byte (read_address addr) ∷ []

  -- NACK may follow
  pub nack_follows : IsRequest device body → MayFollow profile addressed Nack
  nack_follows is =
      read_follows pec_is_byte profile bus addr device body known is (addressed ++ Nack ∷ [])
      (Start ∷ Byte (read_address addr) ∷ Nack ∷ [])
      (Stop ∷ []) (append_assoc written_leg (Start ∷ Byte (read_address addr) ∷ []) (Nack ∷ [])) refl

  -- and ACK
  pub ack_follows : IsRequest device body → MayFollow profile addressed Ack
  ack_follows is =
      let w = some_answer device addr body is in
      let has = answer_has_byte profile bus addr device body w.0 known w.1 in
      beginning_is_viable pec_is_byte profile bus (addressed ++ Ack ∷ [])
      (
      read
      (
      read_answer addr device body w.0 (leg (read_address addr ∷ [])) known w.1
      (answer_taken [] (record { next = has.first; rest = has.rest; split = has.split }) refl)
      (append_assoc written_leg (Start ∷ Byte (read_address addr) ∷ []) (Ack ∷ []))
      )
      )

  -- ---- the answers

  -- an answer after a leg that is this one
  is_answer : (other : ℕ) (d : DeviceParts) (sent answer : List ℕ) → device_with other profile ≡ Some d
      → IsAnswer d other sent answer
      → written_leg ≡ leg (write_address other ∷ sent) → IsAnswer device addr body answer
  is_answer other d sent answer found answers same =
      let address : Byte (write_address addr) ≡ Byte (write_address other) = cc same in
      let rest : acked body ≡ acked sent = cc same in
      let same_address : other ≡ addr = sym (same_half addr other address) in
      let same_bytes : sent ≡ body = sym (one_row_of_bytes body sent rest) in
      let there : device_with addr profile ≡ Some d =
      subst (λ (a : ℕ). device_with a profile ≡ Some d) same_address found in
      let same_device : d ≡ device = same_found (device_with addr profile) d device there known in
      let by_address = subst (λ (a : ℕ). IsAnswer d a sent answer) same_address answers in
      let by_device = subst (λ (x : DeviceParts). IsAnswer x addr sent answer) same_device by_address in
      subst (λ (bs : List ℕ). IsAnswer device addr bs answer) same_bytes by_device

  answering : (own : List Event) → InLastLeg profile written_leg (Byte (read_address addr) ∷ Ack ∷ own)
      → Answering addr (IsAnswer device addr body) own
  answering own (in_written parts few distinct each begins) =
      absurd (not_in_written profile parts addr (Ack ∷ own) begins)
  answering own (at_reply other d sent found is front none) = absurd (cc none)
  answering own (at_read_address other d sent found is front same) = absurd (cc same)
  answering own (in_reply other d sent answer found answers front begins) =
      record {
        answer = answer;
        answers = is_answer other d sent answer found answers front;
        other = other;
        begins =
            begins;
      }
  answering own (in_alert front begins) = absurd (cc front)

  answer_ends : (own : List Event) → EndsInLeg profile written_leg (Byte (read_address addr) ∷ Ack ∷ own)
      → Answered (IsAnswer device addr body) own
  answer_ends own (ends_write parts part each here) = absurd (not_a_part profile part addr (Ack ∷ own) here)
  answer_ends own (ends_at_address other is) = absurd (cc is)
  answer_ends own (ends_at_byte other byte sent is) = absurd (not_both other addr (sym (cc is)))
  answer_ends own (ends_at_read other is) = absurd (cc is)
  answer_ends own (ends_reply other d sent answer found answers front is) = record {
    answer = answer;
    answers = is_answer other d sent answer found answers front;
    some = answer_has_byte profile bus other d sent answer found answers;
    all = cc is;
  }
  answer_ends own (ends_alert answer answers front is) = absurd (cc front)

  -- The leg is one in which these are read.
  pub reply_is_read : IsReadLeg profile written_leg addr (IsAnswer device addr body)
  reply_is_read = record {
    inside = answering;
    at_end = answer_ends;
    begins = λ answer answers last begins. read (read_answer addr device body answer last known answers begins refl);
    ends =
        λ answer answers.
        subst (λ (bs : List ℕ). IsPacket profile ((written_leg ++ (leg (read_address addr ∷ []) ++ nacked bs)) ++ Stop
        ∷ []))
        (sym answers.2.spelled)
        (answered_packet pec_is_byte profile bus addr device body answers.0 answers.1 known answer answers.2
        answers.2.asked);
  }
