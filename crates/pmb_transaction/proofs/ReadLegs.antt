-- A leg in which an answer is read, be it a reply or an answer at the Alert Response Address: which
-- byte follows in it, and whether ACK or NACK follows that byte. For the laws
-- `bytes_follow_in_a_reply`, `replies_go_on` and `replies_end`, and for those three of alerts. It
-- is stated once, over what is known of the leg (`IsReadLeg`), which Replies and Alerts prove.
use Rattle.std.proofs.Common.{◌≡◌, ℕ, ◌<◌, ◌⊎◌, inl, inr, List, [], ◌∷◌, ◌++◌, refl, sym, ap, ◌∙◌, subst, append_assoc}
use Rattle.pmb_bus.specs.Pec.{pec}
use Rattle.pmb_bus.specs.declared.event.Event.{Event}
use Rattle.pmb_bus.specs.declared.event.Event.TheVariants.{Start, Byte, Ack, Nack, Stop}
use Rattle.pmb_bus.specs.Address.{read_address}
use Rattle.pmb_command.specs.Bus.{IsBus}
use Rattle.pmb_command.specs.Parts.{DeviceParts}
use Rattle.pmb_transaction.specs.Packet.{acked, leg, nacked}
use Rattle.pmb_transaction.specs.Capture.{IsPacket, MayFollow}
use Rattle.pmb_transaction.specs.Viable.{AnswerBegins, IsBeginning, answer_sent, answer_taken}
use Rattle.pmb_transaction.specs.Following.{BeginsAnswer, IsInsideAnswer}
use Rattle.pmb_transaction.proofs.Answers.{HasByte, all_of_answer, no_end_taken, sent_of_answer, taken_of_answer}
use Rattle.pmb_transaction.proofs.Beginnings.{viable_is_beginning}
use Rattle.pmb_transaction.proofs.Completions.{beginning_is_viable, nacked_append}
use Rattle.pmb_transaction.proofs.Ends.{ends_with, packet_is_viable, packet_with_stop, stop_follows_nack}
use Rattle.pmb_transaction.proofs.Fronts.{no_end}
use Rattle.pmb_transaction.proofs.LastStarts.{EndsInLeg, InLastLeg, by_last_leg, by_open_leg, by_stop}
use Rattle.pmb_transaction.proofs.Readings.{front_is_viable}
use Rattle.pmb_transaction.proofs.Starts.{acked_push, no_start-acked, no_start-nacked, no_start-sent}

-- ---- legs with certain answers

-- An answer of a leg, of which the events after the address byte and its ACK are some.
pub record Answering (addr : ℕ) (Answers : List ℕ → Type 0) (own : List Event) : Type 0 where
  pub answer : List ℕ
  pub answers : Answers answer
  pub other : ℕ
  pub begins : AnswerBegins (read_address other) answer (Start ∷ Byte (read_address addr) ∷ Ack ∷ own)

-- An answer of which they are all.
pub record Answered (Answers : List ℕ → Type 0) (own : List Event) : Type 0 where
  pub answer : List ℕ
  pub answers : Answers answer
  -- it has a byte, and the events are all of it
  pub some : HasByte answer
  pub all : own ≡ nacked answer

-- After some events a leg to an address is one in which an answer is read.
pub record IsReadLeg (profile : List DeviceParts) (front : List Event) (addr : ℕ)
    (Answers : List ℕ → Type 0) : Type 0 where
  -- events inside this leg are inside one of the answers
  pub inside : (own : List Event) → InLastLeg profile front (Byte (read_address addr) ∷ Ack ∷ own)
      → Answering addr Answers own
  -- and if they end a packet, they are all of one
  pub at_end : (own : List Event) → EndsInLeg profile front (Byte (read_address addr) ∷ Ack ∷ own)
      → Answered Answers own
  -- the other way round, what begins an answer begins a packet
  pub begins : (answer : List ℕ) → Answers answer → (last : List Event) → AnswerBegins (read_address addr) answer last
      → IsBeginning profile (front ++ last)
  -- and a whole answer with STOP is one
  pub ends : (answer : List ℕ) → Answers answer
      → IsPacket profile ((front ++ (leg (read_address addr ∷ []) ++ nacked answer)) ++ Stop ∷ [])

module _ (pec_is_byte : (bytes : List ℕ) → pec bytes < 256) (profile : List DeviceParts) (bus : IsBus profile)
    (front : List Event) (addr : ℕ) (Answers : List ℕ → Type 0) (is : IsReadLeg profile front addr Answers)
    (bytes : List ℕ) (byte : ℕ) where
  abbrev so_far : List Event
  so_far = front ++ leg (read_address addr ∷ bytes)

  abbrev sent : List Event
  sent = so_far ++ Byte byte ∷ []

  -- ---- a byte

  sent_is : sent ≡ front ++ (leg (read_address addr ∷ bytes) ++ Byte byte ∷ [])
  sent_is = append_assoc front (leg (read_address addr ∷ bytes)) (Byte byte ∷ [])

  answer_goes_on : MayFollow profile so_far (Byte byte) → BeginsAnswer Answers (bytes ++ byte ∷ [])
  answer_goes_on follows =
      let own = acked bytes ++ Byte byte ∷ [] in
      let w =
      is.inside own
      (
      by_open_leg profile so_far (Byte byte) front (Byte (read_address addr) ∷ Ack ∷ own) refl refl
      (no_start-sent bytes byte) sent_is
      (viable_is_beginning pec_is_byte profile bus sent (λ none. no_end so_far (Byte byte) [] none) follows)
      ) in
      let rest = sent_of_answer (read_address addr) (read_address w.other) w.answer bytes byte w.begins in
      (w.answer, rest.0, w.answers, rest.1)

  byte_goes_on : BeginsAnswer Answers (bytes ++ byte ∷ []) → MayFollow profile so_far (Byte byte)
  byte_goes_on begins =
      let begun =
      is.begins begins.0 begins.2 (leg (read_address addr ∷ bytes) ++ Byte byte ∷ [])
      (answer_sent bytes byte begins.1 (begins.3 ∙ append_assoc bytes (byte ∷ []) begins.1) refl) in
      beginning_is_viable pec_is_byte profile bus sent (subst (IsBeginning profile) (sym sent_is) begun)

  -- a byte may follow with which an answer goes on
  pub byte_follows : (MayFollow profile so_far (Byte byte) → BeginsAnswer Answers (bytes ++ byte ∷ []))
      × (BeginsAnswer Answers (bytes ++ byte ∷ []) → MayFollow profile so_far (Byte byte))
  byte_follows = (answer_goes_on, byte_goes_on)

  -- ---- ACK after it

  abbrev bytes_taken : List Event
  bytes_taken = acked (read_address addr ∷ (bytes ++ byte ∷ []))

  taken_is : sent ++ Ack ∷ [] ≡ front ++ Start ∷ bytes_taken
  taken_is =
      append_assoc so_far (Byte byte ∷ []) (Ack ∷ [])
      ∙ append_assoc front (leg (read_address addr ∷ bytes)) (Byte byte ∷ Ack ∷ [])
      ∙ ap (λ (es : List Event). front ++ Start ∷ Byte (read_address addr) ∷ Ack ∷ es) (sym (acked_push bytes byte))

  taken_in : (IsPacket profile (sent ++ Ack ∷ []) ⊎ IsPacket profile ((sent ++ Ack ∷ []) ++ Stop ∷ []))
      ⊎ InLastLeg profile front bytes_taken
      → IsInsideAnswer Answers (bytes ++ byte ∷ [])
  taken_in (inl (inl packet)) = absurd (ends_with profile sent Ack refl packet)
  taken_in (inl (inr packet)) =
      let w =
      is.at_end (acked (bytes ++ byte ∷ []))
      (by_stop profile front bytes_taken (sent ++ Ack ∷ []) (no_start-acked (bytes ++ byte ∷ [])) taken_is packet) in
      absurd (no_end_taken w.answer (bytes ++ byte ∷ []) w.some w.all)
  taken_in (inr in_leg) =
      let w = is.inside (acked (bytes ++ byte ∷ [])) in_leg in (
        w.answer,
        w.answers,
        taken_of_answer (read_address addr) (read_address w.other) w.answer
            (bytes ++ byte ∷ []) w.begins,
      )

  ack_goes_on : IsInsideAnswer Answers (bytes ++ byte ∷ []) → MayFollow profile sent Ack
  ack_goes_on inside =
      let begun = is.begins inside.0 inside.1 (Start ∷ bytes_taken) (answer_taken (bytes ++ byte ∷ []) inside.2 refl) in
      beginning_is_viable pec_is_byte profile bus (sent ++ Ack ∷ []) (subst (IsBeginning profile) (sym taken_is) begun)

  -- ACK may follow a byte that is not the answer's last
  pub byte_taken : (MayFollow profile sent Ack → IsInsideAnswer Answers (bytes ++ byte ∷ []))
      × (IsInsideAnswer Answers (bytes ++ byte ∷ []) → MayFollow profile sent Ack)
  byte_taken = (
    λ follows.
        taken_in
        (
        by_last_leg profile front bytes_taken (sent ++ Ack ∷ []) (no_start-acked (bytes ++ byte ∷ [])) taken_is
        (viable_is_beginning pec_is_byte profile bus (sent ++ Ack ∷ []) (λ none. no_end sent Ack [] none) follows)
        ),
    ack_goes_on,
  )

  -- ---- NACK after it

  abbrev all_bytes : List Event
  all_bytes = leg (read_address addr ∷ []) ++ nacked (bytes ++ byte ∷ [])

  refused_is : sent ++ Nack ∷ [] ≡ front ++ all_bytes
  refused_is =
      append_assoc so_far (Byte byte ∷ []) (Nack ∷ [])
      ∙ append_assoc front (leg (read_address addr ∷ bytes)) (Byte byte ∷ Nack ∷ [])
      ∙ ap (λ (es : List Event). front ++ Start ∷ Byte (read_address addr) ∷ Ack ∷ es)
      (sym (nacked_append bytes byte []))

  answer_ends : MayFollow profile sent Nack → Answers (bytes ++ byte ∷ [])
  answer_ends follows =
      let stop = (stop_follows_nack profile sent Stop follows).1 refl in
      let w =
      is.at_end (nacked (bytes ++ byte ∷ []))
      (
      by_stop profile front (Byte (read_address addr) ∷ Ack ∷ nacked (bytes ++ byte ∷ [])) (sent ++ Nack ∷ [])
      (no_start-nacked (bytes ++ byte ∷ [])) refused_is (packet_with_stop profile (sent ++ Nack ∷ []) stop)
      ) in
      subst Answers (all_of_answer w.answer bytes byte (sym (nacked_append bytes byte []) ∙ w.all)) w.answers

  nack_ends : Answers (bytes ++ byte ∷ []) → MayFollow profile sent Nack
  nack_ends answers =
      let packet =
      subst (λ (es : List Event). IsPacket profile (es ++ Stop ∷ [])) (sym refused_is)
      (is.ends (bytes ++ byte ∷ []) answers) in
      front_is_viable profile (sent ++ Nack ∷ []) (Stop ∷ [])
      (packet_is_viable profile ((sent ++ Nack ∷ []) ++ Stop ∷ []) packet)

  -- NACK may follow the answer's last
  pub byte_refused : (MayFollow profile sent Nack → Answers (bytes ++ byte ∷ []))
      × (Answers (bytes ++ byte ∷ []) → MayFollow profile sent Nack)
  byte_refused = (answer_ends, nack_ends)
