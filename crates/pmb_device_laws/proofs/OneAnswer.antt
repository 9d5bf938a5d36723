-- The rules allow one answer to a signal at most. For the law `one_answer`. What decides between
-- two answers is either so or not (`by_whether`); a device is asked with one body, which says the
-- form of the reply (`one_form`), and with that all its bytes.
use Rattle.std.proofs.Common.{◌≡◌, ℕ, inl, inr, List, [], ◌∷◌, ◌++◌, Ok, sym, ap, subst, ◌∙◌}
use Rattle.pmb_command.specs.declared.form.Form.{Form}
use Rattle.pmb_command.specs.Bus.{IsDevice}
use Rattle.pmb_command.specs.Parts.{DeviceParts}
use Rattle.pmb_command.specs.Wire.{wire}
use Rattle.pmb_bus.specs.Address.{write_address, read_address}
use Rattle.pmb_transaction.specs.Body.{IsFormOfRequest, checked}
use Rattle.pmb_transaction.specs.Reason.{Whether}
use Rattle.pmb_registers.specs.State.{DeviceState}
use Rattle.pmb_registers.specs.Answer.{answer}
use Rattle.pmb_leg.specs.declared.place.LegPlace.{LegPlace}
use Rattle.pmb_device.specs.declared.signal.HostSignal.{HostSignal}
use Rattle.pmb_device.specs.declared.signal.HostSignal.TheVariants.{Start, Byte, Ask, Ack, Nack, Stop}
use Rattle.pmb_device.specs.declared.signal.DeviceSignal.{DeviceSignal}
use Rattle.pmb_device.specs.Legs.{Leg, Legs, Outside, Inside, behind_address, leg_place, sent}
use Rattle.pmb_device.specs.Rules.{Answers, AnswersAddress, AnswersAsk, AnswersByte, AnswersWritten, IsAsked}
use Rattle.pmb_device.specs.Rules.{IsReplyTo, carries_pec, next_of, taken_or_not, written, read, others, replies}
use Rattle.pmb_device.specs.Rules.{not_read}
use Rattle.pmb_devices.proofs.Givers.{no_read_address}
use Rattle.pmb_devices.proofs.ReplyForms.{call_form, read_form}

-- what is told where something holds, and where it doesn't, is told twice of the same case
pub by_whether : (Holds Then Else Also Otherwise Goal : Type 0) → (Then → Also → Goal) → (Else → Otherwise → Goal)
    → Whether Holds Then Else → Whether Holds Also Otherwise → Goal
by_whether Holds Then Else Also Otherwise Goal both neither (inl a) (inl b) = both a.1 b.1
by_whether Holds Then Else Also Otherwise Goal both neither (inl a) (inr b) = absurd (b.0 a.0)
by_whether Holds Then Else Also Otherwise Goal both neither (inr a) (inl b) = absurd (a.0 b.0)
by_whether Holds Then Else Also Otherwise Goal both neither (inr a) (inr b) = neither a.1 b.1

module _ (device : DeviceParts) where
  -- it is asked with one body
  same_asked : (earlier : List Leg) (body second : List ℕ) → IsAsked device earlier body
      → IsAsked device earlier second → body ≡ second
  same_asked earlier body second a b =
      let rows : a.first ∷ [] ≡ b.first ∷ [] = sym a.alone ∙ b.alone in
      let first : a.first ≡ b.first = cc rows in
      let bytes : write_address device.address ∷ body ≡ write_address device.address ∷ second =
      sym a.own ∙ ap sent first ∙ b.own in
      cc bytes

  -- ---- to a byte

  -- after an address
  one_written : (place : LegPlace) (bytes : List ℕ) (byte : ℕ) (result other : DeviceSignal)
      → AnswersWritten device place bytes byte result → AnswersWritten device place bytes byte other → result ≡ other
  one_written place bytes byte result other =
      by_whether _ _ _ _ _ _
      (by_whether _ _ _ _ _ _ (λ is also. is ∙ sym also) (λ is also. is ∙ sym also))
      (λ is also. is ∙ sym also)

  -- to an address: those for writing and for reading are two
  one_address : (state : DeviceState) (earlier : List Leg) (address : ℕ) (result other : DeviceSignal)
      → AnswersAddress device state earlier address result → AnswersAddress device state earlier address other
      → result ≡ other
  one_address state earlier address result other (written own is) (written also same) = is ∙ sym same
  one_address state earlier address result other (written own is) (read body also same) =
      absurd (no_read_address device.address device.address (sym own.own ∙ also.own))
  one_address state earlier address result other (written own is) (others none nor same) = absurd (none own)
  one_address state earlier address result other (read body asked is) (written also same) =
      absurd (no_read_address device.address device.address (sym also.own ∙ asked.own))
  one_address state earlier address result other (read body asked is) (read second also same) =
      is ∙ ap (λ (bytes : List ℕ). taken_or_not device (answer device state bytes))
      (same_asked earlier body second asked.asked also.asked) ∙ sym same
  one_address state earlier address result other (read body asked is) (others none nor same) = absurd (nor body asked)
  one_address state earlier address result other (others none nor is) (written also same) = absurd (none also)
  one_address state earlier address result other (others none nor is) (read body also same) = absurd (nor body also)
  one_address state earlier address result other (others none nor is) (others neither never same) = is ∙ sym same

  one_byte : (state : DeviceState) (earlier : List Leg) (bytes : List ℕ) (byte : ℕ) (result other : DeviceSignal)
      → AnswersByte device state earlier bytes byte result → AnswersByte device state earlier bytes byte other
      → result ≡ other
  one_byte state earlier [] byte result other a b = one_address state earlier byte result other a b
  one_byte state earlier (address ∷ bytes) byte result other a b =
      by_whether _ _ _ _ _ _ (one_written (leg_place earlier) bytes byte result other) (λ is also. is ∙ sym also) a b

module _ (device : DeviceParts) (accepted : IsDevice device) where
  -- ---- to an Ask

  -- a body asks for a reply in one form
  one_form : (form other : Form) (body : List ℕ) → IsFormOfRequest device form body
      → IsFormOfRequest device other body → form ≡ other
  one_form form other body (inl (code, a)) b =
      sym (read_form device accepted code form a.read other (subst (IsFormOfRequest device other) a.spelled b))
  one_form form other body (inr (code, content, a)) b =
      sym (call_form device accepted code form content a.called a.fits other
      (subst (IsFormOfRequest device other) a.spelled b))

  -- so data are spelled in one way as the reply to it
  one_reply : (body reply bytes more : List ℕ) → IsReplyTo device body reply bytes → IsReplyTo device body reply more
      → bytes ≡ more
  one_reply body reply bytes more a b =
      a.spelled
      ∙ ap (λ (form : Form). checked (carries_pec device device.pec)
      (write_address device.address ∷ body ++ read_address device.address ∷ []) (wire form reply))
      (one_form a.form b.form body a.asked b.asked)
      ∙ sym b.spelled

  one_ask : (state : DeviceState) (earlier : List Leg) (leg : Leg) (result other : DeviceSignal)
      → AnswersAsk device state earlier leg result → AnswersAsk device state earlier leg other → result ≡ other
  one_ask state earlier leg result other (replies address bytes sent_is body asked reply all ok spelled is)
      (replies first rest sent_also second also content more same spelling too) =
      let body_is : second ≡ body = same_asked device earlier second body also.asked asked.asked in
      let oks : Ok content ≡ Ok reply = sym same ∙ ap (answer device state) body_is ∙ ok in
      let reply_is : content ≡ reply = cc oks in
      let here : IsReplyTo device body reply more =
      subst (λ (bytes : List ℕ). IsReplyTo device body bytes more) reply_is
      (subst (λ (bytes : List ℕ). IsReplyTo device bytes content more) body_is spelling) in
      is
      ∙ ap (λ (bytes : List ℕ). next_of device bytes (behind_address leg))
      (one_reply body reply all more spelled here)
      ∙ sym too
  one_ask state earlier leg result other (replies address bytes sent_is body asked reply all ok spelled is)
      (not_read never too) =
      absurd (never address bytes sent_is body asked reply ok)
  one_ask state earlier leg result other (not_read never is)
      (replies address bytes sent_is body asked reply all ok spelled too) =
      absurd (never address bytes sent_is body asked reply ok)
  one_ask state earlier leg result other (not_read never is) (not_read nor too) = is ∙ sym too

  -- ---- to each signal

  pub one_answer : (state : DeviceState) (legs : Legs) (signal : HostSignal) (result other : DeviceSignal)
      → Answers device state legs signal result → Answers device state legs signal other → result ≡ other
  one_answer state Outside signal result other a b = a ∙ sym b
  one_answer state (Inside earlier leg) Start result other a b = a ∙ sym b
  one_answer state (Inside earlier leg) (Byte byte) result other a b =
      one_byte device state earlier (sent leg) byte result other a b
  one_answer state (Inside earlier leg) Ask result other a b = one_ask state earlier leg result other a b
  one_answer state (Inside earlier leg) Ack result other a b = a ∙ sym b
  one_answer state (Inside earlier leg) Nack result other a b = a ∙ sym b
  one_answer state (Inside earlier leg) Stop result other a b = a ∙ sym b
