-- What a simulated device answers to a signal of the host.
--
-- The packets are those of SMBus 3.0 section 6.5 and PMBus Part I 1.3 section 5.2; which of them a
-- device takes, and that it is silent to all else, is this project's own rule.
use Rattle.std.specs.Prelude.{◌≡◌, ℕ, ◌<◌, ◌⊎◌, ◌+◌, Bool, true, false, ◌||◌, if◌then◌else◌, Option, Some, None, Result}
use Rattle.std.specs.Prelude.{Ok, Err, List, [], ◌∷◌, ◌++◌, slice_get}
use Rattle.pmb_command.specs.declared.form.Form.{Form}
use Rattle.pmb_command.specs.declared.pec_mode.PecMode.{PecMode}
use Rattle.pmb_command.specs.declared.pec_mode.PecMode.TheVariants.{Off, On, Optional}
use Rattle.pmb_command.specs.Parts.{DeviceParts}
use Rattle.pmb_command.specs.Wire.{wire}
use Rattle.pmb_bus.specs.Address.{write_address, read_address}
use Rattle.pmb_transaction.specs.Body.{checked, IsProperPrefix, IsWriteBody, IsFormOfRequest, IsRequest}
use Rattle.pmb_transaction.specs.Reason.{Whether}
use Rattle.pmb_registers.specs.declared.cml_bit.CmlBit.{CmlBit}
use Rattle.pmb_registers.specs.State.{DeviceState}
use Rattle.pmb_registers.specs.Answer.{all_pages, answer}
use Rattle.pmb_leg.specs.declared.place.LegPlace.{LegPlace}
use Rattle.pmb_leg.specs.declared.place.LegPlace.TheVariants.{First, Later}
use Rattle.pmb_device.specs.declared.signal.HostSignal.{HostSignal}
use Rattle.pmb_device.specs.declared.signal.HostSignal.TheVariants.{Start, Byte, Ask, Ack, Nack, Stop}
use Rattle.pmb_device.specs.declared.signal.DeviceSignal.{DeviceSignal}
use Rattle.pmb_device.specs.declared.signal.DeviceSignal.TheVariants as answers
use Rattle.pmb_device.specs.Legs.{Leg, Legs, Outside, Inside, behind_address, sent, some_is_to, leg_place}

module _ (device : DeviceParts) where
  -- ---- bytes of a leg that is written

  -- In the packet's first leg a body of each sort is allowed, in a later one a write body.
  abbrev pub AllowedAt : LegPlace → List ℕ → Type 0
  AllowedAt First body = IsWriteBody device body ⊎ IsRequest device body
  AllowedAt Later body = IsWriteBody device body

  -- bytes that begin a body that is allowed there
  abbrev pub BeginsAt : LegPlace → List ℕ → Type 0
  BeginsAt place bytes = (body : List ℕ) × (rest : List ℕ) × AllowedAt place body × (body ≡ bytes ++ rest)

  -- Some byte has a place after these: they are none, or begin a body that is longer.
  abbrev pub GoesOn : LegPlace → List ℕ → Type 0
  GoesOn place bytes = (bytes ≡ []) ⊎ ((body : List ℕ) × AllowedAt place body × IsProperPrefix bytes body)

  -- The value of PAGE is a page of the device, or ffh for all of them.
  abbrev pub IsPageValue : List ℕ → ℕ → Type 0
  IsPageValue bytes byte = bytes ≡ 0x00 ∷ [] → (byte < device.pages) ⊎ (byte ≡ all_pages)

  -- The device takes a byte after some that it took: a body that is allowed there begins so, and a
  -- page is there.
  pub record TakesByte (place : LegPlace) (bytes : List ℕ) (byte : ℕ) : Type 0 where
    pub begins : BeginsAt place (bytes ++ byte ∷ [])
    pub page : IsPageValue bytes byte

  -- It takes each of some bytes, after those that it took.
  abbrev pub TakesAll : LegPlace → List ℕ → List ℕ → Type 0
  TakesAll place taken [] = Unit {0}
  TakesAll place taken (byte ∷ bytes) = TakesByte place taken byte × TakesAll place (taken ++ byte ∷ []) bytes

  -- ---- whose leg it is

  -- The leg is written to the device: it begins with the device's address for writing, and no leg
  -- before it in the packet did.
  pub record IsWritten (earlier : List Leg) (address : ℕ) : Type 0 where
    pub own : address ≡ write_address device.address
    pub once : some_is_to (write_address device.address) earlier ≡ false

  -- The device is asked: the body of a read or of a call is in the packet's first leg, which is
  -- written to it.
  pub record IsAsked (earlier : List Leg) (body : List ℕ) : Type 0 where
    pub first : Leg
    pub alone : earlier ≡ first ∷ []
    pub own : sent first ≡ write_address device.address ∷ body
    pub request : IsRequest device body

  -- The leg reads the device: it begins with the device's address for reading, directly after the
  -- packet's first leg, in which the device is asked.
  pub record IsRead (earlier : List Leg) (address : ℕ) (body : List ℕ) : Type 0 where
    pub own : address ≡ read_address device.address
    pub asked : IsAsked earlier body

  -- ---- bytes of a leg that is read

  -- the bytes of a reply: its wire, and the packet error code where the mode allows one
  abbrev pub carries_pec : PecMode → Bool
  carries_pec Off = false
  carries_pec On = true
  carries_pec Optional = true

  -- the bytes of a reply: its wire, and that code
  pub record IsReplyTo (body : List ℕ) (reply : List ℕ) (bytes : List ℕ) : Type 0 where
    pub form : Form
    pub asked : IsFormOfRequest device form body
    pub spelled : bytes ≡ checked (carries_pec device.pec)
        (write_address device.address ∷ body ++ read_address device.address ∷ []) (wire form reply)

  -- the host ended the reply by NACK
  abbrev pub is_ended : Leg → Bool
  is_ended [] = false
  is_ended (Start ∷ leg) = is_ended leg
  is_ended (Byte b ∷ leg) = is_ended leg
  is_ended (Ask ∷ leg) = is_ended leg
  is_ended (Ack ∷ leg) = is_ended leg
  is_ended (Nack ∷ leg) = true
  is_ended (Stop ∷ leg) = is_ended leg

  -- Whether the last byte asked for still waits for the host's ACK after some signals, and how many
  -- are given in them: one for each Ask that does not come while another one waits.
  abbrev pub waits_behind : Bool → Leg → Bool
  waits_behind waiting [] = waiting
  waits_behind waiting (Start ∷ leg) = waits_behind waiting leg
  waits_behind waiting (Byte b ∷ leg) = waits_behind waiting leg
  waits_behind waiting (Ask ∷ leg) = waits_behind true leg
  waits_behind waiting (Ack ∷ leg) = waits_behind false leg
  waits_behind waiting (Nack ∷ leg) = waits_behind waiting leg
  waits_behind waiting (Stop ∷ leg) = waits_behind waiting leg

  abbrev pub given_behind : Bool → Leg → ℕ
  given_behind waiting [] = 0
  given_behind waiting (Start ∷ leg) = given_behind waiting leg
  given_behind waiting (Byte b ∷ leg) = given_behind waiting leg
  given_behind true (Ask ∷ leg) = given_behind true leg
  given_behind false (Ask ∷ leg) = 1 + given_behind true leg
  given_behind waiting (Ack ∷ leg) = given_behind false leg
  given_behind waiting (Nack ∷ leg) = given_behind waiting leg
  given_behind waiting (Stop ∷ leg) = given_behind waiting leg

  abbrev pub byte_or_silent : Option ℕ → DeviceSignal
  byte_or_silent None = answers.Silent
  byte_or_silent (Some byte) = answers.Byte byte

  -- What an Ask gets after an address and some signals, in a leg with a reply of these bytes: the
  -- next byte, unless one waits for its ACK, the host ended the reply, or all were given.
  abbrev pub next_of : List ℕ → Leg → DeviceSignal
  next_of bytes leg =
      if is_ended leg || waits_behind false leg then answers.Silent else byte_or_silent
      (slice_get bytes (given_behind false leg))

  -- ---- answers

  -- to a byte after an address, where the leg is written to the device
  abbrev pub AnswersWritten : LegPlace → List ℕ → ℕ → DeviceSignal → Type 0
  AnswersWritten place bytes byte result =
      Whether (TakesAll place [] bytes) (Whether (TakesByte place bytes byte) (result ≡ answers.Ack)
      (result ≡ answers.Nack)) (result ≡ answers.Silent)

  -- to its own address for reading
  abbrev pub taken_or_not : Result (List ℕ) CmlBit → DeviceSignal
  taken_or_not (Ok reply) = answers.Ack
  taken_or_not (Err bit) = answers.Nack

  -- to a leg's first byte
  pub data AnswersAddress (state : DeviceState) (earlier : List Leg) (address : ℕ)
      (result : DeviceSignal) : Type 0 where
    written : IsWritten earlier address → result ≡ answers.Ack → AnswersAddress state earlier address result
    read : (body : List ℕ) → IsRead earlier address body → result ≡ taken_or_not (answer device state body)
        → AnswersAddress state earlier address result
    others : (IsWritten earlier address → ⊥) → ((body : List ℕ) → IsRead earlier address body → ⊥)
        → result ≡ answers.Silent
        → AnswersAddress state earlier address result

  -- to a byte in a leg in which some bytes were sent: an address, or one after it
  abbrev pub AnswersByte : DeviceState → List Leg → List ℕ → ℕ → DeviceSignal → Type 0
  AnswersByte state earlier [] byte result = AnswersAddress state earlier byte result
  AnswersByte state earlier (address ∷ bytes) byte result =
      Whether (IsWritten earlier address) (AnswersWritten (leg_place earlier) bytes byte result)
      (result ≡ answers.Silent)

  -- To an Ask: a byte of the reply where the leg reads the device and it did not refuse.
  pub data AnswersAsk (state : DeviceState) (earlier : List Leg) (leg : Leg) (result : DeviceSignal) : Type 0 where
    replies : (address : ℕ) (bytes : List ℕ) → sent leg ≡ address ∷ bytes → (body : List ℕ)
        → IsRead earlier address body
        → (reply all : List ℕ) → answer device state body ≡ Ok reply → IsReplyTo body reply all
        → result ≡ next_of all (behind_address leg)
        → AnswersAsk state earlier leg result
    not_read : ((address : ℕ) (bytes : List ℕ) → sent leg ≡ address ∷ bytes → (body : List ℕ)
        → IsRead earlier address body
        → (reply : List ℕ) → answer device state body ≡ Ok reply → ⊥) → result ≡ answers.Silent
        → AnswersAsk state earlier leg result

  -- What the device answers to a signal after those of a packet, in its state since the last STOP.
  -- Outside of legs it is silent, and to START, ACK, NACK and STOP.
  abbrev pub Answers : DeviceState → Legs → HostSignal → DeviceSignal → Type 0
  Answers state Outside signal result = result ≡ answers.Silent
  Answers state (Inside earlier leg) Start result = result ≡ answers.Silent
  Answers state (Inside earlier leg) (Byte b) result = AnswersByte state earlier (sent leg) b result
  Answers state (Inside earlier leg) Ask result = AnswersAsk state earlier leg result
  Answers state (Inside earlier leg) Ack result = result ≡ answers.Silent
  Answers state (Inside earlier leg) Nack result = result ≡ answers.Silent
  Answers state (Inside earlier leg) Stop result = result ≡ answers.Silent
