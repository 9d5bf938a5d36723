-- The signals with which a host does what a transaction asks for.
--
-- Of a written leg they are START and its bytes, which the device acknowledges. To read, the
-- address for reading has a leg of its own, and after it an Ask stands for each byte of the reply,
-- with ACK after it, but after the last one NACK (SMBus 3.0 section 6.5).
use Rattle.std.specs.Prelude.{◌≡◌, ℕ, Bool, false, if◌then◌else◌, Option, Some, None, List, [], ◌∷◌, ◌++◌, length, map}
use Rattle.std.specs.Prelude.{flat_map, slice_get}
use Rattle.pmb_bus.specs.Address.{write_address, read_address}
use Rattle.pmb_command.specs.declared.form.Form.{Form}
use Rattle.pmb_command.specs.Parts.{DeviceParts}
use Rattle.pmb_command.specs.Wire.{Fits, wire}
use Rattle.pmb_transaction.specs.Transaction.{PartData, TransactionData, Write, Read, Call, Refused, Alert, NoAlert}
use Rattle.pmb_transaction.specs.Body.{checked}
use Rattle.pmb_writer.specs.Invalid.{forms_at}
use Rattle.pmb_device.specs.declared.signal.HostSignal.{HostSignal}
use Rattle.pmb_device.specs.declared.signal.HostSignal.TheVariants.{Start, Byte, Ask, Ack, Nack, Stop}

-- ---- what is written

-- the wire of data, where there is a form
abbrev pub wire_in : Option Form → List ℕ → List ℕ
wire_in None bytes = bytes
wire_in (Some form) bytes = wire form bytes

module _ (profile : List DeviceParts) where
  -- the bytes of a part: those of its leg, with its packet error code where it carries one
  abbrev pub part_bytes : PartData → List ℕ
  part_bytes part =
      write_address part.addr
      ∷ checked part.pec (write_address part.addr ∷ [])
      (part.code ∷ wire_in (forms_at profile part.addr part.code).write part.bytes)

  -- the bytes of each leg that is written; no host is asked for another transaction
  abbrev pub legs_of : TransactionData → List (List ℕ)
  legs_of (Write parts) = map part_bytes parts
  legs_of (Read t) = (write_address t.addr ∷ t.code ∷ []) ∷ (read_address t.addr ∷ []) ∷ []
  legs_of (Call t) =
      (write_address t.addr ∷ t.code ∷ wire_in (forms_at profile t.addr t.code).call t.bytes)
      ∷ (read_address t.addr ∷ []) ∷ []
  legs_of (Refused t) = []
  legs_of (Alert t) = []
  legs_of NoAlert = []

  -- the form of the data in a written leg, of which the first is leg 0
  abbrev pub part_form : Option PartData → Option Form
  part_form None = None
  part_form (Some part) = (forms_at profile part.addr part.code).write

  abbrev pub leg_form : TransactionData → ℕ → Option Form
  leg_form (Write parts) leg = part_form (slice_get parts leg)
  leg_form (Read t) leg = None
  leg_form (Call t) leg = (forms_at profile t.addr t.code).call
  leg_form (Refused t) leg = None
  leg_form (Alert t) leg = None
  leg_form NoAlert leg = None

  -- the form of the reply
  abbrev pub reply_form : TransactionData → Option Form
  reply_form (Write parts) = None
  reply_form (Read t) = (forms_at profile t.addr t.code).read
  reply_form (Call t) = (forms_at profile t.addr t.code).call
  reply_form (Refused t) = None
  reply_form (Alert t) = None
  reply_form NoAlert = None

-- a packet error code follows the reply
abbrev pub reply_has_pec : TransactionData → Bool
reply_has_pec (Write parts) = false
reply_has_pec (Read t) = t.pec
reply_has_pec (Call t) = t.pec
reply_has_pec (Refused t) = false
reply_has_pec (Alert t) = false
reply_has_pec NoAlert = false

-- ---- what is read

-- Bytes are all that is read: the wire of data in the form, and where a packet error code was asked
-- for one more byte, right or wrong.
pub record AreAll (form : Form) (with_pec : Bool) (bytes : List ℕ) : Type 0 where
  pub reply : List ℕ
  pub code : List ℕ
  pub fits : Fits form reply
  pub one : length code ≡ (if with_pec then 1 else 0)
  pub spelled : bytes ≡ wire form reply ++ code

-- where nothing is to be read there are none
abbrev pub AreRead : Option Form → Bool → List ℕ → Type 0
AreRead None with_pec bytes = bytes ≡ []
AreRead (Some form) with_pec bytes = AreAll form with_pec bytes

-- The bytes that were read say a reply, with the right packet error code where one was asked for:
-- that covers the bytes of both legs before it too.
pub record SayReply (form : Form) (with_pec : Bool) (before : List ℕ) (reply : List ℕ) (bytes : List ℕ) : Type 0 where
  pub fits : Fits form reply
  pub spelled : bytes ≡ checked with_pec before (wire form reply)

abbrev pub Say : Option Form → Bool → List ℕ → List ℕ → List ℕ → Type 0
Say None with_pec before reply bytes = (reply ≡ []) × (bytes ≡ [])
Say (Some form) with_pec before reply bytes = SayReply form with_pec before reply bytes

-- ---- the signals

-- those of a leg
abbrev pub leg_signals : List ℕ → List HostSignal
leg_signals bytes = Start ∷ map Byte bytes

-- those with which bytes are read
abbrev pub reading_signals : List ℕ → List HostSignal
reading_signals [] = []
reading_signals (b ∷ []) = Ask ∷ Nack ∷ []
reading_signals (b ∷ c ∷ bytes) = Ask ∷ Ack ∷ reading_signals (c ∷ bytes)

-- all, where the last bytes are those that are read
abbrev pub signals : List (List ℕ) → List ℕ → List HostSignal
signals legs bytes = flat_map leg_signals legs ++ (reading_signals bytes ++ Stop ∷ [])
