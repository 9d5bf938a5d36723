-- What a request comes to on a bus of simulated devices: the transaction that is recorded, and how the
-- host tells that it ended.
--
-- A request that a host was made for is refused in two ways alone: a device takes no value of PAGE but
-- one of its pages or ffh, and it may refuse to be read. Which they are is this project's own rule.
use Rattle.std.specs.Prelude.{◌≡◌, ◌≢◌, ℕ, ◌≤◌, ◌+◌, Bool, true, false, Option, Some, None, Result, Ok, Err, List, []}
use Rattle.std.specs.Prelude.{◌∷◌, ◌++◌, length}
use Rattle.std.specs.List.{AllByRecursion, Contains}
use Rattle.pmb_command.specs.declared.form.Form.{Form}
use Rattle.pmb_command.specs.Parts.{DeviceParts}
use Rattle.pmb_transaction.specs.Transaction.{PartData, TransactionData, Write, Read, Call, Refused, Alert, NoAlert}
use Rattle.pmb_transaction.specs.Body.{CallBody}
use Rattle.pmb_registers.specs.declared.cml_bit.CmlBit.{CmlBit}
use Rattle.pmb_registers.specs.State.{InState}
use Rattle.pmb_registers.specs.Answer.{all_pages, answer}
use Rattle.pmb_value.specs.declared.number_format.NumberFormat.{NumberFormat}
use Rattle.pmb_host.specs.declared.step.HostFault.TheVariants as faults
use Rattle.pmb_host.specs.declared.step.HostStep.{HostStep}
use Rattle.pmb_host.specs.declared.step.HostStep.TheVariants.{Done, Failed}
use Rattle.pmb_host.specs.declared.step.Reply.{Reply}
use Rattle.pmb_value.specs.WordFault.{value_in}
use Rattle.pmb_host.specs.Steps.{ReplyData, AllWritten, AllBytes, reply_data, told_word}
use Rattle.pmb_host.specs.Task.{replied, word_bytes}

-- A device of the bus has an address.
pub record IsAt (members : List InState) (address : ℕ) (member : InState) : Type 0 where
  pub one_of : Contains members member
  pub address_is : member.device.address ≡ address

module _ (members : List InState) where
  -- ---- what is written

  -- The part writes PAGE, and the value is neither a page of its device nor ffh.
  pub record WritesNoPage (part : PartData) : Type 0 where
    pub member : InState
    pub is_at : IsAt members part.addr member
    pub value : ℕ
    pub page : part.code ≡ 0x00
    pub bytes_are : part.bytes ≡ value ∷ []
    pub too_large : member.device.pages ≤ value
    pub not_all : value ≢ all_pages

  abbrev pub IsTaken : PartData → Type 0
  IsTaken part = WritesNoPage part → ⊥

  -- ---- what is read

  -- The body with which a read or a call asks a device.
  abbrev pub AsksWith : DeviceParts → TransactionData → List ℕ → Type 0
  AsksWith device (Write parts) body = ⊥
  AsksWith device (Read t) body = body ≡ t.code ∷ []
  AsksWith device (Call t) body = (form : Form) × CallBody device t.code form t.bytes body
  AsksWith device (Refused t) body = ⊥
  AsksWith device (Alert t) body = ⊥
  AsksWith device NoAlert body = ⊥

  -- the device that a read or a call asks
  abbrev pub asked_address : TransactionData → Option ℕ
  asked_address (Write parts) = None
  asked_address (Read t) = Some t.addr
  asked_address (Call t) = Some t.addr
  asked_address (Refused t) = None
  asked_address (Alert t) = None
  asked_address NoAlert = None

  -- A device is asked, with this body, and answers this.
  pub record IsAnswered (task : TransactionData) (address : ℕ) (body : List ℕ) (result : Result (List ℕ) CmlBit) : Type
      0 where
    pub asked : asked_address task ≡ Some address
    pub member : InState
    pub is_at : IsAt members address member
    pub asks : AsksWith member.device task body
    pub answers : answer member.device member.state body ≡ result

  -- ---- the exchange

  -- What is recorded of the transaction that a request asks for: that write, where each part is taken;
  -- up to the first part that is not, a refused packet; a read or a call with the device's reply, or a
  -- refused one where the device refuses to be read.
  pub data Exchanges (task done : TransactionData) : Type 0 where
    written : (parts : List PartData) → task ≡ Write parts → AllByRecursion IsTaken parts → done ≡ Write parts
        → Exchanges task done
    part_refused : (before : List PartData) (part : PartData) (behind : List PartData)
        → task ≡ Write (before ++ part ∷ behind)
        → AllByRecursion IsTaken before → WritesNoPage part
        → done ≡ Refused (record { parts = before; addr = part.addr; sent = part.code ∷ part.bytes; at_read = false })
        → Exchanges task done
    answered : (address : ℕ) (body reply : List ℕ) → IsAnswered task address body (Ok reply) → done ≡ replied task reply
        → Exchanges task done
    read_refused : (address : ℕ) (body : List ℕ) (bit : CmlBit) → IsAnswered task address body (Err bit)
        → done ≡ Refused (record { parts = []; addr = address; sent = body; at_read = true }) → Exchanges task done

-- ---- what the host tells

-- the bytes of a reply, or the value of the word that they are
pub data IsReplyTold (number : Option NumberFormat) (reply : List ℕ) (told : ReplyData) : Type 0 where
  bytes : number ≡ None → told ≡ AllBytes reply → IsReplyTold number reply told
  value : (format : NumberFormat) (word : ℕ) → number ≡ Some format → reply ≡ word_bytes word
      → told ≡ told_word (value_in format word)
      → IsReplyTold number reply told

-- where the last byte sent was refused: the leg counts from 1, and in it the bytes from 0, the address
-- among them
abbrev pub RefusedAt : List PartData → List ℕ → Bool → HostStep → Type 0
RefusedAt parts sent true step = step ≡ Failed (faults.Refused 2 0 true)
RefusedAt parts sent false step = step ≡ Failed (faults.Refused (length parts + 1) (length sent) false)

-- how the host ends that exchanged this transaction
abbrev pub EndsWith : Option NumberFormat → TransactionData → HostStep → Type 0
EndsWith number (Write parts) step = (reply : Reply) × (step ≡ Done reply) × (reply_data reply ≡ AllWritten)
EndsWith number (Read t) step = (reply : Reply) × (step ≡ Done reply) × IsReplyTold number t.reply (reply_data reply)
EndsWith number (Call t) step = (reply : Reply) × (step ≡ Done reply) × IsReplyTold number t.reply (reply_data reply)
EndsWith number (Refused t) step = RefusedAt t.parts t.sent t.at_read step
EndsWith number (Alert t) step = ⊥
EndsWith number NoAlert step = ⊥
