-- What a transaction does to the state of a simulated device.
--
-- In PMBus Part II 1.3, PAGE is in section 11.10, CLEAR_FAULTS in section 15.1, how the bits of a
-- status register are cleared in section 10.2, STATUS_CML in chapter 17, and WRITE_PROTECT in section
-- 11.1. That a device keeps what is written to it, and acts in no other way, is this project's own
-- rule, and so is what becomes of a write that is disabled. What a device takes at other addresses than
-- its own, and when, is this project's own rule too.
use Rattle.std.specs.Prelude.{ℕ, ◌-◌, Bool, true, false, ◌&&◌, ◌||◌, if◌then◌else◌, Option, Some, None, Result}
use Rattle.std.specs.Prelude.{Ok, Err, List, [], ◌∷◌, is_some, map, nat_eq}
use Rattle.std.specs.List.{find}
use Rattle.std.specs.Int.Bits.{bit_and, bit_or}
use Rattle.pmb_command.specs.declared.form.Form.TheVariants.{Zero}
use Rattle.pmb_command.specs.Fitting.{is_form, is_status_kind}
use Rattle.pmb_command.specs.Forms.{has_write}
use Rattle.pmb_command.specs.Parts.{CommandParts, DeviceParts, command_with}
use Rattle.pmb_transaction.specs.Transaction.{PartData, RefusedData, TransactionData, Write, Read, Call, Refused, Alert}
use Rattle.pmb_transaction.specs.Transaction.{NoAlert}
use Rattle.pmb_transaction.specs.Body.{forms}
use Rattle.pmb_registers.specs.declared.cml_bit.CmlBit.{CmlBit}
use Rattle.pmb_registers.specs.declared.cml_bit.CmlBit.TheVariants.{BadCommand, BadValue, PecFailed}
use Rattle.pmb_registers.specs.State.{RegisterData, DeviceState}
use Rattle.pmb_registers.specs.Answer.{all_pages, answer}
use Rattle.pmb_registers.specs.Protection.{is_enabled}

-- ---- which registers a write reaches

-- A write reaches the register of the selected page, or that of each page where ffh is selected. It
-- always reaches a register that all pages share.
abbrev pub reaches : ℕ → Option ℕ → Bool
reaches selected None = true
reaches selected (Some page) = nat_eq selected all_pages || nat_eq selected page

-- A register changes if its code is one of these and it is reached. Any other stays as it was.
abbrev pub changed_one : ℕ → (ℕ → Bool) → (List ℕ → List ℕ) → RegisterData → RegisterData
changed_one selected codes change r = if codes r.code
    && reaches selected r.page then record r { bytes = change r.bytes } else r

-- all registers after such a change
abbrev pub changed : ℕ → (ℕ → Bool) → (List ℕ → List ℕ) → List RegisterData → List RegisterData
changed selected codes change registers = map (changed_one selected codes change) registers

-- ---- what a write does

abbrev pub holds_status : Option CommandParts → Bool
holds_status None = false
holds_status (Some command) = is_status_kind command.entry.kind

-- the command of a code has status bits
abbrev pub is_status : DeviceParts → ℕ → Bool
is_status device code = holds_status (command_with code device.commands)

-- Status bits that are written as 1 are cleared, the others stay.
abbrev pub cleared_bits : List ℕ → List ℕ → List ℕ
cleared_bits written [] = []
cleared_bits [] (byte ∷ bytes) = byte ∷ bytes
cleared_bits (mask ∷ masks) (byte ∷ bytes) = bit_and byte (255 - mask) ∷ cleared_bits masks bytes

-- the page that a write of PAGE selects
abbrev pub selected_by : ℕ → List ℕ → ℕ
selected_by page [] = page
selected_by page (byte ∷ bytes) = byte

-- What a complete write does that is enabled, by its code and data. PAGE selects a page, and its
-- register holds it. CLEAR_FAULTS makes the bits of all status registers 0. Another write without data
-- does nothing. A status register loses the bits that are written as 1, and any other takes the bytes.
abbrev pub after_enabled : DeviceParts → ℕ → List ℕ → DeviceState → DeviceState
after_enabled device code bytes state =
    if nat_eq code 0x00 then record {
      page = selected_by state.page bytes;
      registers =
          changed state.page (nat_eq code) (λ old. bytes) state.registers;
    }
    else if nat_eq code 0x03 then record state
    { registers = changed state.page (is_status device) (map (λ byte. 0)) state.registers }
    else if is_form Zero (forms device code).write then state
    else if is_status device code then record state
    { registers = changed state.page (nat_eq code) (cleared_bits bytes) state.registers }
    else record state { registers = changed state.page (nat_eq code) (λ old. bytes) state.registers }

-- ---- what a refusal does

-- the value of a bit of STATUS_CML
abbrev pub bit_value : CmlBit → ℕ
bit_value BadCommand = 0x80
bit_value BadValue = 0x40
bit_value PecFailed = 0x20

-- A bit of STATUS_CML is set, where the device has that register and it can be read.
abbrev pub with_bit : DeviceParts → CmlBit → DeviceState → DeviceState
with_bit device bit state =
    if is_some (forms device 0x7e).read
    then record state {
      registers = changed state.page (nat_eq 0x7e) (map (λ byte. bit_or byte (bit_value bit)))
          state.registers;
    }
    else state

-- What a complete write does. One that WRITE_PROTECT disables sets a bit of STATUS_CML, and does nothing
-- else.
abbrev pub after_write : DeviceParts → ℕ → List ℕ → DeviceState → DeviceState
after_write device code bytes state =
    if is_enabled device state code bytes then after_enabled device code bytes state
    else with_bit device BadValue state

abbrev pub with_noted : DeviceParts → Option CmlBit → DeviceState → DeviceState
with_noted device None state = state
with_noted device (Some bit) state = with_bit device bit state

-- The bit for bytes after an address, the last of which was refused: the code, the value of PAGE,
-- or a byte where the packet error code has to be.
abbrev pub bit_of_sent : List ℕ → Option CmlBit
bit_of_sent [] = None
bit_of_sent (code ∷ []) = Some BadCommand
bit_of_sent (code ∷ byte ∷ []) = if nat_eq code 0x00 then Some BadValue else Some PecFailed
bit_of_sent (code ∷ byte ∷ next ∷ bytes) = Some PecFailed

-- the bit of an answer that is a refusal
abbrev pub bit_of_answer : Result (List ℕ) CmlBit → Option CmlBit
bit_of_answer (Ok reply) = None
bit_of_answer (Err bit) = Some bit

-- the bit for a refused leg: a byte that was sent was refused, or the address of a read
abbrev pub bit_of_refused : DeviceParts → DeviceState → List ℕ → Bool → Option CmlBit
bit_of_refused device state sent false = bit_of_sent sent
bit_of_refused device state sent true = bit_of_answer (answer device state sent)

-- ---- what a write at another address does

-- What a complete write does that came to another address: the same as at the device's own, where the device
-- has such a write, and else nothing.
abbrev pub after_other : DeviceParts → ℕ → List ℕ → DeviceState → DeviceState
after_other device code bytes state = if has_write device code bytes then after_write device code bytes state else state

-- the first of complete parts that came to an address
abbrev pub part_to : ℕ → List PartData → Option PartData
part_to address parts = find (λ part. nat_eq part.addr address) parts

-- ---- what a transaction does

module _ (device : DeviceParts) where
  -- a complete part, if it is the device's
  abbrev pub after_part : PartData → DeviceState → DeviceState
  after_part part state = if nat_eq part.addr device.address then after_write device part.code part.bytes state else
      state

  -- complete parts, in their order
  abbrev pub after_parts : List PartData → DeviceState → DeviceState
  after_parts [] state = state
  after_parts (part ∷ parts) state = after_parts parts (after_part part state)

  -- A leg that the device refused sets a bit of STATUS_CML, and does nothing else.
  abbrev pub after_refusal : RefusedData → DeviceState → DeviceState
  after_refusal t state =
      if nat_eq t.addr device.address then with_noted device (bit_of_refused device state t.sent t.at_read) state else
      state

  -- what was written at an address, if anything, where that is not the device's own
  abbrev pub after_at : ℕ → Option PartData → DeviceState → DeviceState
  after_at address None state = state
  after_at address (Some part) state = if nat_eq address device.address then state else
      after_other device part.code part.bytes state

  -- complete parts at other addresses, in the order of these
  abbrev pub after_others : List ℕ → List PartData → DeviceState → DeviceState
  after_others [] parts state = state
  after_others (address ∷ also) parts state =
      after_others also parts (after_at address (part_to address parts) state)

  -- What a transaction makes of a device's state: each complete part acts, and a refused leg is
  -- noted; and then the parts that came to its other addresses act. A read, a call and the answer to
  -- an alert change nothing.
  abbrev pub apply : TransactionData → DeviceState → DeviceState
  apply (Write parts) state = after_others device.also parts (after_parts parts state)
  apply (Read t) state = state
  apply (Call t) state = state
  apply (Refused t) state = after_others device.also t.parts (after_refusal t (after_parts t.parts state))
  apply (Alert t) state = state
  apply NoAlert state = state

  -- transactions, in their order
  abbrev pub apply_all : List TransactionData → DeviceState → DeviceState
  apply_all [] state = state
  apply_all (t ∷ ts) state = apply_all ts (apply t state)
