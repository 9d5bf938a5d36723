-- Which requests no host can be made for: the rules that a request has to keep, in their order.
use Rattle.std.specs.Prelude.{◌≡◌, ◌≢◌, ℕ, Option, Some, None, Result, Ok, Err, List, [], ◌∷◌, IfSome}
use Rattle.pmb_command.specs.declared.form.Form.{Form}
use Rattle.pmb_command.specs.declared.form.Form.TheVariants.{Zero}
use Rattle.pmb_command.specs.Parts.{CommandParts, DeviceParts, command_with, device_with}
use Rattle.pmb_command.specs.Wire.{Fits}
use Rattle.pmb_format.specs.Coding.{IsAbove, IsBelow, IsInRange, IsNearest}
use Rattle.pmb_format.specs.declared.format.RangeFault.TheVariants.{Below, Above}
use Rattle.pmb_quantity.specs.Fraction.{Fraction}
use Rattle.pmb_transaction.specs.Transaction.{Write}
use Rattle.pmb_writer.specs.declared.invalid.Invalid.{Invalid}
use Rattle.pmb_writer.specs.declared.invalid.Invalid.TheVariants.{NotAllowed, PecMode}
use Rattle.pmb_writer.specs.Invalid.{AreKept, HasPacket, IsFirstBroken, IsFirstFault, Rule, allows_form, fits_form}
use Rattle.pmb_writer.specs.Invalid.{forms_at, has_command, has_device, keeps_mode, rule_unless}
use Rattle.pmb_value.specs.declared.number_format.NumberFormat.{NumberFormat}
use Rattle.pmb_host.specs.declared.step.HostFault.{HostFault}
use Rattle.pmb_host.specs.declared.step.HostFault.TheVariants as faults
use Rattle.pmb_value.specs.NumberFormat.{number_coding}
use Rattle.pmb_host.specs.Number.{number_of}
use Rattle.pmb_request.specs.Request.{Command, RequestData, WriteParts, ReadBytes, CallBytes, Set, Get}

-- some form, and not the one without data
abbrev pub HasData : Option Form → Type 0
HasData None = ⊥
HasData (Some form) = form ≢ Zero

-- The quantity is on this side of a format's range.
pub data IsOutside (number : NumberFormat) (value : Fraction) (fault : HostFault) : Type 0 where
  below : IsBelow (number_coding number) value → fault ≡ faults.Range Below → IsOutside number value fault
  above : IsAbove (number_coding number) value → fault ≡ faults.Range Above → IsOutside number value fault

module _ (profile : List DeviceParts) where
  -- ---- rules about the command

  abbrev pub read_rules : Command → List Rule
  read_rules c =
      has_device profile c.addr
      ∷ has_command profile c.addr c.code
      ∷ allows_form (forms_at profile c.addr c.code).read
      ∷ keeps_mode profile c.addr c.pec
      ∷ []

  abbrev pub call_rules : Command → List ℕ → List Rule
  call_rules c bytes =
      has_device profile c.addr
      ∷ has_command profile c.addr c.code
      ∷ allows_form (forms_at profile c.addr c.code).call
      ∷ fits_form (forms_at profile c.addr c.code).call (λ form. Fits form bytes)
      ∷ keeps_mode profile c.addr c.pec
      ∷ []

  -- a quantity is set where data are written, and got where some are read
  abbrev pub set_rules : Command → List Rule
  set_rules c =
      has_device profile c.addr
      ∷ has_command profile c.addr c.code
      ∷ rule_unless NotAllowed (HasData (forms_at profile c.addr c.code).write)
      ∷ []

  abbrev pub get_rules : Command → List Rule
  get_rules c =
      has_device profile c.addr
      ∷ has_command profile c.addr c.code
      ∷ allows_form (forms_at profile c.addr c.code).read
      ∷ []

  -- the first rule that is broken has this fault
  abbrev pub IsRefusedBy : List Rule → HostFault → Type 0
  IsRefusedBy rules fault = (invalid : Invalid) × (fault ≡ faults.Invalid invalid) × IsFirstBroken rules invalid

  -- ---- rules about the number

  -- The command's number format under a VOUT_MODE is this, or there is none for this reason.
  pub record IsNumber (c : Command) (mode : Option ℕ) (number : Result NumberFormat HostFault) : Type 0 where
    pub device : DeviceParts
    pub command : CommandParts
    pub known : device_with c.addr profile ≡ Some device
    pub has : command_with c.code device.commands ≡ Some command
    pub number_is : number ≡ number_of device.vout_direct mode command.entry.kind

  -- After the rules about the command come these, in this order: its data are no quantity; the packet
  -- error code is not allowed; there is no format for the number.
  pub data HasNoNumber (c : Command) (mode : Option ℕ) (fault : HostFault) : Type 0 where
    no_quantity : IsNumber c mode (Err faults.NotAQuantity) → fault ≡ faults.NotAQuantity → HasNoNumber c mode fault
    wrong_pec : (number : Result NumberFormat HostFault) → IsNumber c mode number → number ≢ Err faults.NotAQuantity
        → ((keeps_mode profile c.addr c.pec).need → ⊥) → fault ≡ faults.Invalid PecMode → HasNoNumber c mode fault
    no_format : IsNumber c mode (Err fault) → fault ≢ faults.NotAQuantity → (keeps_mode profile c.addr c.pec).need
        → HasNoNumber c mode fault

  -- the number can be written or read
  pub record HasNumber (c : Command) (mode : Option ℕ) (number : NumberFormat) : Type 0 where
    pub number_is : IsNumber c mode (Ok number)
    pub kept : (keeps_mode profile c.addr c.pec).need

  -- ---- all of them

  pub data IsSetFault (c : Command) (value : Fraction) (mode : Option ℕ) (fault : HostFault) : Type 0 where
    refused : IsRefusedBy (set_rules c) fault → IsSetFault c value mode fault
    no_number : AreKept (set_rules c) → HasNoNumber c mode fault → IsSetFault c value mode fault
    outside : AreKept (set_rules c) → (number : NumberFormat) → HasNumber c mode number → IsOutside number value fault
        → IsSetFault c value mode fault

  pub data IsGetFault (c : Command) (mode : Option ℕ) (fault : HostFault) : Type 0 where
    refused : IsRefusedBy (get_rules c) fault → IsGetFault c mode fault
    no_number : AreKept (get_rules c) → HasNoNumber c mode fault → IsGetFault c mode fault

  -- the first fault of a request; a write's are those of its transaction
  abbrev pub IsFault : RequestData → HostFault → Type 0
  IsFault (WriteParts parts) fault = (invalid : Invalid) × (fault ≡ faults.Invalid invalid)
      × IsFirstFault profile (Write parts) invalid
  IsFault (ReadBytes c) fault = IsRefusedBy (read_rules c) fault
  IsFault (CallBytes c bytes) fault = IsRefusedBy (call_rules c bytes) fault
  IsFault (Set c value mode) fault = IsSetFault c value mode fault
  IsFault (Get c mode) fault = IsGetFault c mode fault

  -- It has none. A quantity in the range of this format is written by the code nearest to it, and no other
  -- code is nearest.
  pub record CanSet (c : Command) (value : Fraction) (mode : Option ℕ) (word : ℕ) : Type 0 where
    pub kept : AreKept (set_rules c)
    pub number : NumberFormat
    pub has : HasNumber c mode number
    pub in_range : IsInRange (number_coding number) value
    pub nearest : IsNearest (number_coding number) value word
    pub only : (code : ℕ) → IsNearest (number_coding number) value code → code ≡ word

  -- A request keeps all rules. The word is the one that a Set writes, the format the one in which a Get
  -- is read.
  abbrev pub IsAllowed : RequestData → ℕ → Option NumberFormat → Type 0
  IsAllowed (WriteParts parts) word number = HasPacket profile (Write parts) × (number ≡ None)
  IsAllowed (ReadBytes c) word number = AreKept (read_rules c) × (number ≡ None)
  IsAllowed (CallBytes c bytes) word number = AreKept (call_rules c bytes) × (number ≡ None)
  IsAllowed (Set c value mode) word number = CanSet c value mode word × (number ≡ None)
  IsAllowed (Get c mode) word number = AreKept (get_rules c) × IfSome number (HasNumber c mode) × (number ≢ None)
