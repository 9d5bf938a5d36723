-- Which transactions have no packet, and what they are said to be: the rules that a transaction has
-- to keep, in their order, and the first one that it breaks.
use Rattle.std.specs.Prelude.{Result, MatchResult, ◌≡◌, ℕ, ◌<◌, ◌≤◌, ◌⊎◌, Bool, true, false, Option, Some, IsSome}
use Rattle.std.specs.Prelude.{IfSome, List, [], ◌∷◌, ◌++◌, length}
use Rattle.std.specs.Option.{option_and_then}
use Rattle.pmb_bus.specs.declared.event.Event.{Event}
use Rattle.pmb_command.specs.declared.form.Form.{Form}
use Rattle.pmb_command.specs.declared.form.Shape.{Shape}
use Rattle.pmb_command.specs.Parts.{CommandParts, DeviceParts, IsNew, command_with, device_with}
use Rattle.pmb_command.specs.PecMode.{AllowsPec}
use Rattle.pmb_command.specs.Wire.{Fits}
use Rattle.pmb_transaction.specs.Transaction.{PartData, ReadData, CallData, RefusedData, TransactionData, Write, Read}
use Rattle.pmb_transaction.specs.Transaction.{Call, Refused, Alert, NoAlert}
use Rattle.pmb_transaction.specs.Body.{shape_of, IsProperPrefix, Allowed, IsRequest}
use Rattle.pmb_transaction.specs.Packet.{addresses, Packet}
use Rattle.pmb_writer.specs.declared.invalid.Invalid.{Invalid}
use Rattle.pmb_writer.specs.declared.invalid.Invalid.TheVariants.{NoParts, UnknownDevice, AddressTwice, UnknownCommand}
use Rattle.pmb_writer.specs.declared.invalid.Invalid.TheVariants.{NotAllowed, WrongLength, PecMode}

-- some events are the transaction's packet
abbrev pub HasPacket : List DeviceParts → TransactionData → Type 0
HasPacket profile t = (events : List Event) × Packet profile t events

-- ---- rules in an order

-- what a rule asks for, and what a transaction that breaks it is said to be
pub record Rule : Type 1 where
  pub fault : Invalid
  pub need : Type 0

abbrev pub rule_unless : Invalid → Type 0 → Rule
rule_unless fault need = record { fault = fault; need = need }

-- all rules are kept
abbrev pub AreKept : List Rule → Type 0
AreKept [] = Unit {0}
AreKept (rule ∷ rules) = rule.need × AreKept rules

-- The fault is that of a rule which is broken, and those before it are kept.
abbrev pub IsFirstBroken : List Rule → Invalid → Type 0
IsFirstBroken [] fault = ⊥
IsFirstBroken (rule ∷ rules) fault = ((¬ rule.need) × (fault ≡ rule.fault)) ⊎ (rule.need × IsFirstBroken rules fault)

-- An answer by rules: Ok where all are kept, else the fault of the first that is broken.
abbrev pub AnswersRules : List Rule → Result (Unit {0}) Invalid → Type 0
AnswersRules rules answer = MatchResult answer (λ _. AreKept rules) (IsFirstBroken rules)

-- ---- the rules of transactions

-- There is a form, and data fit it.
abbrev pub allows_form : Option Form → Rule
allows_form form = rule_unless NotAllowed (IsSome form)

abbrev pub fits_form : Option Form → (Form → Type 0) → Rule
fits_form form are_fit = rule_unless WrongLength (IfSome form are_fit)

-- some body that is allowed after some parts begins with the code
abbrev pub MayBegin : List PartData → ℕ → DeviceParts → Type 0
MayBegin parts code device = (rest : List ℕ) × Allowed device parts (code ∷ rest)

-- the bytes but for the last are the beginning of a body that is allowed there, and not all of it
abbrev pub MayGoOn : List PartData → List ℕ → DeviceParts → Type 0
MayGoOn parts sent device =
    (front : List ℕ) × (last : ℕ) × (body : List ℕ)
    × (sent ≡ front ++ last ∷ []) × Allowed device parts body × IsProperPrefix front body

-- the command can be read or called
abbrev pub CanBeAsked : Shape → Type 0
CanBeAsked shape = IsSome shape.read ⊎ IsSome shape.call

module _ (profile : List DeviceParts) where
  -- the command with a code of the device with an address, and its forms; none where there is no
  -- such device or command
  abbrev pub command_at : ℕ → ℕ → Option CommandParts
  command_at addr code = option_and_then (λ device. command_with code device.commands) (device_with addr profile)

  abbrev pub forms_at : ℕ → ℕ → Shape
  forms_at addr code = shape_of (command_at addr code)

  -- of the device with an address
  abbrev pub OfDevice : ℕ → (DeviceParts → Type 0) → Type 0
  OfDevice addr P = (device : DeviceParts) × (device_with addr profile ≡ Some device) × P device

  -- A device has the address.
  abbrev pub has_device : ℕ → Rule
  has_device addr = rule_unless UnknownDevice (IsSome (device_with addr profile))

  -- It has a command with the code.
  abbrev pub has_command : ℕ → ℕ → Rule
  has_command addr code = rule_unless UnknownCommand (IsSome (command_at addr code))

  -- The device's mode allows a packet error code, or to leave it out.
  abbrev pub keeps_mode : ℕ → Bool → Rule
  keeps_mode addr with_pec = rule_unless PecMode
      (IfSome (device_with addr profile) (λ device. AllowsPec device.pec with_pec))

  -- the rules of a part after parts with some addresses
  abbrev pub part_rules : List ℕ → PartData → List Rule
  part_rules earlier part =
      has_device part.addr
      ∷ rule_unless AddressTwice (IsNew part.addr earlier)
      ∷ has_command part.addr part.code
      ∷ allows_form (forms_at part.addr part.code).write
      ∷ fits_form (forms_at part.addr part.code).write (λ form. Fits form part.bytes)
      ∷ keeps_mode part.addr part.pec
      ∷ []

  -- those of parts, in order
  abbrev pub parts_rules : List ℕ → List PartData → List Rule
  parts_rules earlier [] = []
  parts_rules earlier (part ∷ parts) = part_rules earlier part ++ parts_rules (earlier ++ part.addr ∷ []) parts

  abbrev pub write_rules : List PartData → List Rule
  write_rules parts = rule_unless NoParts (1 ≤ length parts) ∷ parts_rules [] parts

  abbrev pub read_rules : ReadData → List Rule
  read_rules t =
      has_device t.addr
      ∷ has_command t.addr t.code
      ∷ allows_form (forms_at t.addr t.code).read
      ∷ fits_form (forms_at t.addr t.code).read (λ form. Fits form t.reply)
      ∷ keeps_mode t.addr t.pec
      ∷ []

  abbrev pub call_rules : CallData → List Rule
  call_rules t =
      has_device t.addr
      ∷ has_command t.addr t.code
      ∷ allows_form (forms_at t.addr t.code).call
      ∷ fits_form (forms_at t.addr t.code).call (λ form. Fits form t.bytes × Fits form t.reply)
      ∷ keeps_mode t.addr t.pec
      ∷ []

  -- The rules of the leg that is refused, by what was sent and whether reading was refused: an
  -- address alone and one byte after it may be any.
  abbrev pub refused_leg_rules : List PartData → ℕ → List ℕ → Bool → List Rule
  refused_leg_rules parts addr [] false = []
  refused_leg_rules parts addr (b ∷ []) false = has_device addr ∷ []
  refused_leg_rules parts addr (code ∷ b ∷ bytes) false =
      has_device addr
      ∷ has_command addr code
      ∷ rule_unless NotAllowed (OfDevice addr (MayBegin parts code))
      ∷ rule_unless WrongLength (OfDevice addr (MayGoOn parts (code ∷ b ∷ bytes)))
      ∷ []
  refused_leg_rules parts addr [] true =
      has_device addr
      ∷ rule_unless NotAllowed (parts ≡ [])
      ∷ rule_unless WrongLength ⊥
      ∷ []
  refused_leg_rules parts addr (code ∷ bytes) true =
      has_device addr
      ∷ rule_unless NotAllowed (parts ≡ [])
      ∷ has_command addr code
      ∷ rule_unless NotAllowed (CanBeAsked (forms_at addr code))
      ∷ rule_unless WrongLength (OfDevice addr (λ device. IsRequest device (code ∷ bytes)))
      ∷ []

  -- those of its address, which has seven bits and is none of the parts, and of its leg
  abbrev pub refused_address_rules : List PartData → ℕ → List ℕ → Bool → List Rule
  refused_address_rules parts addr sent at_read =
      rule_unless UnknownDevice (addr < 128)
      ∷ rule_unless AddressTwice (IsNew addr (addresses parts))
      ∷ refused_leg_rules parts addr sent at_read

  abbrev pub refused_rules : RefusedData → List Rule
  refused_rules t = parts_rules [] t.parts ++ refused_address_rules t.parts t.addr t.sent t.at_read

  -- The rules of a transaction. Answers at the Alert Response Address have none.
  abbrev pub transaction_rules : TransactionData → List Rule
  transaction_rules (Write parts) = write_rules parts
  transaction_rules (Read t) = read_rules t
  transaction_rules (Call t) = call_rules t
  transaction_rules (Refused t) = refused_rules t
  transaction_rules (Alert t) = []
  transaction_rules NoAlert = []

  -- the first fault of a transaction
  abbrev pub IsFirstFault : TransactionData → Invalid → Type 0
  IsFirstFault t fault = IsFirstBroken (transaction_rules t) fault
