-- What an accepted bus is.
use Rattle.std.specs.Prelude.{◌≡◌, ◌≢◌, ℕ, suc, ◌<◌, ◌≤◌, true, false, IfSome, Option, Some, None, List, [], ◌∷◌, length, map}
use Rattle.std.specs.List.{AllByRecursion, IsDistinct}
use Rattle.std.specs.Option.{is_some}
use Rattle.std.specs.Str.{bytes_eq}
use Rattle.pmb_value.specs.NumberFormat.{IsFormat}
use Rattle.pmb_command.specs.declared.entry.Kind.{Kind}
use Rattle.pmb_command.specs.declared.entry.Kind.TheVariants.{Raw, Number, Vout, VoutSigned, Status, Text}
use Rattle.pmb_command.specs.Entry.{EntryParts}
use Rattle.pmb_command.specs.Commands.{standard_entry}
use Rattle.pmb_command.specs.Fitting.{are_kept, bit_count, calls_fit, has_form, is_always_raw, is_fixed, is_length}
use Rattle.pmb_command.specs.Fitting.{is_number, kind_fits, reads_data, register_form, value_form, ways_agree}
use Rattle.pmb_command.specs.Names.{IsDeviceName, IsNameOf, IsUnit, is_name}
use Rattle.pmb_command.specs.Parts.{CommandParts, DeviceParts, HaveOwnAddresses, HaveOwnCodes, InitialParts, Same, Each}
use Rattle.pmb_command.specs.Parts.{NamedBit}
use Rattle.pmb_command.specs.Parts.{VidParts, OfPages, OfTypes, all_same, command_with, device_with, has_one_mode}
use Rattle.pmb_command.specs.Protection.{begins_protected, can_protect}

-- An address that a device may have (SMBus 3.0 appendix C): 08h to 77h, and not 0ch, the Alert
-- Response Address.
pub record IsDeviceAddress (address : ℕ) : Type 0 where
  pub least : 0x08 ≤ address
  pub greatest : address ≤ 0x77
  pub no_alert : address ≢ 0x0c

-- The number format of a kind has an exponent or coefficients in their ranges.
abbrev pub KeepsRanges : Kind → Type 0
KeepsRanges Raw = Unit {0}
KeepsRanges (Number format) = IsFormat format
KeepsRanges Vout = Unit {0}
KeepsRanges VoutSigned = Unit {0}
KeepsRanges Status = Unit {0}
KeepsRanges Text = Unit {0}

-- The forms, the kind and the pages of a command go together.
pub record IsFitting (e : EntryParts) : Type 0 where
  -- it is written, read or called
  pub some_form : has_form e.shape ≡ true
  -- it is read in the form in which it is written, if with data
  pub one_form : ways_agree e.shape.write e.shape.read ≡ true
  -- what is read has data
  pub read_data : reads_data e.shape.read ≡ true
  -- it is called with two bytes or a block
  pub call_form : calls_fit e.shape.call ≡ true
  -- each form of PAGE, CLEAR_FAULTS, VOUT_MODE, COEFFICIENTS and STATUS_CML is the standard's, or
  -- there is none
  pub fixed : is_fixed e.code ≡ true → are_kept e.shape (standard_entry e.code) ≡ true
  -- PAGE, CLEAR_FAULTS, VOUT_MODE and COEFFICIENTS are no numbers, no status bits and no text
  pub raw : is_always_raw e.code ≡ true → e.kind ≡ Raw
  -- PAGE has one value for all pages
  pub page : e.code ≡ 0x00 → e.paged ≡ false
  -- numbers have two bytes, status registers one or two
  pub kind : kind_fits e.kind (value_form e.shape) ≡ true
  -- an exponent that is fixed is from -16 to 15, and coefficients make a format
  pub ranges : KeepsRanges e.kind

-- The bytes that a command holds at first on a page: PAGE and VOUT_MODE are given none, nor is a command
-- without a register, and they are as many as its form has.
pub record IsInitial (e : EntryParts) (bytes : List ℕ) : Type 0 where
  pub not_page : e.code ≢ 0x00
  pub not_vout_mode : e.code ≢ 0x20
  pub fits : is_length (register_form e.shape) (length bytes) ≡ true

-- What a command holds at first: such bytes, the same on each page; or, where it has a value for each
-- page, items of such bytes.
abbrev pub AreInitial : EntryParts → InitialParts → Type 0
AreInitial e (Same bytes) = IsInitial e bytes
AreInitial e (Each items) = (e.paged ≡ true) × AllByRecursion (IsInitial e) items

-- where there are items, there is one for each page
abbrev pub HasItemForEach : ℕ → Option InitialParts → Type 0
HasItemForEach pages None = Unit
HasItemForEach pages (Some (Same bytes)) = Unit
HasItemForEach pages (Some (Each items)) = length items ≡ pages

-- There is a table of VID for each page, or an item for each of the 32 types.
abbrev pub HasTableForEach : ℕ → Option VidParts → Type 0
HasTableForEach pages None = Unit
HasTableForEach pages (Some (OfPages tables)) = length tables ≡ pages
HasTableForEach pages (Some (OfTypes tables)) = length tables ≡ 32

-- The unit of numbers: 1 to 16 printable characters. What is no number has none.
pub record IsUnitOf (kind : Kind) (unit : List ℕ) : Type 0 where
  pub number : is_number kind ≡ true
  pub text : IsUnit unit

-- A bit of a status register that has a name of its own: one of its eight or sixteen bits.
pub record IsBit (e : EntryParts) (b : NamedBit) : Type 0 where
  pub status : e.kind ≡ Status
  pub within : b.bit < bit_count (value_form e.shape)
  pub name : is_name b.name ≡ true

-- bits are ascending, from the least that the first one may be
abbrev pub AreAscending : ℕ → List NamedBit → Type 0
AreAscending least [] = Unit
AreAscending least (b ∷ bits) = (least ≤ b.bit) × AreAscending (suc b.bit) bits

-- no two bits have one name
abbrev pub HaveOwnNames : List NamedBit → Type 0
HaveOwnNames bits = IsDistinct bytes_eq (map (λ b. b.name) bits)

-- The bits of a status register that have names of their own, from the lowest up. What is no status
-- register has none.
pub record AreBits (e : EntryParts) (bits : List NamedBit) : Type 0 where
  pub few : length bits ≤ 16
  pub each : AllByRecursion (IsBit e) bits
  pub ascending : AreAscending 0 bits
  pub own_names : HaveOwnNames bits

-- A command that a device may have: a code, a name, and parts that go together.
pub record IsEntry (e : EntryParts) : Type 0 where
  pub byte : e.code < 256
  pub name : IsNameOf e.code e.name
  pub fitting : IsFitting e

-- Such a command; what it holds at first where a profile says; its unit where it has one; and the bits
-- that have names of their own.
pub record IsCommand (c : CommandParts) : Type 0 where
  pub entry : IsEntry c.entry
  pub initial : IfSome c.initial (AreInitial c.entry)
  pub unit : IfSome c.unit (IsUnitOf c.entry.kind)
  pub bits : AreBits c.entry c.bits

-- A device that a bus may have.
pub record IsDevice (d : DeviceParts) : Type 0 where
  pub address : IsDeviceAddress d.address
  pub some_page : 1 ≤ d.pages
  pub few_pages : d.pages ≤ 32
  -- a name is 1 to 32 printable characters
  pub name : IfSome d.name IsDeviceName
  -- VOUT_MODE at first is a byte for each page, and the same where it has one value for all pages
  pub mode_of_each : length d.modes ≡ d.pages
  pub bytes : AllByRecursion (λ mode. mode < 256) d.modes
  pub one_mode : has_one_mode d.commands ≡ true → all_same d.modes ≡ true
  pub tables : HasTableForEach d.pages d.vid
  -- a device that has phases has 1 to 255
  pub phases : IfSome d.phases (λ n. (1 ≤ n) × (n ≤ 255))
  pub own_codes : HaveOwnCodes d.commands
  pub commands : AllByRecursion IsCommand d.commands
  -- what commands hold at first is told for each page, if by items
  pub items : AllByRecursion (λ c. HasItemForEach d.pages c.initial) d.commands
  -- one that keeps to WRITE_PROTECT has it as a byte, which begins with one of its four values
  pub protection : d.protect ≡ true → can_protect (command_with 0x10 d.commands) ≡ true
  pub first_protection : d.protect ≡ true → begins_protected (command_with 0x10 d.commands) ≡ true

-- Each of these addresses is that of a device of the bus.
abbrev pub AreOfDevices : List DeviceParts → List ℕ → Type 0
AreOfDevices bus addresses = AllByRecursion (λ address. is_some (device_with address bus) ≡ true) addresses

-- A bus that a profile may describe.
pub record IsBus (bus : List DeviceParts) : Type 0 where
  pub few : length bus ≤ 64
  pub own_addresses : HaveOwnAddresses bus
  pub devices : AllByRecursion IsDevice bus
  -- where a device takes what is written at another address, that is a device's too
  pub also : AllByRecursion (λ d. AreOfDevices bus d.also) bus
