-- What a fact tells of a spot.
use Rattle.std.specs.Prelude.{ℕ, ◌+◌, ◌*◌, Bool, true, false, if◌then◌else◌, Option, Some, None, Result, Ok, Err, List, [], ◌∷◌, ◌++◌, flat_map, fold}
use Rattle.std.specs.List.{filter_map}
use Rattle.pmb_command.specs.declared.entry.Kind.{Kind}
use Rattle.pmb_command.specs.declared.entry.Kind.TheVariants.{Raw, Number, Vout, VoutSigned, Status, Text}
use Rattle.pmb_command.specs.Parts.{CommandParts, DeviceParts, device_with}
use Rattle.pmb_facts.specs.Fact.{FactData, WhatData, Write, Read, Call, Refused, Alert, NoAlert, Other, Refusal}
use Rattle.pmb_facts.specs.Fact.{BadToken}
use Rattle.pmb_json_fields.specs.declared.basis.Basis.{Basis}
use Rattle.pmb_json_fields.specs.declared.basis.Basis.TheVariants.{Told, Assumed}
use Rattle.pmb_json_objects.specs.Seen.{SeenData, basis_at, command_of, mode_at, page_at, phase_at}
use Rattle.pmb_keeper.specs.Setting.{Setting, seen_after}
use Rattle.pmb_mean.specs.Numbers.{NumberData}
use Rattle.pmb_mean.specs.Words.{word_number as mean_number}
use Rattle.pmb_stats_bits.specs.Bits.{RegisterRead}
use Rattle.pmb_value.specs.declared.sign.Sign.TheVariants.{Signed, Unsigned}
use Rattle.pmb_voltage.specs.Voltage.{VoltagesData, voltage_format, voltages_of}
use Rattle.pmb_voltage.specs.declared.voltage.NoVoltage.{NoVoltage}
use Rattle.pmb_voltage.specs.declared.voltage.VoltageFormat.{VoltageFormat}
use Rattle.pmb_observed.specs.declared.spot.Spot.{Spot}
use Rattle.pmb_observed.specs.Observed.{Observation, NumberAt, ReadAt}
use Rattle.pmb_observed.specs.Spot.{page_key, phase_key, phases_of, spot_at}

-- ---- numbers

abbrev pub is_assumed : Basis → Bool
is_assumed Told = false
is_assumed Assumed = true

-- a word in the format of an output voltage; a factor of VOUT_COMMAND is no voltage
abbrev pub voltage_in : Result VoltageFormat NoVoltage → Basis → ℕ → Option NumberData
voltage_in (Ok format) basis word =
    if format.is_ratio then None else mean_number format.number word (is_assumed basis)
voltage_in (Err why) basis word = None

-- a word, by the kind of the command with a code
abbrev pub word_number : VoltagesData → Basis → ℕ → Kind → ℕ → Option NumberData
word_number voltages basis code Raw word = None
word_number voltages basis code (Number format) word = mean_number format word false
word_number voltages basis code Vout word = voltage_in (voltage_format voltages code Unsigned) basis word
word_number voltages basis code VoutSigned word = voltage_in (voltage_format voltages code Signed) basis word
word_number voltages basis code Status word = None
word_number voltages basis code Text word = None

-- two bytes, the low one first; nothing for another number of bytes
abbrev pub number_of : VoltagesData → Basis → ℕ → Kind → List ℕ → Option NumberData
number_of voltages basis code kind [] = None
number_of voltages basis code kind (a ∷ []) = None
number_of voltages basis code kind (low ∷ high ∷ []) = word_number voltages basis code kind (low + 256 * high)
number_of voltages basis code kind (a ∷ b ∷ c ∷ bytes) = None

-- ---- status registers

abbrev pub read_of : ℕ → Option (List ℕ) → RegisterRead
read_of word time = record { word = word; time = time }

-- one byte, or two, the low one first; nothing for another number of bytes
abbrev pub register_of : List ℕ → Option (List ℕ) → Option RegisterRead
register_of [] time = None
register_of (byte ∷ []) time = Some (read_of byte time)
register_of (low ∷ high ∷ []) time = Some (read_of (low + 256 * high) time)
register_of (a ∷ b ∷ c ∷ bytes) time = None

-- what is read of a status register alone
abbrev pub register_read : Kind → List ℕ → Option (List ℕ) → Option RegisterRead
register_read Raw bytes time = None
register_read (Number format) bytes time = None
register_read Vout bytes time = None
register_read VoutSigned bytes time = None
register_read Status bytes time = register_of bytes time
register_read Text bytes time = None

-- ---- what is told

abbrev pub number_at : Spot → Option NumberData → List Observation
number_at spot None = []
number_at spot (Some number) = NumberAt spot number ∷ []

abbrev pub read_at : Spot → Option RegisterRead → List Observation
read_at spot None = []
read_at spot (Some read) = ReadAt spot read ∷ []

module _ (seen : SeenData) (addr code : ℕ) where
  -- the spot of a command of a device, on the page and in the phase that are selected
  abbrev pub spot_of : DeviceParts → CommandParts → Spot
  spot_of device command =
      spot_at addr code (page_key device.pages command.entry.paged (page_at seen addr))
      (phase_key (phases_of device command) (phase_at seen addr))

  -- data that are read or written
  abbrev pub number_seen : DeviceParts → CommandParts → List ℕ → List Observation
  number_seen device command bytes = number_at (spot_of device command)
      (number_of (voltages_of device (mode_at seen addr) (page_at seen addr)) (basis_at seen addr) code
      command.entry.kind bytes)

  -- .. that are read
  abbrev pub register_seen : DeviceParts → CommandParts → List ℕ → Option (List ℕ) → List Observation
  register_seen device command bytes time =
      read_at (spot_of device command) (register_read command.entry.kind bytes time)

  -- of a device and its command, if there are both
  abbrev pub of_command : DeviceParts → Option CommandParts → (DeviceParts → CommandParts → List Observation)
      → List Observation
  of_command device None tells = []
  of_command device (Some command) tells = tells device command

  abbrev pub of_device : Option DeviceParts → (DeviceParts → CommandParts → List Observation) → List Observation
  of_device None tells = []
  of_device (Some device) tells = of_command device (command_of (Some device) code) tells

  -- data that were written
  abbrev pub written : List ℕ → List Observation
  written bytes = of_device (device_with addr seen.profile) (λ device command. number_seen device command bytes)

  -- data that were read: a status register or a number
  abbrev pub replied : List ℕ → Option (List ℕ) → List Observation
  replied bytes time = of_device (device_with addr seen.profile)
      (λ device command. register_seen device command bytes time ++ number_seen device command bytes)

-- what a fact tells, by what is known where its packet begins, and its time
abbrev pub observed : SeenData → Option (List ℕ) → WhatData → List Observation
observed seen time (Write part parts p) = written seen p.addr p.code p.bytes
observed seen time (Read t) = replied seen t.addr t.code t.reply time
observed seen time (Call t) = []
observed seen time (Refused parts addr sent at_read) = []
observed seen time (Alert t) = []
observed seen time NoAlert = []
observed seen time (Other addr) = []
observed seen time (Refusal front event reason expected) = []
observed seen time (BadToken word) = []

abbrev pub observed_in : Setting → FactData → List Observation
observed_in setting fact = observed (seen_after setting fact.before) fact.head.time fact.what

-- what facts tell, one after the other
abbrev pub observations : Setting → List FactData → List Observation
observations setting facts = flat_map (observed_in setting) facts

-- ---- times

-- those that facts have, in order
abbrev pub times : List FactData → List (List ℕ)
times facts = filter_map (λ fact. fact.head.time) facts

abbrev pub first_of : List (List ℕ) → Option (List ℕ)
first_of [] = None
first_of (time ∷ times) = Some time

-- the first of them, and the last
abbrev pub first_time : List FactData → Option (List ℕ)
first_time facts = first_of (times facts)

abbrev pub later_time : Option (List ℕ) → List ℕ → Option (List ℕ)
later_time before time = Some time

abbrev pub last_time : List FactData → Option (List ℕ)
last_time facts = fold later_time None (times facts)
