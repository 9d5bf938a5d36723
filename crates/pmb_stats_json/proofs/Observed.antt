-- What a fact tells of a spot fits: a number its kind, and the time of a read is bytes. The profile's coefficients
-- have 16 bits and its exponents five, data are bytes, and so is the fact's time.
use Rattle.std.proofs.Common.{ℕ, ◌+◌, ◌*◌, ◌<◌, nat_eq, Bool, true, false, Option, Some, None, Result, Ok, Err, List}
use Rattle.std.proofs.Common.{[], ◌∷◌, ◌++◌, arith}
use Rattle.std.specs.Prelude.{IfSome, if◌then◌else◌}
use Rattle.std.specs.List.{AllByRecursion, cons_option}
use Rattle.pmb_command.specs.Parts.{CommandParts, DeviceParts, command_with, device_with}
use Rattle.pmb_command.specs.declared.entry.Kind.{Kind}
use Rattle.pmb_command.specs.declared.entry.Kind.TheVariants.{Raw, Number, Vout, VoutSigned, Status, Text}
use Rattle.pmb_facts.specs.Fact.{FactData, WhatData, Write, Read, Call, Refused, Alert, NoAlert, Other, Refusal}
use Rattle.pmb_facts.specs.Fact.{BadToken}
use Rattle.pmb_json.proofs.EachOf.{each_of_both, the_found}
use Rattle.pmb_json.specs.Lines.{AllMakeFormats, MakesFormats}
use Rattle.pmb_json_fields.specs.declared.basis.Basis.{Basis}
use Rattle.pmb_stats_json.proofs.Voltages.{VoltageHasWords, known_has_words}
use Rattle.pmb_json_objects.specs.Laws.{AreOfWords, IsOfWords, IsTime}
use Rattle.pmb_json_objects.specs.Seen.{SeenData, basis_at, mode_at, page_at}
use Rattle.pmb_json_text.specs.Spelling.{AreBytes}
use Rattle.pmb_keeper.specs.Setting.{Setting, seen_after}
use Rattle.pmb_mean.specs.Numbers.{FitsKind, NumberData}
use Rattle.pmb_mean.specs.Words.{word_number as mean_number}
use Rattle.pmb_observed.specs.Observed.{Observation}
use Rattle.pmb_observed.specs.Observing.{is_assumed, number_at, number_of, number_seen, observations, observed}
use Rattle.pmb_observed.specs.Observing.{observed_in, of_command, spot_of}
use Rattle.pmb_observed.specs.Observing.{of_device, read_at, register_of, register_read, register_seen, times}
use Rattle.pmb_observed.specs.Observing.{voltage_in, word_number}
use Rattle.pmb_observed.specs.declared.spot.Spot.{Spot}
use Rattle.pmb_stats_bits.specs.Bits.{RegisterRead}
use Rattle.pmb_stats_objects.specs.Laws.{AreObserved, IsObserved}
use Rattle.pmb_value.specs.declared.sign.Sign.TheVariants.{Signed, Unsigned}
use Rattle.pmb_voltage.specs.Voltage.{VoltagesData, voltage_format, voltages_of}
use Rattle.pmb_voltage.specs.declared.voltage.NoVoltage.{NoVoltage}
use Rattle.pmb_voltage.specs.declared.voltage.VoltageFormat.{VoltageFormat}
use Rattle.pmb_stats_json.proofs.Numbers.{number_fits}

-- ---- numbers

voltage_fits : (format : Result VoltageFormat NoVoltage) (basis : Basis) (word : ℕ) → VoltageHasWords format
    → word < 65536 → IfSome (voltage_in format basis word) FitsKind
voltage_fits (Err why) basis word words fits = tt
voltage_fits (Ok format) basis word words fits = by format.is_ratio
  where
    by : (ratio : Bool) → IfSome (if ratio then None else mean_number format.number word (is_assumed basis)) FitsKind
    by true = tt
    by false = number_fits format.number word (is_assumed basis) words fits

word_fits : (v : VoltagesData) (basis : Basis) (code : ℕ) (kind : Kind) (word : ℕ) → IfSome v.coefficients AreOfWords
    → IsOfWords kind → word < 65536 → IfSome (word_number v basis code kind word) FitsKind
word_fits v basis code Raw word vout words fits = tt
word_fits v basis code (Number format) word vout words fits = number_fits format word false words fits
word_fits v basis code Vout word vout words fits =
    voltage_fits (voltage_format v code Unsigned) basis word (known_has_words v v.mode code Unsigned vout) fits
word_fits v basis code VoutSigned word vout words fits =
    voltage_fits (voltage_format v code Signed) basis word (known_has_words v v.mode code Signed vout) fits
word_fits v basis code Status word vout words fits = tt
word_fits v basis code Text word vout words fits = tt

-- of data
data_fit : (v : VoltagesData) (basis : Basis) (code : ℕ) (kind : Kind) (bytes : List ℕ)
    → IfSome v.coefficients AreOfWords → IsOfWords kind → AreBytes bytes
    → IfSome (number_of v basis code kind bytes) FitsKind
data_fit v basis code kind [] vout words small = tt
data_fit v basis code kind (a ∷ []) vout words small = tt
data_fit v basis code kind (low ∷ high ∷ []) vout words small =
    let first : low < 256 = small.0 in
    let second : high < 256 = small.1.0 in
    word_fits v basis code kind (low + 256 * high) vout words (omega arith)
data_fit v basis code kind (a ∷ b ∷ c ∷ bytes) vout words small = tt

number_told : (spot : Spot) (number : Option NumberData) → IfSome number FitsKind → AreObserved (number_at spot number)
number_told spot None fits = tt
number_told spot (Some number) fits = (fits, tt)

-- ---- reads

abbrev IsTimed : RegisterRead → Type 0
IsTimed read = IsTime read.time

register_timed : (bytes : List ℕ) (time : Option (List ℕ)) → IsTime time → IfSome (register_of bytes time) IsTimed
register_timed [] time timed = tt
register_timed (byte ∷ []) time timed = timed
register_timed (low ∷ high ∷ []) time timed = timed
register_timed (a ∷ b ∷ c ∷ bytes) time timed = tt

read_timed : (kind : Kind) (bytes : List ℕ) (time : Option (List ℕ)) → IsTime time
    → IfSome (register_read kind bytes time) IsTimed
read_timed Raw bytes time timed = tt
read_timed (Number format) bytes time timed = tt
read_timed Vout bytes time timed = tt
read_timed VoutSigned bytes time timed = tt
read_timed Status bytes time timed = register_timed bytes time timed
read_timed Text bytes time timed = tt

read_told : (spot : Spot) (read : Option RegisterRead) → IfSome read IsTimed → AreObserved (read_at spot read)
read_told spot None timed = tt
read_told spot (Some read) timed = (timed, tt)

-- ---- facts

-- the data of a fact are bytes
abbrev pub HasBytes : WhatData → Type 0
HasBytes (Write part parts p) = AreBytes p.bytes
HasBytes (Read t) = AreBytes t.reply
HasBytes (Call t) = Unit {0}
HasBytes (Refused parts addr sent at_read) = Unit {0}
HasBytes (Alert t) = Unit {0}
HasBytes NoAlert = Unit {0}
HasBytes (Other addr) = Unit {0}
HasBytes (Refusal front event reason expected) = Unit {0}
HasBytes (BadToken word) = Unit {0}

-- .. and so is its time
pub record IsOfBytes (fact : FactData) : Type 0 where
  pub time : IsTime fact.head.time
  pub data_bytes : HasBytes fact.what

module _ (seen : SeenData) (formats : AllMakeFormats seen.profile) where
  -- what is told of a command that is there
  of_each : (addr code : ℕ) (tells : DeviceParts → CommandParts → List Observation)
      → ((device : DeviceParts) (command : CommandParts) → IfSome device.vout_direct AreOfWords
      → IsOfWords command.entry.kind → AreObserved (tells device command))
      → AreObserved (of_device seen addr code (device_with addr seen.profile) tells)
  of_each addr code tells told =
      by (device_with addr seen.profile) (the_found MakesFormats (λ d. nat_eq d.address addr) seen.profile formats)
    where
      of_one : (device : DeviceParts) → IfSome device.vout_direct AreOfWords → (command : Option CommandParts)
          → IfSome command (λ c. IsOfWords c.entry.kind) → AreObserved (of_command seen addr code device command tells)
      of_one device vout None words = tt
      of_one device vout (Some command) words = told device command vout words

      by : (device : Option DeviceParts) → IfSome device MakesFormats
          → AreObserved (of_device seen addr code device tells)
      by None make = tt
      by (Some device) make =
          of_one device make.vout (command_with code device.commands)
          (the_found (λ (c : CommandParts). IsOfWords c.entry.kind) (λ c. nat_eq c.entry.code code) device.commands
          make.commands)

  module _ (addr code : ℕ) (device : DeviceParts) (command : CommandParts) (bytes : List ℕ)
      (small : AreBytes bytes) where
    number_is_told : IfSome device.vout_direct AreOfWords → IsOfWords command.entry.kind
        → AreObserved (number_seen seen addr code device command bytes)
    number_is_told vout words =
        let voltages = voltages_of device (mode_at seen addr) (page_at seen addr) in
        let basis = basis_at seen addr in
        number_told (spot_of seen addr code device command)
        (number_of voltages basis code command.entry.kind bytes)
        (data_fit voltages basis code command.entry.kind bytes vout words small)

    read_is_told : (time : Option (List ℕ)) → IsTime time
        → AreObserved (register_seen seen addr code device command bytes time)
    read_is_told time timed =
        read_told (spot_of seen addr code device command) (register_read command.entry.kind bytes time)
        (read_timed command.entry.kind bytes time timed)

  what_is_told : (time : Option (List ℕ)) (what : WhatData) → IsTime time → HasBytes what
      → AreObserved (observed seen time what)
  what_is_told time (Write part parts p) timed small =
      of_each p.addr p.code (λ device command. number_seen seen p.addr p.code device command p.bytes)
      (λ device command vout words. number_is_told p.addr p.code device command p.bytes small vout words)
  what_is_told time (Read t) timed small =
      of_each t.addr t.code
      (λ device command. register_seen seen t.addr t.code device command t.reply time
      ++ number_seen seen t.addr t.code device command t.reply)
      (λ device command vout words. each_of_both IsObserved
      (register_seen seen t.addr t.code device command t.reply time)
      (number_seen seen t.addr t.code device command t.reply)
      (read_is_told t.addr t.code device command t.reply small time timed)
      (number_is_told t.addr t.code device command t.reply small vout words))
  what_is_told time (Call t) timed small = tt
  what_is_told time (Refused parts addr sent at_read) timed small = tt
  what_is_told time (Alert t) timed small = tt
  what_is_told time NoAlert timed small = tt
  what_is_told time (Other addr) timed small = tt
  what_is_told time (Refusal front event reason expected) timed small = tt
  what_is_told time (BadToken word) timed small = tt

-- of all facts
pub all_are_observed : (setting : Setting) (facts : List FactData) → AllMakeFormats setting.profile
    → AllByRecursion IsOfBytes facts → AreObserved (observations setting facts)
all_are_observed setting [] formats are = tt
all_are_observed setting (fact ∷ facts) formats are =
    each_of_both IsObserved (observed_in setting fact) (observations setting facts)
    (what_is_told (seen_after setting fact.before) formats fact.head.time fact.what are.0.time are.0.data_bytes)
    (all_are_observed setting facts formats are.1)

-- and the times are bytes
pub times_are_bytes : (facts : List FactData) → AllByRecursion IsOfBytes facts → AllByRecursion AreBytes (times facts)
times_are_bytes [] are = tt
times_are_bytes (fact ∷ facts) are = by fact.head.time are.0.time (times_are_bytes facts are.1)
  where
    by : (time : Option (List ℕ)) → IsTime time → AllByRecursion AreBytes (times facts)
        → AllByRecursion AreBytes (cons_option time (times facts))
    by None timed rest = rest
    by (Some time) timed rest = (timed, rest)
