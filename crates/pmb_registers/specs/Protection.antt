-- Which writes WRITE_PROTECT disables, on a device that keeps to it (PMBus Part II 1.3 section 11.1).
use Rattle.std.specs.Prelude.{ℕ, Bool, true, not, ◌&&◌, ◌||◌, if◌then◌else◌, List, [], ◌∷◌, nat_eq}
use Rattle.std.specs.List.{list_any}
use Rattle.std.specs.Option.{unwrap_or}
use Rattle.pmb_command.specs.Parts.{DeviceParts}
use Rattle.pmb_command.specs.Protection.{is_protection}
use Rattle.pmb_registers.specs.State.{DeviceState, held}

-- The commands that a value of WRITE_PROTECT leaves to be written: with 80h WRITE_PROTECT (10h) alone; with
-- 40h also OPERATION (01h) and PAGE (00h); with 20h also ON_OFF_CONFIG (02h) and VOUT_COMMAND (21h); else all.
abbrev pub enables : ℕ → ℕ → Bool
enables value code =
    if nat_eq value 0x80 then nat_eq code 0x10
    else if nat_eq value 0x40 then list_any (nat_eq code) (0x10 ∷ 0x01 ∷ 0x00 ∷ [])
    else if nat_eq value 0x20 then list_any (nat_eq code) (0x10 ∷ 0x01 ∷ 0x00 ∷ 0x02 ∷ 0x21 ∷ [])
    else true

-- by what the register of WRITE_PROTECT holds
abbrev pub enables_by : List ℕ → ℕ → Bool
enables_by [] code = true
enables_by (value ∷ bytes) code = enables value code

-- WRITE_PROTECT itself takes one of its four values alone
abbrev pub takes : ℕ → List ℕ → Bool
takes code bytes = not (nat_eq code 0x10) || is_protection bytes

-- A write of a code and its data is enabled: the device does not keep to WRITE_PROTECT, or that leaves the
-- command to be written, and takes its value.
abbrev pub is_enabled : DeviceParts → DeviceState → ℕ → List ℕ → Bool
is_enabled device state code bytes =
    not device.protect
    || enables_by (unwrap_or (held state.page 0x10 state.registers) []) code && takes code bytes
