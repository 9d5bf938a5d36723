-- The fields of the standard's commands (PMBus Part II revision 1.3), as docs/meaning.md has them. A row is a name, its
-- lowest bit, how many bits it has, and what they say. The bits of a byte are counted from 0 at the lowest; those of
-- the next byte are 8 to 15, and so on, and the reply's bytes come after those that were sent.
use Rattle.std.specs.Prelude.{ℕ, pos, List, [], ◌∷◌, ◌++◌, codes}
use Rattle.pmb_meaning.specs.Field.{word, words, number}
use Rattle.pmb_meaning.specs.Layout.{NamedValue, is, Sense, flag, signed, number_or, choice, command_code, mask}
use Rattle.pmb_meaning.specs.Layout.{Condition, among, FieldRow, row, row_if, CommandLayout, layout}
use Rattle.pmb_meaning.specs.declared.layout.Way.TheVariants.{Register, Written, Read, Sent, Called}

-- ---- values that several fields have

-- a number that says a word, and one that says another number
abbrev pub says : ℕ → List ℕ → NamedValue
says n text = is n (word text)

abbrev pub counts : ℕ → ℕ → NamedValue
counts n m = is n (number (pos m))

-- a number without names
abbrev pub plain : Sense
plain = number_or []

abbrev pub off_on : Sense
off_on = choice (says 0 (codes "off") ∷ says 1 (codes "on") ∷ [])

abbrev pub ignored_required : Sense
ignored_required = choice (says 0 (codes "ignored") ∷ says 1 (codes "required") ∷ [])

-- a page, or all of them (section 11.10)
abbrev pub page : Sense
page = number_or (says 0xff (codes "all") ∷ [])

-- ---- OPERATION (section 12.1)

abbrev pub turn_off : Sense
turn_off = choice (says 0 (codes "immediate") ∷ says 1 (codes "soft") ∷ [])

abbrev pub voltage_source : Sense
voltage_source =
    choice (says 0 (codes "VOUT_COMMAND") ∷ says 1 (codes "VOUT_MARGIN_LOW") ∷ says 2 (codes "VOUT_MARGIN_HIGH")
    ∷ says 3 (codes "AVS_VOUT_COMMAND") ∷ [])

abbrev pub margin_faults : Sense
margin_faults = choice (says 1 (codes "ignore") ∷ says 2 (codes "act") ∷ [])

abbrev pub transition : Sense
transition = choice (says 0 (codes "keep") ∷ says 1 (codes "copy") ∷ [])

-- only if a margin is the source of the voltage
abbrev pub if_margin : Condition
if_margin = among 4 2 (1 ∷ 2 ∷ [])

abbrev pub operation : List FieldRow
operation =
    row (codes "output") 7 1 off_on
    ∷ row (codes "turn_off") 6 1 turn_off
    ∷ row (codes "voltage_source") 4 2 voltage_source
    ∷ row_if if_margin (codes "margin_faults") 2 2 margin_faults
    ∷ row (codes "transition") 1 1 transition
    ∷ []

-- ---- ON_OFF_CONFIG (section 12.2)

abbrev pub power_up : Sense
power_up = choice (says 0 (codes "any_time") ∷ says 1 (codes "commanded") ∷ [])

abbrev pub polarity : Sense
polarity = choice (says 0 (codes "active_low") ∷ says 1 (codes "active_high") ∷ [])

abbrev pub control_off : Sense
control_off = choice (says 0 (codes "soft") ∷ says 1 (codes "immediate") ∷ [])

abbrev pub on_off_config : List FieldRow
on_off_config =
    row (codes "power_up") 4 1 power_up
    ∷ row (codes "operation") 3 1 ignored_required
    ∷ row (codes "control_pin") 2 1 ignored_required
    ∷ row (codes "control_polarity") 1 1 polarity
    ∷ row (codes "control_off") 0 1 control_off
    ∷ []

-- ---- PAGE_PLUS_WRITE (section 11.11) and PAGE_PLUS_READ (section 11.12): the first two bytes

unfoldable pub page_and_code : List FieldRow
page_and_code = row (codes "page") 0 8 page ∷ row (codes "code") 8 8 command_code ∷ []

-- ---- WRITE_PROTECT (section 11.1)

-- the commands that can be written, by their names
abbrev pub writable : Sense
writable =
    choice (says 0x00 (codes "all")
    ∷ is 0x20 (words (codes "WRITE_PROTECT" ∷ codes "OPERATION" ∷ codes "PAGE" ∷ codes "ON_OFF_CONFIG"
    ∷ codes "VOUT_COMMAND" ∷ []))
    ∷ is 0x40 (words (codes "WRITE_PROTECT" ∷ codes "OPERATION" ∷ codes "PAGE" ∷ []))
    ∷ is 0x80 (words (codes "WRITE_PROTECT" ∷ []))
    ∷ [])

abbrev pub write_protect : List FieldRow
write_protect = row (codes "writable") 0 8 writable ∷ []

-- ---- CAPABILITY (section 11)

abbrev pub bus_speed : Sense
bus_speed = choice (says 0 (codes "100 kHz") ∷ says 1 (codes "400 kHz") ∷ says 2 (codes "1 MHz") ∷ [])

abbrev pub numeric_format : Sense
numeric_format = choice (says 0 (codes "linear_or_direct") ∷ says 1 (codes "half") ∷ [])

abbrev pub capability : List FieldRow
capability =
    row (codes "pec") 7 1 flag
    ∷ row (codes "bus_speed") 5 2 bus_speed
    ∷ row (codes "smbalert") 4 1 flag
    ∷ row (codes "numeric_format") 3 1 numeric_format
    ∷ row (codes "avsbus") 2 1 flag
    ∷ []

-- ---- QUERY (section 11)

abbrev pub query_format : Sense
query_format =
    choice (says 0 (codes "linear") ∷ says 1 (codes "signed_16") ∷ says 3 (codes "direct") ∷ says 4 (codes "unsigned_8")
    ∷ says 5 (codes "vid") ∷ says 6 (codes "manufacturer") ∷ says 7 (codes "not_numeric") ∷ [])

-- only if the reply says that the command is supported
abbrev pub if_supported : Condition
if_supported = among 15 1 (1 ∷ [])

abbrev pub query : List FieldRow
query = row (codes "code") 0 8 command_code ∷ []

abbrev pub query_reply : List FieldRow
query_reply =
    row (codes "supported") 15 1 flag
    ∷ row_if if_supported (codes "write") 14 1 flag
    ∷ row_if if_supported (codes "read") 13 1 flag
    ∷ row_if if_supported (codes "format") 10 3 query_format
    ∷ []

-- ---- SMBALERT_MASK (section 15)

abbrev pub mask_register : List FieldRow
mask_register = row (codes "register") 0 8 command_code ∷ []

abbrev pub mask_bits : List FieldRow
mask_bits = row (codes "mask") 0 16 mask ∷ []

-- ---- VOUT_MODE (section 8.3)

abbrev pub mode : Sense
mode =
    choice (says 0 (codes "linear") ∷ says 1 (codes "vid") ∷ says 2 (codes "direct") ∷ says 3 (codes "half") ∷ [])

-- what is always 0
abbrev pub nothing : Sense
nothing = choice (counts 0 0 ∷ [])

-- only in these modes
abbrev pub if_mode : List ℕ → Condition
if_mode modes = among 5 2 modes

abbrev pub vout_mode : List FieldRow
vout_mode =
    row (codes "relative") 7 1 flag
    ∷ row (codes "mode") 5 2 mode
    ∷ row_if (if_mode (0 ∷ [])) (codes "exponent") 0 5 signed
    ∷ row_if (if_mode (1 ∷ [])) (codes "vid_type") 0 5 plain
    ∷ row_if (if_mode (2 ∷ 3 ∷ [])) (codes "parameter") 0 5 nothing
    ∷ []

-- ---- COEFFICIENTS (section 14.1)

abbrev pub direction : Sense
direction = choice (says 0 (codes "write") ∷ says 1 (codes "read") ∷ [])

abbrev pub coefficients : List FieldRow
coefficients = row (codes "code") 0 8 command_code ∷ row (codes "direction") 8 8 direction ∷ []

abbrev pub coefficients_reply : List FieldRow
coefficients_reply =
    row (codes "m") 16 16 signed
    ∷ row (codes "b") 32 16 signed
    ∷ row (codes "r") 48 8 signed
    ∷ []

-- ---- FAN_CONFIG_1_2 and FAN_CONFIG_3_4 (section 14)

abbrev pub duty_rpm : Sense
duty_rpm = choice (says 0 (codes "duty") ∷ says 1 (codes "rpm") ∷ [])

-- pulses of the tachometer in one revolution
abbrev pub pulses : Sense
pulses = choice (counts 0 1 ∷ counts 1 2 ∷ counts 2 3 ∷ counts 3 4 ∷ [])

abbrev pub fans_1_2 : List FieldRow
fans_1_2 =
    row (codes "fan_1_installed") 7 1 flag
    ∷ row (codes "fan_1_command") 6 1 duty_rpm
    ∷ row (codes "fan_1_pulses") 4 2 pulses
    ∷ row (codes "fan_2_installed") 3 1 flag
    ∷ row (codes "fan_2_command") 2 1 duty_rpm
    ∷ row (codes "fan_2_pulses") 0 2 pulses
    ∷ []

abbrev pub fans_3_4 : List FieldRow
fans_3_4 =
    row (codes "fan_3_installed") 7 1 flag
    ∷ row (codes "fan_3_command") 6 1 duty_rpm
    ∷ row (codes "fan_3_pulses") 4 2 pulses
    ∷ row (codes "fan_4_installed") 3 1 flag
    ∷ row (codes "fan_4_command") 2 1 duty_rpm
    ∷ row (codes "fan_4_pulses") 0 2 pulses
    ∷ []

-- ---- responses to faults

abbrev pub retries : Sense
retries = number_or (says 0 (codes "none") ∷ says 7 (codes "unlimited") ∷ [])

-- of voltages, temperatures, power and TON_MAX (section 10.5.1)
abbrev pub voltage_ways : Sense
voltage_ways =
    choice (says 0 (codes "continue") ∷ says 1 (codes "continue_for_delay") ∷ says 2 (codes "shut_down")
    ∷ says 3 (codes "off_while_fault") ∷ [])

abbrev pub voltage_response : List FieldRow
voltage_response =
    row (codes "response") 6 2 voltage_ways
    ∷ row (codes "retries") 3 3 retries
    ∷ row (codes "delay_units") 0 3 plain
    ∷ []

-- of currents (section 10.5.2)
abbrev pub current_ways : Sense
current_ways =
    choice (says 0 (codes "limit") ∷ says 1 (codes "limit_to_low_voltage") ∷ says 2 (codes "limit_for_delay")
    ∷ says 3 (codes "shut_down") ∷ [])

abbrev pub current_response : List FieldRow
current_response =
    row (codes "response") 6 2 current_ways
    ∷ row (codes "retries") 3 3 retries
    ∷ row (codes "delay_units") 0 3 plain
    ∷ []

-- ---- READ_EIN and READ_EOUT (section 18)

abbrev pub energy : List FieldRow
energy =
    row (codes "accumulator") 0 16 plain
    ∷ row (codes "rollovers") 16 8 plain
    ∷ row (codes "samples") 24 24 plain
    ∷ []

-- ---- PMBUS_REVISION (section 22.1)

abbrev pub revision : Sense
revision =
    number_or (says 0 (codes "1.0") ∷ says 1 (codes "1.1") ∷ says 2 (codes "1.2") ∷ says 3 (codes "1.3") ∷ [])

abbrev pub pmbus_revision : List FieldRow
pmbus_revision = row (codes "part_i") 4 4 revision ∷ row (codes "part_ii") 0 4 revision ∷ []

-- ---- the commands

-- A command's code, how its data go with how many bytes, and their fields. Besides these, PAGE_PLUS_WRITE is written
-- and PAGE_PLUS_READ is called with data of any length.
unfoldable pub layouts : List CommandLayout
layouts =
    layout 0x01 (Register 1) operation
    ∷ layout 0x02 (Register 1) on_off_config
    ∷ layout 0x06 (Sent 2) page_and_code
    ∷ layout 0x10 (Register 1) write_protect
    ∷ layout 0x19 (Read 1) capability
    ∷ layout 0x1a (Sent 1) query
    ∷ layout 0x1a (Called 1 1) (query ++ query_reply)
    ∷ layout 0x1b (Written 2) (mask_register ++ mask_bits)
    ∷ layout 0x1b (Sent 1) mask_register
    ∷ layout 0x1b (Called 1 1) (mask_register ++ mask_bits)
    ∷ layout 0x20 (Register 1) vout_mode
    ∷ layout 0x30 (Sent 2) coefficients
    ∷ layout 0x30 (Called 2 5) (coefficients ++ coefficients_reply)
    ∷ layout 0x3a (Register 1) fans_1_2
    ∷ layout 0x3d (Register 1) fans_3_4
    ∷ layout 0x41 (Register 1) voltage_response
    ∷ layout 0x45 (Register 1) voltage_response
    ∷ layout 0x47 (Register 1) current_response
    ∷ layout 0x49 (Register 1) current_response
    ∷ layout 0x4c (Register 1) current_response
    ∷ layout 0x50 (Register 1) voltage_response
    ∷ layout 0x54 (Register 1) voltage_response
    ∷ layout 0x56 (Register 1) voltage_response
    ∷ layout 0x5a (Register 1) voltage_response
    ∷ layout 0x5c (Register 1) current_response
    ∷ layout 0x63 (Register 1) voltage_response
    ∷ layout 0x69 (Register 1) voltage_response
    ∷ layout 0x86 (Read 6) energy
    ∷ layout 0x87 (Read 6) energy
    ∷ layout 0x98 (Read 1) pmbus_revision
    ∷ []
