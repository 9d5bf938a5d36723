-- The format of an output voltage has coefficients of 16 bits and an exponent of five, where those of the
-- profile have.
use Rattle.std.proofs.Common.{ℕ, ◌/◌, ◌%◌, ◌^◌, ◌<◌, ◌==◌, if◌then◌else◌, Bool, true, false, Option}
use Rattle.std.proofs.Common.{Some, None, Result, Ok, Err, arith}
use Rattle.std.specs.Prelude.{IfSome, ⊤}
use Rattle.pmb_coefficients.specs.Coefficients.{Coefficients}
use Rattle.pmb_format.specs.Words.{twos_complement}
use Rattle.pmb_unknown_start.specs.declared.mode.KnownMode.{KnownMode}
use Rattle.pmb_unknown_start.specs.declared.mode.KnownMode.TheVariants.{Known, NoPage}
use Rattle.pmb_unknown_start.specs.declared.mode.KnownMode.TheVariants as known
use Rattle.pmb_value.specs.Vout.{direct_of, direct_words, format_of, linear_of}
use Rattle.pmb_value.specs.declared.number_format.NumberFormat.{NumberFormat}
use Rattle.pmb_value.specs.declared.sign.Sign.{Sign}
use Rattle.pmb_value.specs.declared.sign.Sign.TheVariants.{Unsigned, Signed}
use Rattle.pmb_value.specs.declared.vout.ModeFault.{ModeFault}
use Rattle.pmb_value.specs.declared.vout.ModeFault.TheVariants as fault
use Rattle.pmb_value.specs.declared.vout.VoutFormat.{VoutFormat}
use Rattle.pmb_vid.specs.declared.table.VidTable.{VidTable}
use Rattle.pmb_voltage.specs.declared.voltage.NoVoltage.{NoVoltage}
use Rattle.pmb_voltage.specs.declared.voltage.VoltageFormat.{VoltageFormat}
use Rattle.pmb_voltage.specs.Voltage.{VoltagesData, format_by, in_table, is_ratio, is_signed, meaning, named_format}
use Rattle.pmb_voltage.specs.Voltage.{vid_format, vid_table}
use Rattle.pmb_json_objects.specs.Laws.{AreOfWords, IsFormatOfWords, IsNumberOfWords}
use Rattle.pmb_json_objects.proofs.Fine.{of_either}
use Rattle.pmb_json_objects.proofs.Quantities.{five_bits}

-- what a VOUT_MODE names has an exponent of five bits, or coefficients of 16 bits
abbrev NamesWords : Result VoutFormat ModeFault → Type 0
NamesWords (Ok format) = IsFormatOfWords format
NamesWords (Err fault) = ⊤

-- so has the format of a voltage
abbrev HasWords : Result NumberFormat NoVoltage → Type 0
HasWords (Ok format) = IsNumberOfWords format
HasWords (Err why) = ⊤

abbrev pub VoltageHasWords : Result VoltageFormat NoVoltage → Type 0
VoltageHasWords (Ok format) = IsNumberOfWords format.number
VoltageHasWords (Err why) = ⊤

linear_words : (signed : Bool) (field : ℕ) → field < 32
    → IsFormatOfWords (linear_of signed (twos_complement 5 field))
linear_words true field few = five_bits field few
linear_words false field few = five_bits field few

-- for signed words too
words_of : (signed : Bool) (d : Coefficients) → AreOfWords d → AreOfWords (direct_words signed d)
words_of true d words = record {
  slope = words.slope;
  offset = words.offset;
  format = record { slope = words.format.slope; least = words.format.least; greatest = words.format.greatest };
}
words_of false d words = words

direct_names_words : (signed : Bool) (coefficients : Option Coefficients) → IfSome coefficients AreOfWords
    → NamesWords (direct_of signed coefficients)
direct_names_words signed None words = tt
direct_names_words signed (Some d) words = words_of signed d words

mode_names_words : (mode : ℕ) (signed : Bool) (coefficients : Option Coefficients) → IfSome coefficients AreOfWords
    → NamesWords (format_of mode signed coefficients)
mode_names_words mode signed coefficients words =
    let kind : ℕ = mode / 2 ^ 5 % 2 ^ 2 in
    let linear : Result VoutFormat ModeFault = Ok (linear_of signed (twos_complement 5 (mode % 2 ^ 5))) in
    let not_ieee : Result VoutFormat ModeFault = if kind == 2 then direct_of signed coefficients else linear in
    let not_vid : Result VoutFormat ModeFault = if kind == 3 then Err fault.Ieee else not_ieee in
    let not_relative : Result VoutFormat ModeFault = if kind == 1 then Err fault.Vid else not_vid in
    of_either NamesWords (mode / 2 ^ 7 == 1) (Err fault.Relative) not_relative tt
    (of_either NamesWords (kind == 1) (Err fault.Vid) not_vid tt
    (of_either NamesWords (kind == 3) (Err fault.Ieee) not_ieee tt
    (of_either NamesWords (kind == 2) (direct_of signed coefficients) linear
    (direct_names_words signed coefficients words) (linear_words signed (mode % 2 ^ 5) (omega arith)))))

table_has_words : (table : Result VidTable NoVoltage) → HasWords (in_table table)
table_has_words (Ok table) = tt
table_has_words (Err why) = tt

vid_has_words : (v : VoltagesData) (mode : ℕ) (ratio : Bool) (sign : Sign) → HasWords (vid_format v mode ratio sign)
vid_has_words v mode true sign = tt
vid_has_words v mode false Signed = tt
vid_has_words v mode false Unsigned = table_has_words (vid_table v.vid mode v.page)

named_has_words : (v : VoltagesData) (mode : ℕ) (ratio : Bool) (sign : Sign) (named : Result VoutFormat ModeFault)
    → NamesWords named → HasWords (named_format v mode ratio sign named)
named_has_words v mode ratio sign (Ok format) words = words
named_has_words v mode ratio sign (Err fault.Relative) words = tt
named_has_words v mode ratio sign (Err fault.Vid) words = vid_has_words v mode ratio sign
named_has_words v mode ratio sign (Err fault.Ieee) words = tt
named_has_words v mode ratio sign (Err fault.NoCoefficients) words = tt

meaning_has_words : (ratio : Bool) (format : Result NumberFormat NoVoltage) → HasWords format
    → VoltageHasWords (meaning ratio format)
meaning_has_words ratio (Ok number) words = words
meaning_has_words ratio (Err why) words = tt

pub known_has_words : (v : VoltagesData) (mode : KnownMode) (code : ℕ) (sign : Sign) → IfSome v.coefficients AreOfWords
    → VoltageHasWords (format_by v mode code sign)
known_has_words v (Known mode) code sign words =
    let signed : Bool = is_signed sign in
    let named : Result VoutFormat ModeFault = format_of (mode % 2 ^ 7) signed v.coefficients in
    let ratio : Bool = is_ratio mode code in
    meaning_has_words ratio (named_format v mode ratio sign named)
    (named_has_words v mode ratio sign named (mode_names_words (mode % 2 ^ 7) signed v.coefficients words))
known_has_words v known.Unknown code sign words = tt
known_has_words v NoPage code sign words = tt
