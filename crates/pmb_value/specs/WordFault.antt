-- Which value a word has in a number format, or why it has none.
use Rattle.std.specs.Prelude.{ℕ, if◌then◌else◌, Option, Some, None, Result, Ok, Err}
use Rattle.pmb_quantity.specs.Fraction.{Fraction}
use Rattle.pmb_format.specs.Coding.{value_of}
use Rattle.pmb_half.specs.Half.{has_no_value}
use Rattle.pmb_vid.specs.Vid.{has_voltage, is_off}
use Rattle.pmb_vid.specs.declared.table.VidTable.{VidTable}
use Rattle.pmb_value.specs.NumberFormat.{number_coding}
use Rattle.pmb_value.specs.declared.number_format.NumberFormat.{NumberFormat}
use Rattle.pmb_value.specs.declared.number_format.NumberFormat.TheVariants.{Linear11, Linear11Fixed, Word, Half, Vid}
use Rattle.pmb_value.specs.declared.number_format.WordFault.{WordFault}
use Rattle.pmb_value.specs.declared.number_format.WordFault.TheVariants.{NotANumber, NoCode, Off}

-- an infinity, or no number
abbrev pub half_fault : ℕ → Option WordFault
half_fault word = if has_no_value word then Some NotANumber else None

-- the code that is off, or one without a voltage
abbrev pub vid_fault : VidTable → ℕ → Option WordFault
vid_fault table word = if is_off table word then Some Off else (if has_voltage table word then None else Some NoCode)

-- in the linear formats and in DIRECT each word has a value
abbrev pub word_fault : NumberFormat → ℕ → Option WordFault
word_fault Linear11 word = None
word_fault (Linear11Fixed exponent) word = None
word_fault (Word format) word = None
word_fault Half word = half_fault word
word_fault (Vid table) word = vid_fault table word

abbrev pub value_unless : Option WordFault → Fraction → Result Fraction WordFault
value_unless None value = Ok value
value_unless (Some fault) value = Err fault

-- the exact value of a word, where it has one
abbrev pub value_in : NumberFormat → ℕ → Result Fraction WordFault
value_in format word = value_unless (word_fault format word) (value_of (number_coding format) word)
