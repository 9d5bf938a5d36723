-- What is answered to a line.
use Rattle.std.specs.Prelude.{◌≡◌, ℕ, Option, Some, None, Result, Ok, Err, List, [], ◌∷◌, ◌++◌, codes}
use Rattle.std.specs.Int.{from_be_bytes, to_be_bytes, w16}
use Rattle.hex.specs.Hex.{decode_sized, encode_lower}
use Rattle.hex.specs.declared.error.FromHexError.{FromHexError}
use Rattle.pmb_quantity.specs.declared.quantity.QuantityFault.{QuantityFault}
use Rattle.pmb_quantity.specs.declared.quantity.QuantityFault.TheVariants as quantity
use Rattle.pmb_value.specs.Coding.{Coding, IsAbove, IsBelow, IsInRange, IsNearest}
use Rattle.pmb_value.specs.Fraction.{Fraction}
use Rattle.pmb_value.specs.QuantityText.{spelling}
use Rattle.pmb_value.specs.Reading.{reading}
use Rattle.pmb_io.specs.Lines as lines
use Rattle.pmb_convert.specs.declared.conversion.Conversion.{Conversion}
use Rattle.pmb_convert.specs.declared.conversion.Conversion.TheVariants.{Encode, Decode}
use Rattle.pmb_convert.specs.declared.convert_fault.ConvertFault.{ConvertFault}
use Rattle.pmb_convert.specs.declared.convert_fault.ConvertFault.TheVariants.{TooLong, Empty, BadDigit, ZeroDenominator}
use Rattle.pmb_convert.specs.declared.convert_fault.ConvertFault.TheVariants.{TooLarge, Below, Above, BadCode}
use Rattle.pmb_convert.specs.declared.convert_fault.ConvertFault.TheVariants.{NotANumber, NoCode, Off}
use Rattle.pmb_value.specs.NumberFormat.{number_coding}
use Rattle.pmb_value.specs.WordFault.{value_in}
use Rattle.pmb_value.specs.declared.number_format.NumberFormat.{NumberFormat}
use Rattle.pmb_value.specs.declared.number_format.WordFault.{WordFault}
use Rattle.pmb_value.specs.declared.number_format.WordFault.TheVariants as word

-- a text, or why there is none
abbrev pub Answer : Type 0
Answer = Result (List ℕ) ConvertFault

-- the name of a fault
abbrev pub fault_name : ConvertFault → List ℕ
fault_name TooLong = codes "TooLong"
fault_name Empty = codes "Empty"
fault_name BadDigit = codes "BadDigit"
fault_name ZeroDenominator = codes "ZeroDenominator"
fault_name TooLarge = codes "TooLarge"
fault_name Below = codes "Below"
fault_name Above = codes "Above"
fault_name BadCode = codes "BadCode"
fault_name NotANumber = codes "NotANumber"
fault_name NoCode = codes "NoCode"
fault_name Off = codes "Off"

-- the line of an answer
abbrev pub answer_line : Answer → List ℕ
answer_line (Ok text) = text ++ codes "\n"
answer_line (Err fault) = codes "! " ++ (fault_name fault ++ codes "\n")

-- ---- codes

-- a code in four digits, in lower case
abbrev pub code_text : ℕ → List ℕ
code_text code = encode_lower (to_be_bytes w16 code)

-- the code that four digits write, in either case
abbrev pub word_of : Result (List ℕ) FromHexError → Option ℕ
word_of (Ok bytes) = Some (from_be_bytes w16 bytes)
word_of (Err error) = None

unfoldable pub code_of : List ℕ → Option ℕ
code_of text = word_of (decode_sized text 2)

-- ---- encode

abbrev pub fault_of : QuantityFault → ConvertFault
fault_of quantity.Empty = Empty
fault_of quantity.BadDigit = BadDigit
fault_of quantity.ZeroDenominator = ZeroDenominator
fault_of quantity.TooLarge = TooLarge

-- A quantity in range is answered by the nearest code, another by the side of the range on which it
-- lies.
pub data EncodesQuantity (f : Coding) (q : Fraction) (answer : Answer) : Type 0 where
  nearest : (code : ℕ) → IsNearest f q code → IsInRange f q → answer ≡ Ok (code_text code) → EncodesQuantity f q answer
  below : IsBelow f q → answer ≡ Err Below → EncodesQuantity f q answer
  above : IsAbove f q → answer ≡ Err Above → EncodesQuantity f q answer

-- and a text that spells none by its fault
abbrev pub EncodesRead : Coding → Result Fraction QuantityFault → Answer → Type 0
EncodesRead f (Ok q) answer = EncodesQuantity f q answer
EncodesRead f (Err fault) answer = answer ≡ Err (fault_of fault)

-- ---- decode

abbrev pub value_fault : WordFault → ConvertFault
value_fault word.NotANumber = NotANumber
value_fault word.NoCode = NoCode
value_fault word.Off = Off

-- a word is answered by its exact value, or by why it has none
abbrev pub word_answer : Result Fraction WordFault → Answer
word_answer (Ok value) = Ok (spelling value)
word_answer (Err fault) = Err (value_fault fault)

abbrev pub decoded_answer : NumberFormat → Option ℕ → Answer
decoded_answer format None = Err BadCode
decoded_answer format (Some code) = word_answer (value_in format code)

-- ---- lines

-- what is answered to what a line says
abbrev pub AnswersText : Conversion → List ℕ → Answer → Type 0
AnswersText (Encode format) text answer = EncodesRead (number_coding format) (reading text) answer
AnswersText (Decode format) text answer = answer ≡ decoded_answer format (code_of text)

-- what is answered to a line: a CR before its LF is no part of what it says
abbrev pub AnswersLine : Conversion → lines.TextLine → Answer → Type 0
AnswersLine conversion (lines.Ended text) answer = AnswersText conversion (lines.without_cr text) answer
AnswersLine conversion (lines.Last text) answer = AnswersText conversion text answer
AnswersLine conversion lines.TooLong answer = answer ≡ Err TooLong

-- each line has its answer, in their order
abbrev pub AnswersEach : Conversion → List lines.TextLine → List Answer → Type 0
AnswersEach conversion [] [] = Unit {0}
AnswersEach conversion [] (answer ∷ answers) = ⊥
AnswersEach conversion (line ∷ rest) [] = ⊥
AnswersEach conversion (line ∷ rest) (answer ∷ answers) = AnswersLine conversion line answer
    × AnswersEach conversion rest answers
