-- What is kept while lines are answered.
use Rattle.std.specs.Prelude.{◌≡◌, ℕ, Result, Ok, Err, List}
use Rattle.pmb_io.specs.Lines.{TextLine}
use Rattle.pmb_io.specs.Tally.{with_packet, with_refusal}
use Rattle.pmb_convert.specs.declared.conversion.Conversion.{Conversion}
use Rattle.pmb_convert.specs.declared.converter.Converter.{Converter}
use Rattle.pmb_convert.specs.declared.convert_fault.ConvertFault.{ConvertFault}
use Rattle.pmb_convert.specs.declared.answer.Converted.{Converted}
use Rattle.pmb_convert.specs.declared.answer.Converted.TheVariants.{Code, Value}
use Rattle.pmb_value.specs.QuantityText.{spelling}
use Rattle.pmb_convert.specs.Answer.{Answer, code_text}
use Rattle.pmb_convert.specs.Lines.{AnswersCounted}

-- the text of what a number is converted to
abbrev pub converted_text : Converted → List ℕ
converted_text (Code code) = code_text code
converted_text (Value quantity) = spelling quantity

-- the answer that it gives
abbrev pub answer_of : Result Converted ConvertFault → Answer
answer_of (Ok converted) = Ok (converted_text converted)
answer_of (Err fault) = Err fault

-- nothing was counted yet
abbrev pub fresh : Conversion → Converter
fresh conversion = record { conversion = conversion; tally = record { packets = 0; refusals = 0 } }

-- an answer more
abbrev pub with_answer : Converter → Answer → Converter
with_answer converter (Ok text) = record converter { tally = with_packet converter.tally }
with_answer converter (Err fault) = record converter { tally = with_refusal converter.tally }

-- the conversion stays, and the text is the answers to the lines, which are counted
pub record ConverterStands (start now : Converter) (lines : List TextLine) (text : List ℕ) : Type 0 where
  pub same : now.conversion ≡ start.conversion
  pub answered : AnswersCounted start.conversion now.tally lines text
