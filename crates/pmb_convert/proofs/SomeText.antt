-- Some text answers any input: the law `some_text`. Each code that is written decodes or is no
-- code; each quantity that is read has a nearest code or is out of range; so each line has an
-- answer.
use Rattle.std.proofs.Common.{◌≢◌, ℕ, ◌<◌, inl, inr, Result, Ok, Err, ℤ, pos, List, [], ◌∷◌, refl, count_by, is_ok}
use Rattle.std.proofs.Common.{is_err}
use Rattle.std.specs.List.{flat_map}
use Rattle.pmb_quantity.specs.declared.quantity.QuantityFault.{QuantityFault}
use Rattle.pmb_quantity.specs.Fraction.{Fraction}
use Rattle.pmb_quantity.specs.Reading.{reading}
use Rattle.pmb_value.specs.Answers.{HasAnswers}
use Rattle.pmb_value.specs.Coding.{Coding}
use Rattle.pmb_value.specs.Direct.{Coefficients, direct}
use Rattle.pmb_value.specs.Linear.{IsExponent, linear11, linear11_fixed, ulinear16, slinear16}
use Rattle.pmb_value.specs.declared.number_format.NumberFormat.{NumberFormat}
use Rattle.pmb_value.specs.declared.number_format.NumberFormat.TheVariants.{Linear11, Linear11Fixed, Word, Half, Vid}
use Rattle.pmb_value.specs.declared.vout.VoutFormat.TheVariants.{Unsigned, Signed, Direct}
use Rattle.pmb_value.specs.Half.{half}
use Rattle.pmb_value.specs.Vid.{vid}
use Rattle.pmb_vid.specs.declared.table.VidTable.{VidTable}
use Rattle.pmb_value.specs.NumberFormat.{IsFormat, number_coding}
use Rattle.pmb_io.specs.Count.{capped}
use Rattle.pmb_io.specs.Lines as lines
use Rattle.pmb_convert.specs.declared.conversion.Conversion.{Conversion}
use Rattle.pmb_convert.specs.declared.conversion.Conversion.TheVariants.{Encode, Decode}
use Rattle.pmb_convert.specs.declared.convert_fault.ConvertFault.TheVariants.{TooLong, Below, Above}
use Rattle.pmb_convert.specs.Answer.{Answer, AnswersEach, AnswersLine, AnswersText, EncodesQuantity, EncodesRead}
use Rattle.pmb_convert.specs.Answer.{nearest, below, above, answer_line, code_of, code_text, decoded_answer, fault_of}
use Rattle.pmb_convert.specs.Laws.{HasPositive, HasText}
use Rattle.pmb_convert.specs.Lines.{most_conversion_line}
use Rattle.pmb_convert.proofs.Determined.{StaysPositive, reading-positive}

-- each text has an answer
abbrev pub HasSomeAnswer : Conversion → Type 0
HasSomeAnswer conversion = (text : List ℕ) → (answer : Answer) × AnswersText conversion text answer

pub decode_some : (format : NumberFormat) → HasSomeAnswer (Decode format)
decode_some format text = (decoded_answer format (code_of text), refl)

quantity_some : (f : Coding) → HasAnswers f → (q : Fraction) → 0 < q.denominator
    → (answer : Answer) × EncodesQuantity f q answer
quantity_some f has q positive =
    elim (has q positive) [
      | inl inside ↦ let code = inside.1 in (Ok (code_text code.0), nearest code.0 code.1 inside.0 refl)
      | inr outside ↦ elim outside [
        | inl under ↦ (Err Below, below under refl)
        | inr over ↦
            (Err Above, above over refl)
      ]
    ]

read_some : (f : Coding) → HasAnswers f → (read : Result Fraction QuantityFault) → HasPositive read
    → (answer : Answer) × EncodesRead f read answer
read_some f has (Ok q) positive = quantity_some f has q positive
read_some f has (Err fault) positive = (Err (fault_of fault), refl)

encode_some : StaysPositive → (format : NumberFormat) → HasAnswers (number_coding format)
    → HasSomeAnswer (Encode format)
encode_some stays format has text = read_some (number_coding format) has (reading text) (reading-positive stays text)

pub encodes_some : StaysPositive → HasAnswers linear11 → ((e : ℤ) → IsExponent e → HasAnswers (linear11_fixed e))
    → ((e : ℤ) → IsExponent e → HasAnswers (ulinear16 e)) → ((e : ℤ) → IsExponent e → HasAnswers (slinear16 e))
    → ((d : Coefficients) → d.m ≢ pos 0 → HasAnswers (direct d)) → HasAnswers half
    → ((table : VidTable) → HasAnswers (vid table))
    → (format : NumberFormat) → IsFormat format → HasSomeAnswer (Encode format)
encodes_some stays a fixed b c d e v Linear11 is = encode_some stays Linear11 a
encodes_some stays a fixed b c d e v (Linear11Fixed n) is = encode_some stays (Linear11Fixed n) (fixed n is)
encodes_some stays a fixed b c d e v (Word (Unsigned n)) is = encode_some stays (Word (Unsigned n)) (b n is)
encodes_some stays a fixed b c d e v (Word (Signed n)) is = encode_some stays (Word (Signed n)) (c n is)
encodes_some stays a fixed b c d e v (Word (Direct k)) is = encode_some stays (Word (Direct k)) (d k is.slope)
encodes_some stays a fixed b c d e v Half is = encode_some stays Half e
encodes_some stays a fixed b c d e v (Vid table) is = encode_some stays (Vid table) (v table)

-- ---- and so have lines

line_some : (conversion : Conversion) → HasSomeAnswer conversion → (line : lines.TextLine)
    → (answer : Answer) × AnswersLine conversion line answer
line_some conversion some (lines.Ended text) = some (lines.without_cr text)
line_some conversion some (lines.Last text) = some text
line_some conversion some lines.TooLong = (Err TooLong, refl)

each_some : (conversion : Conversion) → HasSomeAnswer conversion → (given : List lines.TextLine)
    → (answers : List Answer) × AnswersEach conversion given answers
each_some conversion some [] = ([], tt)
each_some conversion some (line ∷ rest) =
    let first = line_some conversion some line in
    let behind = each_some conversion some rest in
    (first.0 ∷ behind.0, (first.1, behind.1))

pub has_text : (conversion : Conversion) → HasSomeAnswer conversion → HasText conversion
has_text conversion some bytes =
    let all = each_some conversion some (lines.lines_of most_conversion_line bytes) in (
      record { packets = capped (count_by is_ok all.0); refusals = capped (count_by is_err all.0) },
      flat_map answer_line all.0,
      record {
        given = record { answers = all.0; each = all.1; whole = refl };
        counts = record { packets_counted = refl; refusals_counted = refl };
      },
    )
