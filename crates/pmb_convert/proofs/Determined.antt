-- The answers to the lines of an input are those of its bytes alone: for the laws `one_text`,
-- `some_text`, `readings_have_denominators` and `ended_lines_come_first`. A text is read as one
-- quantity, with a positive denominator; it has one nearest code or is on one side of the range;
-- so each line has one answer.
use Rattle.std.proofs.Common.{◌≡◌, ◌≢◌, ℕ, ◌<◌, ◌≤◌, ◌^◌, false, ◌&&◌, ◌||◌, ◌==◌, unsigned_abs, nat_lt, nat_le, cond}
use Rattle.std.proofs.Common.{Option, Some, None, Result, Ok, Err, ℤ, pos, List, [], ◌∷◌, ◌++◌, length, refl, sym, ◌∙◌}
use Rattle.std.proofs.Common.{ap, arith, count_by, is_ok, is_err}
use Rattle.std.specs.List.{flat_map}
use Rattle.std.specs.Str.Parse.{digits_value}
use Rattle.std.proofs.Math.Nat.{one-le-pow}
use Rattle.std.proofs.lemmas.Int.{ints}
use Rattle.std.proofs.lemmas.Bool.Decides.{nat_tests}
use Rattle.pmb_quantity.specs.declared.quantity.QuantityFault.{QuantityFault}
use Rattle.pmb_quantity.specs.declared.quantity.QuantityFault.TheVariants.{TooLarge, ZeroDenominator}
use Rattle.pmb_quantity.specs.Fraction.{Fraction, lowest_terms}
use Rattle.pmb_quantity.specs.Quantity.{fitted, negated}
use Rattle.pmb_quantity.specs.Reading.{Numeral, point, slash, numeral_of, numeral_value, point_value, reading}
use Rattle.pmb_quantity.specs.Reading.{slash_value, without_last_zeros}
use Rattle.pmb_value.specs.Coding.{Coding, IsAbove, IsBelow, IsInRange}
use Rattle.pmb_value.specs.Direct.{Coefficients, direct}
use Rattle.pmb_value.specs.Laws.{HasOneNearest}
use Rattle.pmb_value.specs.Linear.{IsExponent, linear11, linear11_fixed, ulinear16, slinear16}
use Rattle.pmb_value.specs.declared.vout.VoutFormat.TheVariants.{Unsigned, Signed, Direct}
use Rattle.pmb_io.specs.Count.{capped}
use Rattle.pmb_io.specs.Lines as lines
use Rattle.pmb_io.specs.declared.tally.Tally.{Tally}
use Rattle.pmb_convert.specs.declared.conversion.Conversion.{Conversion}
use Rattle.pmb_convert.specs.declared.conversion.Conversion.TheVariants.{Encode, Decode}
use Rattle.pmb_value.specs.declared.number_format.NumberFormat.{NumberFormat}
use Rattle.pmb_value.specs.declared.number_format.NumberFormat.TheVariants.{Linear11, Linear11Fixed, Word, Half, Vid}
use Rattle.pmb_convert.specs.Answer.{Answer, AnswersEach, AnswersLine, AnswersText, EncodesQuantity, EncodesRead}
use Rattle.pmb_convert.specs.Answer.{nearest, below, above, answer_line, code_text}
use Rattle.pmb_value.specs.Half.{half}
use Rattle.pmb_value.specs.Vid.{vid, first_code, last_code}
use Rattle.pmb_vid.specs.declared.table.VidTable.{VidTable}
use Rattle.pmb_vid.specs.declared.table.VidTable.TheVariants.{Vr11, Vr12, Vr13, Imvp9, Amd625mv, Nvidia195mv}
use Rattle.pmb_value.specs.NumberFormat.{IsFormat, number_coding}
use Rattle.pmb_convert.proofs.Choices.{picks}
use Rattle.pmb_convert.specs.Laws.{HasPositive, IsDetermined}
use Rattle.pmb_convert.specs.Lines.{AnswersCounted, AnswersLines}

-- ---- a quantity that is read has a denominator

-- what is known of lowest terms
abbrev pub StaysPositive : Type 0
StaysPositive = (n : ℤ) (d : ℕ) → 0 < d → 0 < (lowest_terms n d).denominator

fitted-positive : (q : Fraction) → 0 < q.denominator → HasPositive (fitted q)
fitted-positive q positive =
    picks HasPositive (nat_lt (unsigned_abs q.numerator) (2 ^ 62) && nat_lt q.denominator (2 ^ 62)) (Ok q)
    (Err TooLarge) (λ _. positive) (λ _. tt)

ten-positive : (places : ℕ) → 0 < 10 ^ places
ten-positive places = omega (arith, one-le-pow places 10 (omega arith))

lowest-positive : StaysPositive → (n d : ℕ) → 0 < d → HasPositive (fitted (lowest_terms (pos n) d))
lowest-positive stays n d positive = fitted-positive (lowest_terms (pos n) d) (stays (pos n) d positive)

point-positive : StaysPositive → (front back : List ℕ) → HasPositive (point_value front back)
unfolding point_value
point-positive stays front back =
    let kept = without_last_zeros back in
    let n = digits_value 10 (front ++ kept) in
    let d = 10 ^ length kept in
    picks HasPositive (nat_lt 24 (length kept)) (Err TooLarge) (fitted (lowest_terms (pos n) d)) (λ _. tt)
    (λ _. lowest-positive stays n d (ten-positive (length kept)))

not_zero : (d : ℕ) → (d == 0) ≡ false → 0 < d
not_zero d test = grind (arith, nat_tests)

slash-positive : StaysPositive → (front back : List ℕ) → HasPositive (slash_value front back)
unfolding slash_value
slash-positive stays front back =
    let n = digits_value 10 front in
    let d = digits_value 10 back in
    let large = nat_le (2 ^ 63) n || nat_le (2 ^ 63) d in
    let value = fitted (lowest_terms (pos n) d) in
    picks HasPositive (d == 0) (Err ZeroDenominator) (cond large (Err TooLarge) value) (λ _. tt)
    (λ some. picks HasPositive large (Err TooLarge) value (λ _. tt) (λ _. lowest-positive stays n d (not_zero d some)))

numeral-positive : StaysPositive → (numeral : Option Numeral) → HasPositive (numeral_value numeral)
numeral-positive stays None = tt
numeral-positive stays (Some (point front back)) = point-positive stays front back
numeral-positive stays (Some (slash front back)) = slash-positive stays front back

negated-positive : (r : Result Fraction QuantityFault) → HasPositive r → HasPositive (negated r)
negated-positive (Ok q) positive = positive
negated-positive (Err fault) positive = tt

pub reading-positive : StaysPositive → (text : List ℕ) → HasPositive (reading text)
unfolding reading
reading-positive stays [] = tt
reading-positive stays (c ∷ cs) =
    let minus = numeral_value (numeral_of cs) in
    let plain = numeral_value (numeral_of (c ∷ cs)) in
    picks HasPositive (c == 45) (negated minus) plain
    (λ _. negated-positive minus (numeral-positive stays (numeral_of cs)))
    (λ _. numeral-positive stays (numeral_of (c ∷ cs)))

-- ---- a quantity has one answer

not_below : (f : Coding) (q : Fraction) → IsInRange f q → IsBelow f q → ⊥
not_below f q inside under =
    let reached = inside.from_least in
    let less = under reached.0 reached.1 in
    let no_less = reached.2 in
    omega (arith, ints, less, no_less)

not_above : (f : Coding) (q : Fraction) → IsInRange f q → IsAbove f q → ⊥
not_above f q inside over =
    let reached = inside.to_greatest in
    let less = over reached.0 reached.1 in
    let no_less = reached.2 in
    omega (arith, ints, less, no_less)

not_both : (f : Coding) (q : Fraction) (code : ℕ) → f.IsCode code → IsBelow f q → IsAbove f q → ⊥
not_both f q code is_code under over =
    let less = under code is_code in
    let more = over code is_code in
    omega (arith, ints, less, more)

one_quantity : (f : Coding) (q : Fraction) (code : ℕ) → HasOneNearest f → f.IsCode code → 0 < q.denominator
    → (a b : Answer) → EncodesQuantity f q a → EncodesQuantity f q b → a ≡ b
one_quantity f q code one is_code positive a b (nearest c c_is inside a_is) (nearest d d_is inside' b_is) =
    a_is ∙ ap (λ k. Ok (code_text k)) (one q c d positive c_is d_is) ∙ sym b_is
one_quantity f q code one is_code positive a b (nearest c c_is inside a_is) (below under b_is) =
    absurd (not_below f q inside under)
one_quantity f q code one is_code positive a b (nearest c c_is inside a_is) (above over b_is) =
    absurd (not_above f q inside over)
one_quantity f q code one is_code positive a b (below under a_is) (nearest d d_is inside b_is) =
    absurd (not_below f q inside under)
one_quantity f q code one is_code positive a b (below under a_is) (below under' b_is) = a_is ∙ sym b_is
one_quantity f q code one is_code positive a b (below under a_is) (above over b_is) =
    absurd (not_both f q code is_code under over)
one_quantity f q code one is_code positive a b (above over a_is) (nearest d d_is inside b_is) =
    absurd (not_above f q inside over)
one_quantity f q code one is_code positive a b (above over a_is) (below under b_is) =
    absurd (not_both f q code is_code under over)
one_quantity f q code one is_code positive a b (above over a_is) (above over' b_is) = a_is ∙ sym b_is

-- ---- a text has one answer

abbrev pub HasOneAnswer : Conversion → Type 0
HasOneAnswer conversion = (text : List ℕ) (a b : Answer) → AnswersText conversion text a → AnswersText conversion text b
    → a ≡ b

pub decode_one : (format : NumberFormat) → HasOneAnswer (Decode format)
decode_one format text a b a_is b_is = a_is ∙ sym b_is

encode_one : (format : NumberFormat) (code : ℕ) → StaysPositive → HasOneNearest (number_coding format)
    → (number_coding format).IsCode code → HasOneAnswer (Encode format)
encode_one format code stays one is_code text a b = by (reading text) (reading-positive stays text)
  where
    by : (read : Result Fraction QuantityFault) → HasPositive read → EncodesRead (number_coding format) read a
        → EncodesRead (number_coding format) read b → a ≡ b
    by (Ok q) positive left right = one_quantity (number_coding format) q code one is_code positive a b left right
    by (Err fault) positive left right = left ∙ sym right

-- ---- and so have lines

one_line : (conversion : Conversion) → HasOneAnswer conversion → (line : lines.TextLine) (a b : Answer)
    → AnswersLine conversion line a → AnswersLine conversion line b → a ≡ b
one_line conversion one (lines.Ended text) a b left right = one (lines.without_cr text) a b left right
one_line conversion one (lines.Last text) a b left right = one text a b left right
one_line conversion one lines.TooLong a b left right = left ∙ sym right

each_one : (conversion : Conversion) → HasOneAnswer conversion → (given : List lines.TextLine) (xs ys : List Answer)
    → AnswersEach conversion given xs → AnswersEach conversion given ys → xs ≡ ys
each_one conversion one [] [] [] left right = refl
each_one conversion one [] [] (y ∷ ys) left right = absurd right
each_one conversion one [] (x ∷ xs) ys left right = absurd left
each_one conversion one (line ∷ rest) [] ys left right = absurd left
each_one conversion one (line ∷ rest) (x ∷ xs) [] left right = absurd right
each_one conversion one (line ∷ rest) (x ∷ xs) (y ∷ ys) left right =
    let head = one_line conversion one line x y left.0 right.0 in
    let tail = each_one conversion one rest xs ys left.1 right.1 in
    (λ i. head i ∷ tail i)

pub one_text : (conversion : Conversion) → HasOneAnswer conversion → (given : List lines.TextLine) (text other : List ℕ)
    → AnswersLines conversion given text → AnswersLines conversion given other → text ≡ other
one_text conversion one given text other left right =
    left.whole ∙ ap (flat_map answer_line) (each_one conversion one given left.answers right.answers left.each
    right.each) ∙ sym right.whole

one_tally : (conversion : Conversion) → HasOneAnswer conversion
    → (given : List lines.TextLine) (text other : List ℕ) (tally count : Tally)
    → AnswersCounted conversion tally given text → AnswersCounted conversion count given other
    → tally ≡ count
one_tally conversion one given text other tally count left right =
    let same = each_one conversion one given left.given.answers right.given.answers left.given.each right.given.each in
    let packets = left.counts.packets_counted ∙ ap (λ xs. capped (count_by is_ok xs)) same
    ∙ sym right.counts.packets_counted in
    let refusals = left.counts.refusals_counted ∙ ap (λ xs. capped (count_by is_err xs)) same
    ∙ sym right.counts.refusals_counted in
    (λ i. record { packets = packets i; refusals = refusals i })

pub determined : (conversion : Conversion) → HasOneAnswer conversion → IsDetermined conversion
determined conversion one = record {
  text = λ bytes text other tally count left right. one_text conversion one _ text other left.given right.given;
  tally = λ bytes text other tally count left right. one_tally conversion one _ text other tally count left right;
  ended = λ bytes text other left right. one_text conversion one _ text other left right;
}

-- some code has a voltage
some_voltage : (table : VidTable) → first_code table ≤ last_code table
some_voltage Vr11 = omega arith
some_voltage Vr12 = omega arith
some_voltage Vr13 = omega arith
some_voltage Imvp9 = omega arith
some_voltage Amd625mv = omega arith
some_voltage Nvidia195mv = omega arith

pub encodes : StaysPositive → HasOneNearest linear11 → ((e : ℤ) → IsExponent e → HasOneNearest (linear11_fixed e))
    → ((e : ℤ) → IsExponent e → (code : ℕ) × (linear11_fixed e).IsCode code)
    → ((e : ℤ) → IsExponent e → HasOneNearest (ulinear16 e)) → ((e : ℤ) → IsExponent e → HasOneNearest (slinear16 e))
    → ((d : Coefficients) → d.m ≢ pos 0 → HasOneNearest (direct d)) → HasOneNearest half
    → ((table : VidTable) → HasOneNearest (vid table)) → (format : NumberFormat) → IsFormat format
    → HasOneAnswer (Encode format)
encodes stays a fixed some_code b c d h v Linear11 is = encode_one Linear11 0 stays a (omega arith)
encodes stays a fixed some_code b c d h v (Linear11Fixed e) is = let code = some_code e is in
    encode_one (Linear11Fixed e) code.0 stays (fixed e is) code.1
encodes stays a fixed some_code b c d h v (Word (Unsigned e)) is = encode_one (Word (Unsigned e)) 0 stays (b e is)
    (omega arith)
encodes stays a fixed some_code b c d h v (Word (Signed e)) is = encode_one (Word (Signed e)) 0 stays (c e is)
    (omega arith)
encodes stays a fixed some_code b c d h v (Word (Direct k)) is = encode_one (Word (Direct k)) 0 stays (d k is.slope)
    (omega arith)
encodes stays a fixed some_code b c d h v Half is = encode_one Half 0 stays h (omega arith, omega arith)
encodes stays a fixed some_code b c d h v (Vid table) is = encode_one (Vid table) (first_code table) stays (v table)
    (omega arith, some_voltage table)
