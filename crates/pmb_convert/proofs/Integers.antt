-- What std reads of decimal numbers and of the parts round a comma, in the words of a FORMAT's
-- spelling. For `integer`, `small_integer`, `around_comma` and, through `Sayings`, for
-- `parse_format`. A number's text is digits with a minus sign or none; a plus sign, which std
-- would take, writes no number, and no number's text has a comma.
use Rattle.std.proofs.Common.{◌≡◌, ◌≢◌, ℕ, suc, ◌<◌, ◌≤◌, true, false, eqb, ◌⊎◌, Option, Some, None, Result, Ok, Err, ℤ}
use Rattle.std.proofs.Common.{pos, neg_ℤ, List, [], ◌∷◌, ◌++◌, length, get_or, inl, inr, refl, sym, ap, ◌∙◌, subst}
use Rattle.std.proofs.Common.{arith, eq-eqb, length-append}
use mir.Syntax.{Width}
use Rattle.std.specs.Borrow.{Bor}
use Rattle.std.specs.Char.{digit_value}
use Rattle.std.specs.Prelude.{FitsSigned}
use Rattle.std.specs.Result.{OkIff, result_ok}
use Rattle.std.specs.Str.Parse.{AllDigits, IsNumeral, ParsesSigned, digits_value}
use Rattle.std.proofs.Math.Seq.{get_or-append_seam}
use Rattle.std.proofs.lemmas.Bool.{cases_eq, ne_eqb}
use Rattle.std.proofs.lemmas.Str.Pattern.{IsSplitOnceResult, split_parts}
use Rattle.pmb_convert.specs.Spelling.{WritesInteger, plain, minus}
use Rattle.pmb_convert.specs.machine.Parts.{HasNoComma, ReadsInteger, SplitsAtComma}

-- ---- digits

-- a character that is no decimal digit begins no numeral
no_numeral : (c : ℕ) (cs : List ℕ) → 10 ≤ digit_value c → ¬ (IsNumeral 10 (c ∷ cs))
no_numeral c cs large numeral = let small : digit_value c < 10 = numeral.1.0 in absurd (omega arith)

digit_is_no_comma : (c : ℕ) → digit_value c < 10 → c ≢ 44
digit_is_no_comma c small is = let less : digit_value 44 < 10 = subst (λ x. digit_value x < 10) is small in
    absurd (omega arith)

digits_have_no_comma : (ds : List ℕ) → AllDigits 10 ds → HasNoComma ds
digits_have_no_comma [] digits = tt
digits_have_no_comma (d ∷ ds) digits = (digit_is_no_comma d digits.0, digits_have_no_comma ds digits.1)

-- a number's text has no comma
pub number_has_no_comma : (text : List ℕ) (n : ℤ) → WritesInteger text n → HasNoComma text
number_has_no_comma text n (plain numeral is) = digits_have_no_comma text numeral.1
number_has_no_comma text n (minus digits whole numeral is) =
    let free : HasNoComma (45 ∷ digits) = ((λ e. absurd (omega arith)), digits_have_no_comma digits numeral.1) in
    subst HasNoComma (sym whole) free

-- and writes one number
pub one_number : (text : List ℕ) (a b : ℤ) → WritesInteger text a → WritesInteger text b → a ≡ b
one_number text a b (plain _ a_is) (plain _ b_is) = a_is ∙ sym b_is
one_number text a b (plain numeral _) (minus digits whole _ _) =
    absurd (no_numeral 45 digits (omega arith) (subst (IsNumeral 10) whole numeral))
one_number text a b (minus digits whole _ _) (plain numeral _) =
    absurd (no_numeral 45 digits (omega arith) (subst (IsNumeral 10) whole numeral))
one_number text a b (minus digits whole _ a_is) (minus digits' whole' _ b_is) =
    let same : digits ≡ digits' = cc in
    a_is ∙ ap (λ ds. neg_ℤ (pos (digits_value 10 ds))) same ∙ sym b_is

-- ---- what std reads at a signed type

-- after a `-` (45)
read_minus : {E : Type 0} (w : Width) (ds : List ℕ) (r : Result ℤ E)
    → OkIff r (IsNumeral 10 ds × FitsSigned w (neg_ℤ (pos (digits_value 10 ds)))) (neg_ℤ (pos (digits_value 10 ds)))
    → ReadsInteger w (45 ∷ ds) (result_ok r)
read_minus w ds (Ok x) reads = (minus ds refl reads.0.0 reads.1, subst (FitsSigned w) (sym reads.1) reads.0.1)
read_minus w ds (Err e) reads = none
  where
    none : (n : ℤ) → WritesInteger (45 ∷ ds) n → ¬ (FitsSigned w n)
    none n (plain numeral is) fits = no_numeral 45 ds (omega arith) numeral
    none n (minus digits whole numeral is) fits =
        let same : digits ≡ ds = cc in
        reads (
          subst (IsNumeral 10) same numeral,
          subst (FitsSigned w) (is ∙ ap (λ xs. neg_ℤ (pos (digits_value 10 xs))) same) fits,
        )

-- without a sign
read_plain : {E : Type 0} (w : Width) (c : ℕ) (cs : List ℕ) (r : Result ℤ E) → c ≢ 45
    → OkIff r (IsNumeral 10 (c ∷ cs) × FitsSigned w (pos (digits_value 10 (c ∷ cs)))) (pos (digits_value 10 (c ∷ cs)))
    → ReadsInteger w (c ∷ cs) (result_ok r)
read_plain w c cs (Ok x) other reads = (plain reads.0.0 reads.1, subst (FitsSigned w) (sym reads.1) reads.0.1)
read_plain w c cs (Err e) other reads = none
  where
    none : (n : ℤ) → WritesInteger (c ∷ cs) n → ¬ (FitsSigned w n)
    none n (plain numeral is) fits = reads (numeral, subst (FitsSigned w) is fits)
    none n (minus digits whole numeral is) fits = let same : c ≡ 45 = cc in other same

-- a text without a leading `+` (43)
pub reads_integer : {E : Type 0} (w : Width) (text : List ℕ) (r : Result ℤ E) → get_or text 0 0 ≢ 43
    → ParsesSigned w 10 text r → ReadsInteger w text (result_ok r)
reads_integer w [] (Ok x) no_plus reads = absurd (omega (arith, reads.0.0.0))
reads_integer w [] (Err e) no_plus reads = none
  where
    none : (n : ℤ) → WritesInteger [] n → ¬ (FitsSigned w n)
    none n (plain numeral is) fits = absurd (omega (arith, numeral.0))
    none n (minus digits whole numeral is) fits = cc
reads_integer {E} w (c ∷ cs) r no_plus reads = by_sign (cases_eq c 45)
  where
    by_sign : (c ≡ 45) ⊎ (c ≢ 45) → ReadsInteger w (c ∷ cs) (result_ok r)
    by_sign (inl is) =
        let test : eqb c 45 ≡ true = eq-eqb c 45 is in
        subst (λ x. ReadsInteger w (x ∷ cs) (result_ok r)) (sym is) (read_minus w cs r (rw test at reads))
    by_sign (inr other) =
        let test : eqb c 45 ≡ false = ne_eqb c 45 other in
        let plus : eqb c 43 ≡ false = ne_eqb c 43 no_plus in
        read_plain w c cs r other (rw (test, plus) at reads)

-- and one with it, which writes no number
pub plus_is_none : (w : Width) (text : List ℕ) → get_or text 0 0 ≡ 43 → ReadsInteger w text None
plus_is_none w [] plus = absurd (omega arith)
plus_is_none w (c ∷ cs) plus = none
  where
    none : (n : ℤ) → WritesInteger (c ∷ cs) n → ¬ (FitsSigned w n)
    none n (plain numeral is) fits = no_numeral c cs (subst (λ x. 10 ≤ digit_value x) (sym plus) (omega arith)) numeral
    none n (minus digits whole numeral is) fits = let is_45 : c ≡ 45 = cc in absurd (omega arith)

-- ---- the parts round a comma (44)

free : (xs : List ℕ) → ((i : ℕ) → i < length xs → get_or xs i 0 ≢ 44) → HasNoComma xs
free [] none = tt
free (x ∷ xs) none = (none 0 (omega arith), free xs (λ i inside. none (suc i) (omega arith)))

pub splits : (text : List ℕ) (r : Option (Bor (List ℕ) × Bor (List ℕ))) → IsSplitOnceResult 44 text r
    → SplitsAtComma text r
splits text None split = λ front back no_comma is.
    let absent = split_parts 44 text None split (omega arith) in
    absent (length front) (let whole : length text ≡ length (front ++ (44 ∷ back)) = ap length is in
    omega (arith, length-append front (44 ∷ back)))
    (ap (λ t. get_or t (length front) 0) is ∙ get_or-append_seam front 44 back 0)
splits text (Some parts) split =
    let found = split_parts 44 text (Some parts) split (omega arith) in
    (free parts.0.now found.1, found.0)

-- a text has one first comma
pub one_comma : (a b c d : List ℕ) → HasNoComma a → HasNoComma c → a ++ (44 ∷ b) ≡ c ++ (44 ∷ d) → (a ≡ c) × (b ≡ d)
one_comma [] b [] d _ _ same = (refl, cc)
one_comma [] b (x ∷ c) d _ no_comma same = let is : x ≡ 44 = cc in absurd (no_comma.0 is)
one_comma (x ∷ a) b [] d no_comma _ same = let is : x ≡ 44 = cc in absurd (no_comma.0 is)
one_comma (x ∷ a) b (y ∷ c) d left right same =
    let rest : a ++ (44 ∷ b) ≡ c ++ (44 ∷ d) = cc in
    let parts = one_comma a b c d left.1 right.1 rest in
    let head : x ≡ y = cc in
    ((λ i. head i ∷ parts.0 i), parts.1)
