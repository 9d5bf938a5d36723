-- Digits in texts: for `numeral_of`, `is_number` and the laws `text_reads_back` and
-- `text_is_shortest`. The digits that a text begins with pass the test for digits; front and rest
-- of a text say whether it writes digits alone, a point or a slash between digits, or no number.
use Rattle.std.proofs.Common.{◌≡◌, ◌≢◌, ℕ, zero, suc, ◌+◌, ◌-◌, ◌<◌, ◌≤◌, Bool, true, false, cond, ◌&&◌, ◌==◌, List, []}
use Rattle.std.proofs.Common.{◌∷◌, length, take, drop, get_or, Some, None, refl, sym, ap, ◌∙◌, subst, arith}
use Rattle.std.specs.Char.{is_ascii_digit, digit_value}
use Rattle.std.specs.List.{prefix_len, list_all}
use Rattle.std.specs.Str.Parse.{AllDigits}
use Rattle.std.proofs.lemmas.Bool.{false≢true}
use Rattle.std.proofs.lemmas.List.{take_all}
use Rattle.std.proofs.lemmas.Bool.Decides.{nat_tests}
use Rattle.pmb_quantity.specs.Reading.{are_digits, point, marked, numeral_parts, numeral_of}

-- a digit by the test and by its value
pub digit_of_test : (c : ℕ) → is_ascii_digit c ≡ true → digit_value c < 10
digit_of_test c passes = grind (arith, nat_tests)

pub test_of_digit : (c : ℕ) → digit_value c < 10 → is_ascii_digit c ≡ true
test_of_digit c small = grind (arith, nat_tests)

-- both tests of a conjunction pass
and_parts : (a b : Bool) → (a && b) ≡ true → (a ≡ true) × (b ≡ true)
and_parts true b both = (refl, both)
and_parts false b both = absurd (false≢true both)

-- digits alone
pub AllDigits-from_test : (ds : List ℕ) → list_all is_ascii_digit ds ≡ true → AllDigits 10 ds
AllDigits-from_test [] passes = tt
AllDigits-from_test (d ∷ ds) passes =
    let parts = and_parts (is_ascii_digit d) (list_all is_ascii_digit ds) passes in
    (digit_of_test d parts.0, AllDigits-from_test ds parts.1)

-- one digit more
prefix_step : (c : ℕ) (cs : List ℕ) (b : Bool) → is_ascii_digit c ≡ b
    → AllDigits 10 (take (prefix_len is_ascii_digit cs) cs)
    → AllDigits 10 (take (cond b (1 + prefix_len is_ascii_digit cs) 0) (c ∷ cs))
prefix_step c cs false fails digits = tt
prefix_step c cs true passes digits =
    let one : 1 + prefix_len is_ascii_digit cs ≡ suc (prefix_len is_ascii_digit cs) = omega arith in
    rw one (digit_of_test c passes, digits)

-- the digits that a text begins with
pub AllDigits-prefix : (ts : List ℕ) → AllDigits 10 (take (prefix_len is_ascii_digit ts) ts)
AllDigits-prefix [] = tt
AllDigits-prefix (c ∷ cs) = prefix_step c cs (is_ascii_digit c) refl (AllDigits-prefix cs)

pub are_digits-some : (ts : List ℕ) → length ts ≢ 0 → are_digits ts ≡ list_all is_ascii_digit ts
are_digits-some [] some = absurd (some refl)
are_digits-some (c ∷ cs) some = refl

-- what the parts of a text write, by their lengths
pub parts-no_front : (front rest : List ℕ) → length front ≡ 0 → numeral_parts front rest ≡ None
parts-no_front [] rest none = refl
parts-no_front (d ∷ ds) rest none = absurd (omega arith)

pub parts-no_rest : (front rest : List ℕ) → length front ≢ 0 → length rest < 1
    → numeral_parts front rest ≡ Some (point front rest)
parts-no_rest [] rest some short = absurd (some refl)
parts-no_rest (d ∷ ds) [] some short = refl
parts-no_rest (d ∷ ds) (mark ∷ back) some short = absurd (omega arith)

pub parts-marked : (front rest : List ℕ) → length front ≢ 0 → 1 ≤ length rest
    → numeral_parts front rest ≡ cond (are_digits (drop 1 rest)) (marked (get_or rest 0 0) front (drop 1 rest)) None
parts-marked [] rest some long = absurd (some refl)
parts-marked (d ∷ ds) [] some long = absurd (omega arith)
parts-marked (d ∷ ds) (mark ∷ back) some long = refl

pub numeral_of-parts : (text : List ℕ) (len : ℕ) (front rest : List ℕ) → len ≡ prefix_len is_ascii_digit text
    → front ≡ take len text → rest ≡ drop len text → numeral_of text ≡ numeral_parts front rest
unfolding numeral_of
numeral_of-parts text len front rest len_is front_is rest_is =
    let by_len : numeral_of text ≡ numeral_parts (take len text) (drop len text) =
    ap (λ n. numeral_parts (take n text) (drop n text)) (sym len_is) in
    by_len ∙ ap (λ f. numeral_parts f (drop len text)) (sym front_is) ∙ ap (numeral_parts front) (sym rest_is)

-- what a test for 0 says where it fails and where it passes
pub empty_test : (n : ℕ) → (n == 0) ≡ false → n ≢ 0
empty_test zero fails = λ _. absurd (false≢true (sym fails))
empty_test (suc n) fails = λ none. omega arith

pub empty_test_passes : (n : ℕ) → (n == 0) ≡ true → n ≡ 0
empty_test_passes n passes = grind (arith, nat_tests)

-- the rest of a list, as a slice pattern gives it
pub rest_of : (rest : List ℕ) → take (length rest - 1) (drop 1 rest) ≡ drop 1 rest
rest_of [] = refl
rest_of (mark ∷ back) = take_all (length (mark ∷ back) - 1) back (omega arith)

-- digits that a test found
pub digits_of_test : (ds : List ℕ) → are_digits ds ≡ true → AllDigits 10 ds
digits_of_test [] passes = absurd (false≢true passes)
digits_of_test (d ∷ ds) passes = AllDigits-from_test (d ∷ ds) passes

pub AllDigits-front : (text : List ℕ) (len : ℕ) (front : List ℕ) → len ≡ prefix_len is_ascii_digit text
    → front ≡ take len text → AllDigits 10 front
AllDigits-front text len front len_is front_is =
    subst (AllDigits 10) (sym (front_is ∙ ap (λ n. take n text) len_is)) (AllDigits-prefix text)

pub AllDigits-none : (ds : List ℕ) → length ds < 1 → AllDigits 10 ds
AllDigits-none [] short = tt
AllDigits-none (d ∷ ds) short = absurd (omega arith)
