-- Digits without the zeros at their end: a last 0 goes, another digit stays, and some digit stays
-- of a number that isn't 0. For `append_digits` and `append_part` of `src/decimal.rt`. A writer
-- divides by ten while the last digit is 0; 48 is the digit 0, 46 the point.
use Rattle.std.proofs.Common.{◌≡◌, ◌≢◌, ℕ, zero, suc, ◌+◌, ◌-◌, ◌/◌, ◌%◌, ◌^◌, ◌<◌, ◌≤◌, cond, ◌==◌, eq-eqb, inl, inr}
use Rattle.std.proofs.Common.{List, [], ◌∷◌, ◌++◌, length, refl, sym, ap, ◌∙◌, subst, arith}
use Rattle.std.specs.Char.{digit_value}
use Rattle.std.specs.Str.Parse.{AllDigits}
use Rattle.std.proofs.lemmas.Bool.{cases_Bool, cases_eq, ne_eqb}
use Rattle.std.proofs.lemmas.Bool.Decides.{nat_tests}
use Rattle.std.proofs.Math.Nat.{pow-suc}
use Rattle.pmb_quantity.specs.QuantityText.{padded}
use Rattle.pmb_quantity.specs.Reading.{without_last_zeros, with_last}
use Rattle.pmb_quantity.proofs.TextLemmas.{length-padded}
use Rattle.pmb_decimal.specs.Decimal.{after_point}

-- a zero at the end goes, and another digit stays
pub zero_goes : (ds : List ℕ) (c : ℕ) → c ≡ 48 → without_last_zeros (ds ++ c ∷ []) ≡ without_last_zeros ds
zero_goes [] c is = ap (λ b. cond b [] (c ∷ [])) (eq-eqb c 48 is)
zero_goes (d ∷ ds) c is = ap (with_last d) (zero_goes ds c is)

pub other_stays : (ds : List ℕ) (c : ℕ) → c ≢ 48 → without_last_zeros (ds ++ c ∷ []) ≡ ds ++ c ∷ []
other_stays [] c other = ap (λ b. cond b [] (c ∷ [])) (ne_eqb c 48 other)
other_stays (d ∷ []) c other = ap (with_last d) (other_stays [] c other)
other_stays (d ∷ e ∷ ds) c other = ap (with_last d) (other_stays (e ∷ ds) c other)

-- the same of the digits of a number
pub padded-zero_goes : (places n : ℕ) → n % 10 ≡ 0 → without_last_zeros (padded (suc places) n)
    ≡ without_last_zeros (padded places (n / 10))
padded-zero_goes places n none = zero_goes (padded places (n / 10)) (48 + n % 10) (omega arith)

pub padded-other_stays : (places n : ℕ) → n % 10 ≢ 0 → without_last_zeros (padded (suc places) n)
    ≡ padded (suc places) n
padded-other_stays places n other = other_stays (padded places (n / 10)) (48 + n % 10) (omega (arith, other))

-- no digit of 0 stays
pub none_of_zero : (places n : ℕ) → n ≡ 0 → without_last_zeros (padded places n) ≡ []
none_of_zero zero n none = refl
none_of_zero (suc places) n none =
    padded-zero_goes places n (omega arith) ∙ none_of_zero places (n / 10) (omega arith)

-- some digit of another number does
pub some_of_other : (places n : ℕ) → 0 < n → n < 10 ^ places → 0 < length (without_last_zeros (padded places n))
some_of_other zero n some few = absurd (omega arith)
some_of_other (suc places) n some few =
    elim (cases_eq (n % 10) 0) [
      | inl none ↦ (let fewer : n / 10 < 10 ^ places = omega (arith, pow-suc 10 places) in
          let rest = some_of_other places (n / 10) (omega arith) fewer in
          omega (arith, ap length (padded-zero_goes places n none)))
      | inr other ↦ omega (arith, ap length (padded-other_stays places n other), length-padded (suc places) n)
    ]

-- so a point stands before them
pub after_point-some : (ds : List ℕ) → 0 < length ds → after_point ds ≡ 46 ∷ ds
after_point-some [] some = absurd (omega arith)
after_point-some (d ∷ ds) some = refl

-- they are no more than there were
with_last-short : (d : ℕ) (ds : List ℕ) → length (with_last d ds) ≤ suc (length ds)
with_last-short d (e ∷ es) = omega arith
with_last-short d [] =
    elim (cases_Bool (d == 48)) [
      | inl is ↦ omega (arith, ap (λ b. length (cond b [] (d ∷ []))) is)
      | inr other ↦ omega (arith, ap (λ b. length (cond b [] (d ∷ []))) other)
    ]

pub without_zeros-short : (ds : List ℕ) → length (without_last_zeros ds) ≤ length ds
without_zeros-short [] = omega arith
without_zeros-short (d ∷ ds) =
    omega (arith, with_last-short d (without_last_zeros ds), without_zeros-short ds)

-- they are digits
written : (r : ℕ) → r < 10 → digit_value (48 + r) < 10
written r small = grind (arith, nat_tests)

AllDigits-push : (ds : List ℕ) (c : ℕ) → AllDigits 10 ds → digit_value c < 10 → AllDigits 10 (ds ++ c ∷ [])
AllDigits-push [] c digits digit = (digit, tt)
AllDigits-push (d ∷ ds) c digits digit = (digits.0, AllDigits-push ds c digits.1 digit)

AllDigits-padded : (places n : ℕ) → AllDigits 10 (padded places n)
AllDigits-padded zero n = tt
AllDigits-padded (suc places) n =
    AllDigits-push (padded places (n / 10)) (48 + n % 10) (AllDigits-padded places (n / 10))
    (written (n % 10) (omega arith))

AllDigits-with_last : (d : ℕ) (ds : List ℕ) → digit_value d < 10 → AllDigits 10 ds → AllDigits 10 (with_last d ds)
AllDigits-with_last d (e ∷ es) digit digits = (digit, digits)
AllDigits-with_last d [] digit digits =
    elim (cases_Bool (d == 48)) [
      | inl is ↦ subst (AllDigits 10) (ap (λ b. cond b [] (d ∷ [])) (sym is)) tt
      | inr other ↦ subst (AllDigits 10) (ap (λ b. cond b [] (d ∷ [])) (sym other)) (digit, tt)
    ]

AllDigits-kept : (ds : List ℕ) → AllDigits 10 ds → AllDigits 10 (without_last_zeros ds)
AllDigits-kept [] digits = tt
AllDigits-kept (d ∷ ds) digits =
    AllDigits-with_last d (without_last_zeros ds) digits.0 (AllDigits-kept ds digits.1)

pub AllDigits-part : (places n : ℕ) → AllDigits 10 (without_last_zeros (padded places n))
AllDigits-part places n = AllDigits-kept (padded places n) (AllDigits-padded places n)

-- the steps of a writer
pub last_goes : (places n : ℕ) → 0 < places → n % 10 ≡ 0 → without_last_zeros (padded places n)
    ≡ without_last_zeros (padded (places - 1) (n / 10))
last_goes zero n some none = absurd (omega arith)
last_goes (suc places) n some none =
    let before : suc places - 1 ≡ places = omega arith in
    padded-zero_goes places n none ∙ ap (λ k. without_last_zeros (padded k (n / 10))) (sym before)

pub all_stay : (places n : ℕ) → 0 < places → n % 10 ≢ 0 → without_last_zeros (padded places n) ≡ padded places n
all_stay zero n some other = absurd (omega arith)
all_stay (suc places) n some other = padded-other_stays places n other
