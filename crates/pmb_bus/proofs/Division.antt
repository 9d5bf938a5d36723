-- Sums of polynomials over two elements, and long division by the generator of the packet error
-- code. For `pec_next`, `pec_of` and the laws on packet error codes (`Codes` uses it). A
-- polynomial is its list of coefficients; dividing undoes multiplying, and what is left after n
-- steps is the one remainder of eight coefficients.
use Rattle.std.proofs.Common.{◌≡◌, ℕ, ◌+◌, ◌≤◌, zero, suc, Bool, true, false, List, [], ◌∷◌, ◌++◌, length, replicate}
use Rattle.std.proofs.Common.{refl, sym, ap, ◌∙◌, append_assoc, arith, length-append}
use Rattle.pmb_bus.specs.Pec.{generator, differ, plus, behind_highest, divide_step, left_after, times_x8, remainder}
use Rattle.pmb_bus.specs.Pec.{times, IsRemainder}

-- ---- sums

differ-assoc : (a b c : Bool) → differ (differ a b) c ≡ differ a (differ b c)
differ-assoc false b c = refl
differ-assoc true false c = refl
differ-assoc true true false = refl
differ-assoc true true true = refl

differ-comm : (a b : Bool) → differ a b ≡ differ b a
differ-comm false false = refl
differ-comm false true = refl
differ-comm true false = refl
differ-comm true true = refl

-- what is added twice is gone
differ_twice : (a b : Bool) → differ a (differ a b) ≡ b
differ_twice false b = refl
differ_twice true false = refl
differ_twice true true = refl

pub plus-nil : (p : List Bool) → plus [] p ≡ p
unfolding plus
plus-nil [] = refl
plus-nil (c ∷ p) = refl

pub plus-assoc : (p q r : List Bool) → plus (plus p q) r ≡ plus p (plus q r)
unfolding plus
plus-assoc p q [] = refl
plus-assoc p [] (e ∷ r) = refl
plus-assoc [] (d ∷ q) (e ∷ r) = refl
plus-assoc (c ∷ p) (d ∷ q) (e ∷ r) = cc (differ-assoc c d e, plus-assoc p q r)

pub plus-comm : (p q : List Bool) → plus p q ≡ plus q p
unfolding plus
plus-comm [] [] = refl
plus-comm [] (d ∷ q) = refl
plus-comm (c ∷ p) [] = refl
plus-comm (c ∷ p) (d ∷ q) = cc (differ-comm c d, plus-comm p q)

-- what is added twice is gone, where it is no longer than the other
plus_twice : (p q : List Bool) → length p ≤ length q → plus p (plus p q) ≡ q
unfolding plus
plus_twice [] [] short = refl
plus_twice [] (d ∷ q) short = refl
plus_twice (c ∷ p) [] short = absurd (omega arith)
plus_twice (c ∷ p) (d ∷ q) short = cc (differ_twice c d, plus_twice p q (omega arith))

-- zeros add nothing to as many coefficients or more
pub plus_zeros : (n : ℕ) (p : List Bool) → n ≤ length p → plus (replicate n false) p ≡ p
unfolding plus
plus_zeros zero p short = plus-nil p
plus_zeros (suc n) [] short = absurd (omega arith)
plus_zeros (suc n) (d ∷ p) short = ap (λ q. d ∷ q) (plus_zeros n p (omega arith))

-- a sum is as long as the longer one
length-plus_right : (p q : List Bool) → length q ≤ length (plus p q)
unfolding plus
length-plus_right p [] = omega arith
length-plus_right [] (d ∷ q) = omega arith
length-plus_right (c ∷ p) (d ∷ q) = omega (arith, length-plus_right p q)

pub length-plus : (p q : List Bool) → length q ≤ length p → length (plus p q) ≡ length p
unfolding plus
length-plus p [] short = refl
length-plus [] (d ∷ q) short = absurd (omega arith)
length-plus (c ∷ p) (d ∷ q) short = ap suc (length-plus p q (omega arith))

-- a sum after zeros, and after the same coefficients
plus_behind_zeros : (n : ℕ) (p q : List Bool) → plus (replicate n false ++ p) (replicate n false ++ q)
    ≡ replicate n false ++ plus p q
unfolding plus
plus_behind_zeros zero p q = refl
plus_behind_zeros (suc n) p q = ap (λ r. false ∷ r) (plus_behind_zeros n p q)

differ_zero : (a : Bool) → differ a false ≡ a
differ_zero false = refl
differ_zero true = refl

plus_behind : (m p q : List Bool) → plus (m ++ p) (replicate (length m) false ++ q) ≡ m ++ plus p q
unfolding plus
plus_behind [] p q = refl
plus_behind (c ∷ m) p q = cc (differ_zero c, plus_behind m p q)

-- ---- division

-- the coefficients of the generator after its highest one
abbrev low : List Bool
low = behind_highest generator

-- the rows of a product
times_false : (p : List Bool) → times (false ∷ p) generator ≡ false ∷ plus (replicate 8 false) (times p generator)
unfolding plus times
times_false p = refl

times_true : (p : List Bool) → times (true ∷ p) generator ≡ true ∷ plus low (times p generator)
unfolding plus times
times_true p = refl

-- Dividing undoes multiplying: what stands after the product is left.
pub left_behind_product : (n : ℕ) (q t : List Bool) → length q ≡ n → 8 ≤ length t
    → left_after n (plus (times q generator) (replicate n false ++ t)) ≡ t
unfolding plus divide_step left_after times
left_behind_product zero [] t as_many long = plus-nil t
left_behind_product (suc n) [] t as_many long = absurd (omega arith)
left_behind_product zero (c ∷ q) t as_many long = absurd (omega arith)
-- the highest coefficient of the quotient is 0: the step drops it
left_behind_product (suc n) (false ∷ q) t as_many long =
    let back = replicate n false ++ t in
    let enough : 8 ≤ length (plus (times q generator) back) =
    omega (arith, length-plus_right (times q generator) back, length-append (replicate n false) t) in
    ap (left_after n) (plus-assoc (replicate 8 false) (times q generator) back
    ∙ plus_zeros 8 (plus (times q generator) back) enough)
    ∙ left_behind_product n q t (omega arith) long
-- it is 1: the step adds the generator, which is gone with that of the product
left_behind_product (suc n) (true ∷ q) t as_many long =
    let back = replicate n false ++ t in
    let enough : 8 ≤ length (plus (times q generator) back) =
    omega (arith, length-plus_right (times q generator) back, length-append (replicate n false) t) in
    ap
    (left_after n)
    (
    plus-comm (plus (plus low (times q generator)) back) low
    ∙ ap (plus low) (plus-assoc low (times q generator) back)
    ∙ plus_twice low (plus (times q generator) back) enough
    )
    ∙ left_behind_product n q t (omega arith) long

-- a step leaves one coefficient less
length-divide_step : (n : ℕ) (p : List Bool) → length p ≡ suc n + 8 → length (divide_step p) ≡ n + 8
unfolding plus divide_step
length-divide_step n [] long = absurd (omega arith)
length-divide_step n (false ∷ p) long = omega arith
length-divide_step n (true ∷ p) long =
    let enough : 8 ≤ length p = omega arith in
    omega (arith, length-plus p low enough)

-- eight coefficients are left
pub length-left_after : (n : ℕ) (p : List Bool) → length p ≡ n + 8 → length (left_after n p) ≡ 8
unfolding left_after
length-left_after zero p long = omega arith
length-left_after (suc n) p long = length-left_after n (divide_step p) (length-divide_step n p long)

-- The quotient: the highest coefficient before each step.
abbrev highest : List Bool → Bool
highest [] = false
highest (c ∷ p) = c

abbrev quotient : ℕ → List Bool → List Bool
quotient zero p = []
quotient (suc n) p = highest p ∷ quotient n (divide_step p)

length-quotient : (n : ℕ) (p : List Bool) → length (quotient n p) ≡ n
length-quotient zero p = refl
length-quotient (suc n) p = ap suc (length-quotient n (divide_step p))

-- what is divided is the product and what is left after it
product_and_left : (n : ℕ) (p : List Bool) → length p ≡ n + 8
    → p ≡ plus (times (quotient n p) generator) (replicate n false ++ left_after n p)
unfolding plus divide_step left_after times
product_and_left zero p long = sym (plus-nil p)
product_and_left (suc n) [] long = absurd (omega arith)
-- nothing is subtracted in this step
product_and_left (suc n) (false ∷ p) long =
    let part = times (quotient n p) generator in
    let back = replicate n false ++ left_after n p in
    let rest : p ≡ plus part back = product_and_left n p (omega arith) in
    let enough : 8 ≤ length p = omega arith in
    ap (λ q. false ∷ q) (sym (plus-assoc (replicate 8 false) part back ∙ ap (plus (replicate 8 false)) (sym rest)
    ∙ plus_zeros 8 p enough))
-- the generator is subtracted, and added again by the product
product_and_left (suc n) (true ∷ p) long =
    let next = plus p low in
    let part = times (quotient n next) generator in
    let back = replicate n false ++ left_after n next in
    let enough : 8 ≤ length p = omega arith in
    let rest : next ≡ plus part back = product_and_left n next (length-divide_step n (true ∷ p) long) in
    let again : plus low next ≡ p = ap (plus low) (plus-comm p low) ∙ plus_twice low p enough in
    ap (λ q. true ∷ q) (sym (plus-assoc low part back ∙ ap (plus low) (sym rest) ∙ again))

length-times_x8 : (p : List Bool) → length (times_x8 p) ≡ length p + 8
length-times_x8 p = length-append p (replicate 8 false)

-- what is added below a polynomial is added to its remainder
pub left_with_tail : (m t : List Bool) → 8 ≤ length t → left_after (length m) (m ++ t) ≡ plus (remainder m) t
left_with_tail m t long =
    let n = length m in
    let whole = length-times_x8 m in
    let q = quotient n (times_x8 m) in
    let part = times q generator in
    let rest = remainder m in
    let split : m ++ t ≡ plus (times_x8 m) (replicate n false ++ t) =
    sym (plus_behind m (replicate 8 false) t ∙ ap (λ u. m ++ u) (plus_zeros 8 t long)) in
    let joined : plus (times_x8 m) (replicate n false ++ t) ≡ plus part (replicate n false ++ plus rest t) =
    ap (λ u. plus u (replicate n false ++ t)) (product_and_left n (times_x8 m) whole)
    ∙ plus-assoc part (replicate n false ++ rest) (replicate n false ++ t)
    ∙ ap (plus part) (plus_behind_zeros n rest t) in
    let enough : 8 ≤ length (plus rest t) = omega (arith, length-plus_right rest t) in
    ap (left_after n) (split ∙ joined) ∙ left_behind_product n q (plus rest t) (length-quotient n (times_x8 m)) enough

-- the steps for two lists of coefficients, one after the other
left_after-append : (m k p : List Bool) → left_after (length (m ++ k)) p
    ≡ left_after (length k) (left_after (length m) p)
unfolding left_after
left_after-append [] k p = refl
left_after-append (c ∷ m) k p = left_after-append m k (divide_step p)

-- The remainder of one polynomial after another depends on the first one's remainder alone.
pub remainder-append : (m k : List Bool) → remainder (m ++ k) ≡ left_after (length k) (plus (remainder m) (times_x8 k))
remainder-append m k =
    let enough : 8 ≤ length (times_x8 k) = omega (arith, length-times_x8 k) in
    left_after-append m k (times_x8 (m ++ k))
    ∙ ap
    (left_after (length k))
    (ap (left_after (length m)) (append_assoc m k (replicate 8 false)) ∙ left_with_tail m (times_x8 k) enough)

pub length-remainder : (p : List Bool) → length (remainder p) ≡ 8
length-remainder p = length-left_after (length p) (times_x8 p) (length-times_x8 p)

-- ---- the remainder as what is left beside a multiple of the generator

pub remainder_is_one : (p : List Bool) → IsRemainder p (remainder p)
remainder_is_one p = record {
  quotient = quotient (length p) (times_x8 p);
  as_many = length-quotient (length p) (times_x8 p);
  eight = length-remainder p;
  sum = product_and_left (length p) (times_x8 p) (length-times_x8 p);
}

pub one_remainder : (p rest : List Bool) → IsRemainder p rest → rest ≡ remainder p
one_remainder p rest is =
    let long : 8 ≤ length rest = omega (arith, is.eight) in
    sym (ap (left_after (length p)) is.sum ∙ left_behind_product (length p) is.quotient rest is.as_many long)
