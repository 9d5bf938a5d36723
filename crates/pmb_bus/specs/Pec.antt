-- The packet error code (SMBus 3.0 section 6.4): a remainder of polynomials over GF(2).
--
-- A polynomial is the list of its coefficients, that of the highest power first; a coefficient is
-- `true` for 1 and `false` for 0.
use Rattle.std.specs.Prelude.{◌≡◌, ℕ, ◌+◌, ◌^◌, ◌==◌, ◌&&◌, zero, suc, Bool, true, false, not, if◌then◌else◌, List, []}
use Rattle.std.specs.Prelude.{◌∷◌, ◌++◌, length, map, replicate, flat_map}
use Rattle.std.specs.Int.{bit_at}

-- x^8 + x^2 + x + 1
abbrev pub generator : List Bool
generator = true ∷ false ∷ false ∷ false ∷ false ∷ false ∷ true ∷ true ∷ true ∷ []

-- ---- the bits of a message

-- the bits of a byte, highest first; of a greater number its lowest eight
abbrev pub bits_of : ℕ → List Bool
bits_of byte =
    (bit_at byte 7 == 1) ∷ (bit_at byte 6 == 1) ∷ (bit_at byte 5 == 1) ∷ (bit_at byte 4 == 1)
    ∷ (bit_at byte 3 == 1) ∷ (bit_at byte 2 == 1) ∷ (bit_at byte 1 == 1) ∷ (bit_at byte 0 == 1) ∷ []

-- the bits of all bytes, in order
abbrev pub message : List ℕ → List Bool
message bytes = flat_map bits_of bytes

-- the number whose binary digits are the coefficients
unfoldable pub number : List Bool → ℕ
number [] = 0
number (c ∷ p) = (if c then 2 ^ length p else 0) + number p

-- ---- long division

-- the sum of two coefficients, which is their difference too: whether they differ
abbrev pub differ : Bool → Bool → Bool
differ false d = d
differ true d = not d

-- The sum of two polynomials, which is their difference too, with the highest coefficients of both
-- in one column. Where one has no more coefficients, those of the other stay.
unfoldable pub plus : List Bool → List Bool → List Bool
plus p [] = p
plus [] (d ∷ q) = d ∷ q
plus (c ∷ p) (d ∷ q) = differ c d ∷ plus p q

-- the coefficients after the highest one
abbrev pub behind_highest : List Bool → List Bool
behind_highest [] = []
behind_highest (c ∷ p) = p

-- A step of long division by the generator: where the highest coefficient is 1, the generator is
-- taken away under it. The highest coefficient is then 0, and is left out.
unfoldable pub divide_step : List Bool → List Bool
divide_step [] = []
divide_step (false ∷ p) = p
divide_step (true ∷ p) = behind_highest (plus (true ∷ p) generator)

-- what is left of a polynomial after as many steps as the quotient has coefficients
unfoldable pub left_after : ℕ → List Bool → List Bool
left_after zero p = p
left_after (suc steps) p = left_after steps (divide_step p)

-- a polynomial times x^8
abbrev pub times_x8 : List Bool → List Bool
times_x8 p = p ++ replicate 8 false

-- the remainder of a polynomial times x^8 by the generator: eight coefficients
abbrev pub remainder : List Bool → List Bool
remainder p = left_after (length p) (times_x8 p)

-- The packet error code of bytes: the bits of all of them as one polynomial, times x^8, divided by
-- the generator; the remainder as a number.
unfoldable pub pec : List ℕ → ℕ
pec bytes = number (remainder (message bytes))

-- ---- what a remainder is, without a division

-- the product of two polynomials, by the rows of which it is the sum on paper
unfoldable pub times : List Bool → List Bool → List Bool
times [] q = []
times (c ∷ p) q = plus (map (λ d. c && d) q) (false ∷ times p q)

-- Eight coefficients are the remainder of a polynomial times x^8: the generator times some
-- quotient, with those eight added at the end, is that polynomial.
pub record IsRemainder (p : List Bool) (rest : List Bool) : Type 0 where
  pub quotient : List Bool
  pub as_many : length quotient ≡ length p
  pub eight : length rest ≡ 8
  pub sum : times_x8 p ≡ plus (times quotient generator) (replicate (length p) false ++ rest)
