-- Packet error codes as numbers and as the bits of bytes, one byte more, and more bytes after. For
-- `pec_next`, `pec_of` and the laws on packet error codes. The code of bytes is the number of the
-- remainder of their message; eight bits and the byte that they are come back to each other,
-- computed for each, so that a remainder after more bytes needs the code so far alone.
use Rattle.std.proofs.Common.{◌≡◌, ℕ, ◌+◌, ◌<◌, ◌%◌, ◌^◌, zero, suc, Bool, true, false, ◌&&◌, ◌==◌, List, [], ◌∷◌, ◌++◌}
use Rattle.std.proofs.Common.{length, refl, sym, ap, subst, ◌∙◌, append_assoc, arith}
use Rattle.std.specs.Prelude.{bit_xor}
use Rattle.std.specs.Bool.{beq}
use Rattle.std.proofs.Math.Nat.{pow-suc}
use Rattle.std.specs.Int.{bit_at}
use Rattle.std.specs.Int.Bits.{xor_self}
use Rattle.std.proofs.lemmas.Bool.{agree_below, agree_below_at, and_parts, eqb-true}
use Rattle.std.proofs.lemmas.Nat.Bits.{bit_at_xor, bit_at-lt}
use Rattle.pmb_bus.specs.Pec.{bits_of, message, number, differ, plus, divide_step, left_after, times_x8, remainder, pec}
use Rattle.pmb_bus.specs.Pec.{IsRemainder}
use Rattle.pmb_bus.proofs.Division.{remainder-append, length-remainder, remainder_is_one, one_remainder}

-- ---- bits and numbers

-- n coefficients make a number below 2^n
number_fits : (p : List Bool) → number p < 2 ^ length p
unfolding number
number_fits [] = omega arith
number_fits (false ∷ p) = omega (arith, number_fits p, pow-suc 2 (length p))
number_fits (true ∷ p) = omega (arith, number_fits p, pow-suc 2 (length p))

-- whether two lists of coefficients are the same
abbrev same : List Bool → List Bool → Bool
same [] [] = true
same [] (d ∷ q) = false
same (c ∷ p) [] = false
same (c ∷ p) (d ∷ q) = beq c d && same p q

-- a test of each list of n coefficients, which computes
abbrev for_each : ℕ → (List Bool → Bool) → Bool
for_each zero test = test []
for_each (suc n) test = for_each n (λ p. test (false ∷ p)) && for_each n (λ p. test (true ∷ p))

for_each_at : (n : ℕ) (test : List Bool → Bool) (p : List Bool) → for_each n test ≡ true → length p ≡ n → test p ≡ true
for_each_at zero test [] passes long = passes
for_each_at zero test (c ∷ p) passes long = absurd (omega arith)
for_each_at (suc n) test [] passes long = absurd (omega arith)
for_each_at (suc n) test (false ∷ p) passes long =
    for_each_at n (λ q. test (false ∷ q)) p (and_parts (for_each n (λ q. test (false ∷ q)))
    (for_each n (λ q. test (true ∷ q))) passes).0 (omega arith)
for_each_at (suc n) test (true ∷ p) passes long =
    for_each_at n (λ q. test (true ∷ q)) p (and_parts (for_each n (λ q. test (false ∷ q)))
    (for_each n (λ q. test (true ∷ q))) passes).1 (omega arith)

same_true : (p q : List Bool) → same p q ≡ true → p ≡ q
same_true [] [] passes = refl
same_true [] (d ∷ q) passes = cc passes
same_true (c ∷ p) [] passes = cc passes
same_true (false ∷ p) (false ∷ q) passes = ap (λ r. false ∷ r) (same_true p q passes)
same_true (false ∷ p) (true ∷ q) passes = cc passes
same_true (true ∷ p) (false ∷ q) passes = cc passes
same_true (true ∷ p) (true ∷ q) passes = ap (λ r. true ∷ r) (same_true p q passes)

-- the bits of the number of eight coefficients are those coefficients, computed for each
bits_come_back : for_each 8 (λ p. same (bits_of (number p)) p) ≡ true
unfolding number
bits_come_back = refl

bits_of_number : (p : List Bool) → length p ≡ 8 → bits_of (number p) ≡ p
bits_of_number p long =
    same_true (bits_of (number p)) p (for_each_at 8 (λ q. same (bits_of (number q)) q) p bits_come_back long)

-- the number of a byte's bits is the byte, computed for each
numbers_come_back : agree_below (λ b. number (bits_of b) == b) (λ b. true) 256 ≡ true
unfolding number
numbers_come_back = refl

number_of_bits : (b : ℕ) → b < 256 → number (bits_of b) ≡ b
number_of_bits b byte =
    eqb-true (number (bits_of b)) b (agree_below_at (λ n. number (bits_of n) == n) (λ n. true) 256 b numbers_come_back
    byte)

-- one bit of a bitwise xor
sum_of_bits : (x y : ℕ) → x < 2 → y < 2 → ((x + y) % 2 == 1) ≡ differ (x == 1) (y == 1)
sum_of_bits zero zero = λ s t. refl
sum_of_bits zero (suc zero) = λ s t. refl
sum_of_bits (suc zero) zero = λ s t. refl
sum_of_bits (suc zero) (suc zero) = λ s t. refl
sum_of_bits zero (suc (suc y)) = λ s t. absurd (omega arith)
sum_of_bits (suc zero) (suc (suc y)) = λ s t. absurd (omega arith)
sum_of_bits (suc (suc x)) y = λ s t. absurd (omega arith)

bit_of_xor : (a b i : ℕ) → (bit_at (bit_xor a b) i == 1) ≡ differ (bit_at a i == 1) (bit_at b i == 1)
bit_of_xor a b i = ap (λ n. n == 1) (bit_at_xor a b i) ∙ sum_of_bits (bit_at a i) (bit_at b i) (bit_at-lt a i)
    (bit_at-lt b i)

bits_of_xor : (a b : ℕ) → bits_of (bit_xor a b) ≡ plus (bits_of a) (bits_of b)
unfolding plus
bits_of_xor a b =
    cc (
      bit_of_xor a b 7,
      bit_of_xor a b 6,
      bit_of_xor a b 5,
      bit_of_xor a b 4,
      bit_of_xor a b 3,
      bit_of_xor a b 2,
      bit_of_xor a b 1,
      bit_of_xor a b 0,
    )

-- ---- codes

pub pec_small : (bytes : List ℕ) → pec bytes < 256
unfolding pec
pec_small bytes =
    let rest = remainder (message bytes) in
    let fits : number rest < 2 ^ 8 = subst (λ n. number rest < 2 ^ n) (length-remainder (message bytes))
    (number_fits rest) in
    fits

-- the bits of a code are the remainder
pub bits_of_pec : (bytes : List ℕ) → bits_of (pec bytes) ≡ remainder (message bytes)
unfolding pec
bits_of_pec bytes = bits_of_number (remainder (message bytes)) (length-remainder (message bytes))

pub pec_of_nothing : pec [] ≡ 0
unfolding left_after number pec
pec_of_nothing = refl

message-append : (a b : List ℕ) → message (a ++ b) ≡ message a ++ message b
message-append [] b = refl
message-append (x ∷ a) b = ap (λ m. bits_of x ++ m) (message-append a b)
    ∙ sym (append_assoc (bits_of x) (message a) (message b))

-- the code of bytes after others, by the remainder of these
pec-append : (a b : List ℕ) → pec (a ++ b)
    ≡ number (left_after (length (message b)) (plus (bits_of (pec a)) (times_x8 (message b))))
unfolding pec
pec-append a b =
    ap
    number
    (
    ap remainder (message-append a b)
    ∙ remainder-append (message a) (message b)
    ∙ ap (λ r. left_after (length (message b)) (plus r (times_x8 (message b)))) (sym (bits_of_pec a))
    )

-- bytes of one code stay so with the same bytes after them
pub pec_alike : (a b more : List ℕ) → pec a ≡ pec b → pec (a ++ more) ≡ pec (b ++ more)
pec_alike a b more same =
    pec-append a more
    ∙ ap (λ c. number (left_after (length (message more)) (plus (bits_of c) (times_x8 (message more))))) same
    ∙ sym (pec-append b more)

-- eight steps for eight bits
one_byte : (c b : ℕ) → plus (bits_of c) (times_x8 (bits_of b)) ≡ times_x8 (plus (bits_of c) (bits_of b))
unfolding plus
one_byte c b = refl

-- One byte more: the code is that of one byte, the old code xor the new byte.
pub pec_step : (bytes : List ℕ) (b : ℕ) → pec (bytes ++ b ∷ []) ≡ pec (bit_xor (pec bytes) b ∷ [])
unfolding pec
pec_step bytes b =
    let c = pec bytes in
    pec-append bytes (b ∷ [])
    ∙ ap (λ p. number (left_after 8 p)) (one_byte c b ∙ ap times_x8 (sym (bits_of_xor c b)))

pec_of_zero : pec (0 ∷ []) ≡ 0
unfolding plus divide_step left_after number pec
pec_of_zero = refl

-- bytes with their code after them have the code 0
pub pec_of_whole : (bytes : List ℕ) → pec (bytes ++ pec bytes ∷ []) ≡ 0
pec_of_whole bytes =
    pec_step bytes (pec bytes) ∙ ap (λ n. pec (n ∷ [])) (xor_self (pec bytes)) ∙ pec_of_zero

-- the code is the byte whose bits are the remainder
pub pec_is_remainder : (bytes : List ℕ) (code : ℕ) → code ≡ pec bytes → IsRemainder (message bytes) (bits_of code)
pec_is_remainder bytes code same =
    subst (IsRemainder (message bytes)) (sym (ap bits_of same ∙ bits_of_pec bytes)) (remainder_is_one (message bytes))

pub remainder_is_pec : (bytes : List ℕ) (code : ℕ) → code < 256 → IsRemainder (message bytes) (bits_of code)
    → code ≡ pec bytes
unfolding pec
remainder_is_pec bytes code byte is =
    sym (number_of_bits code byte) ∙ ap number (one_remainder (message bytes) (bits_of code) is)
