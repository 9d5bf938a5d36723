-- Whole numbers times a natural number: their order, and that a positive factor is taken off
-- again. For the law `lowest_terms`, `Quantity::new` and `Quantity::negated` (`LawLemmas` uses
-- it).
use Rattle.std.proofs.Common.{◌≡◌, ◌≢◌, ℕ, zero, suc, ◌*◌, ◌<◌, ℤ, pos, negsuc, neg_ℤ, ◌*ℤ◌, ◌<ℤ◌, refl, sym, ap, ◌∙◌}
use Rattle.std.proofs.Common.{arith}
use Rattle.std.proofs.Math.Nat.{mul-lt-mul_of_pos_right, mul_assoc, mul_comm, zero-mul}
use Rattle.std.proofs.lemmas.Int.{ints, by_lt_z}

-- a positive factor keeps the order
pub scale_lt : (m n : ℤ) (d : ℕ) → 0 < d → m <ℤ n → (m *ℤ pos d) <ℤ (n *ℤ pos d)
scale_lt (pos a) (pos b) d positive less =
    let product : a * d < b * d = mul-lt-mul_of_pos_right (omega (arith, ints)) positive in
    omega (arith, ints)
scale_lt (pos a) (negsuc b) d positive less = absurd (omega (arith, ints))
scale_lt (negsuc a) (pos b) d positive less =
    let product : 0 * d < suc a * d = mul-lt-mul_of_pos_right (omega arith) positive in
    omega (arith, ints)
scale_lt (negsuc a) (negsuc b) d positive less =
    let product : suc b * d < suc a * d = mul-lt-mul_of_pos_right (omega (arith, ints)) positive in
    omega (arith, ints)

-- two different numbers are in order
pub ordered : {P : Type 0} (m n : ℤ) → m ≢ n → (m <ℤ n → P) → (n <ℤ m → P) → P
ordered m n other less more =
    by_lt_z m n less (λ at_most. by_lt_z n m more (λ at_least. absurd (other (omega (arith, ints)))))

-- .. and is taken off again
pub unscale_lt : (m n : ℤ) (d : ℕ) → 0 < d → (m *ℤ pos d) <ℤ (n *ℤ pos d) → m <ℤ n
unscale_lt m n d positive less =
    by_lt_z m n (λ h. h) (λ at_most.
    by_lt_z n m
    (λ more. let product = scale_lt n m d positive more in absurd (omega (arith, ints)))
    (λ at_least.
    let same : m ≡ n = omega (arith, ints) in
    let products : m *ℤ pos d ≡ n *ℤ pos d = ap (λ z. z *ℤ pos d) same in
    absurd (omega (arith, ints))))

pub unscale_eq : (m n : ℤ) (d : ℕ) → 0 < d → m *ℤ pos d ≡ n *ℤ pos d → m ≡ n
unscale_eq m n d positive same =
    by_lt_z m n
    (λ less. let product = scale_lt m n d positive less in absurd (omega (arith, ints)))
    (λ at_most.
    by_lt_z n m
    (λ more. let product = scale_lt n m d positive more in absurd (omega (arith, ints)))
    (λ at_least. omega (arith, ints)))

pub neg-scale : (x b : ℕ) → neg_ℤ (pos x) *ℤ pos b ≡ neg_ℤ (pos (x * b))
neg-scale zero b = rw (zero-mul b) refl
neg-scale (suc x) b = refl

-- two factors are one
pub scale-scale : (m : ℤ) (a b : ℕ) → (m *ℤ pos a) *ℤ pos b ≡ m *ℤ pos (a * b)
scale-scale (pos n) a b = ap pos (mul_assoc n a b)
scale-scale (negsuc n) a b = neg-scale (suc n * a) b ∙ ap (λ x. neg_ℤ (pos x)) (mul_assoc (suc n) a b)

-- the order of two factors
pub scale-swap : (m : ℤ) (a b : ℕ) → (m *ℤ pos a) *ℤ pos b ≡ (m *ℤ pos b) *ℤ pos a
scale-swap m a b = scale-scale m a b ∙ ap (λ k. m *ℤ pos k) (mul_comm a b) ∙ sym (scale-scale m b a)
