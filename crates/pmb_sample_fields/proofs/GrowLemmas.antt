-- A number with zeros behind it, at most so great.
use Rattle.std.proofs.Common.{◌≡◌, ◌≤◌, ◌<◌, ◌⊎◌, ℕ, zero, suc, ◌-◌, ◌*◌, ◌^◌, min, ap, sym, ◌∙◌, arith, inl, inr}
use Rattle.std.proofs.Math.Nat.{le-mul_of_pos_right, min-eq_left, min-eq_right, mul-le-mul_right, one-le-pow, pow-suc}
use Rattle.pmb_sample_fields.specs.machine.Digits.{grown}

pub either_way : (a b : ℕ) → (a ≤ b) ⊎ (b ≤ a)
either_way zero b = inl (omega arith)
either_way (suc a) zero = inr (omega arith)
either_way (suc a) (suc b) = elim (either_way a b) [
  | inl small ↦ inl (omega arith)
  | inr great ↦ inr (omega arith)
]

pub some_tens : (k : ℕ) → 1 ≤ 10 ^ k
some_tens k = one-le-pow k 10 (omega arith)

stays : (a limit : ℕ) → a ≤ limit → min a limit ≡ a
stays a limit small = min-eq_left small

stops : (a limit : ℕ) → limit ≤ a → min a limit ≡ limit
stops a limit great = min-eq_right great

-- a number that is capped grows as it does itself
pub capped_grows : (a p limit : ℕ) → 1 ≤ p → min (min a limit * p) limit ≡ min (a * p) limit
capped_grows a p limit some = elim (either_way a limit) [
  | inl small ↦ ap (λ (n : ℕ). min (n * p) limit) (stays a limit small)
  | inr great ↦
      let positive : 0 < p = omega arith in
      let least : limit ≤ limit * p = le-mul_of_pos_right limit positive in
      let more : limit * p ≤ a * p = mul-le-mul_right p great in
      let most : limit ≤ a * p = omega arith in
      ap (λ (n : ℕ). min (n * p) limit) (stops a limit great)
      ∙ (stops (limit * p) limit least ∙ sym (stops (a * p) limit most))
]

one_more : (a left : ℕ) → a * 10 ^ suc left ≡ a * 10 * 10 ^ left
one_more a left =
    let tens : a * 10 ^ suc left ≡ a * (10 ^ left * 10) = ap (λ (n : ℕ). a * n) (pow-suc 10 left) in
    omega (arith, tens)

grows_by : (limit a left : ℕ) → grown limit a (suc left) ≡ grown limit (min (a * 10) limit) left
grows_by limit a left =
    ap (λ (n : ℕ). min n limit) (one_more a left) ∙ sym (capped_grows (a * 10) (10 ^ left) limit (some_tens left))

-- one zero
pub grows : (limit a left : ℕ) → 0 < left → grown limit a left ≡ grown limit (min (a * 10) limit) (left - 1)
grows limit a zero some = absurd (omega arith)
grows limit a (suc left) some =
    grows_by limit a left
    ∙ ap (λ (n : ℕ). grown limit (min (a * 10) limit) n) (let e : left ≡ suc left - 1 = omega arith in e)

-- no zero is left, or none changes it
pub grown_whole : (limit a left : ℕ) → a ≤ limit → left ≡ 0 → grown limit a left ≡ a
grown_whole limit a left small none =
    ap (λ (n : ℕ). grown limit a n) none ∙ (let e : a * 10 ^ 0 ≡ a = omega arith in ap (λ (n : ℕ). min n limit) e)
    ∙ stays a limit small

pub grown_none : (limit a left : ℕ) → a ≡ 0 → grown limit a left ≡ a
grown_none limit a left none =
    let nothing : a * 10 ^ left ≡ 0 =
    ap (λ (n : ℕ). n * 10 ^ left) none ∙ (let e : 0 * 10 ^ left ≡ 0 = omega arith in e) in
    ap (λ (n : ℕ). min n limit) (nothing ∙ sym none) ∙ stays a limit (omega arith)

pub grown_most : (limit a left : ℕ) → a ≡ limit → grown limit a left ≡ a
grown_most limit a left is =
    let positive : 0 < 10 ^ left = let some = some_tens left in omega arith in
    let least : a ≤ a * 10 ^ left = le-mul_of_pos_right a positive in
    stops (a * 10 ^ left) limit (omega arith) ∙ sym is
