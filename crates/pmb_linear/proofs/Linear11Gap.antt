-- No value of LINEAR11 lies between two neighbours: for `nearest` of LINEAR11. At a greater power
-- values are multiples of the spacing; at a smaller one the mantissas, -1,024 to 1,023, end before
-- both neighbours, whose mantissas are 512 or more, or -512 or less.
use Rattle.std.proofs.Common.{◌≡◌, ℕ, ◌+◌, ◌-◌, ◌^◌, ◌<◌, ◌≤◌, ◌⊎◌, inl, inr, ℤ, pos, negsuc, ◌+ℤ◌, ◌*ℤ◌, ◌≤ℤ◌, sym, ap}
use Rattle.std.proofs.Common.{◌∙◌, arith}
use Rattle.std.proofs.lemmas.Int.{ints, by_lt_z}
use Rattle.std.proofs.lemmas.Bool.{cases_lt}
use Rattle.std.proofs.lemmas.Nat.{pow_pos}
use Rattle.pmb_quantity.proofs.Scaling.{scale_lt}
use Rattle.pmb_linear.specs.Linear.{mantissa, linear11}
use Rattle.pmb_linear.specs.machine.Fields.{IsMantissa}
use Rattle.pmb_format.proofs.Scaling.{power_splits, two_or_more, grows_up, grows_down}
use Rattle.pmb_linear.proofs.Linear11Lemmas.{steps, holds_itself, mantissa_fits}
use Rattle.pmb_format.proofs.EvenRows.{sum-product}
use Rattle.pmb_format.proofs.Neighbours.{IsGap}
use Rattle.pmb_format.proofs.Rounded.{at}

-- a factor keeps the order
scale_le : (m n : ℤ) (d : ℕ) → 0 < d → m ≤ℤ n → (m *ℤ pos d) ≤ℤ (n *ℤ pos d)
scale_le m n d positive order =
    by_lt_z m n
    (λ less. let product = scale_lt m n d positive less in omega (arith, ints))
    (λ at_least.
    let same : m ≡ n = omega (arith, ints) in
    let products : m *ℤ pos d ≡ n *ℤ pos d = ap (λ z. z *ℤ pos d) same in
    omega (arith, ints))

-- a mantissa above two neighbours' power, or at it: a multiple of the power
coarse : (z lo : ℤ) (b e : ℕ) → b ≤ e → ((z *ℤ pos (2 ^ e)) ≤ℤ (lo *ℤ pos (2 ^ b)))
    ⊎ (((lo +ℤ pos 1) *ℤ pos (2 ^ b)) ≤ℤ (z *ℤ pos (2 ^ e)))
coarse z lo b e order =
    let split = power_splits z b e order in
    by_lt_z lo (z *ℤ pos (2 ^ (e - b)))
    (λ less. inr (omega (
      arith,
      ints,
      split,
      scale_le (lo +ℤ pos 1) (z *ℤ pos (2 ^ (e - b))) (2 ^ b) (pow_pos b)
          (omega (arith, ints, less)),
    )))
    (λ at_most. inl (omega (arith, ints, split, scale_le (z *ℤ pos (2 ^ (e - b))) lo (2 ^ b) (pow_pos b) at_most)))

-- at a smaller power the mantissas end before both, upwards and downwards
fine_up : (z lo : ℤ) (b e : ℕ) → e < b → IsMantissa z → pos 512 ≤ℤ lo → (z *ℤ pos (2 ^ e)) ≤ℤ (lo *ℤ pos (2 ^ b))
fine_up z lo b e order fits large =
    let split = power_splits lo e b (omega arith) in
    let grown = grows_up 512 lo (2 ^ (b - e)) (two_or_more (b - e) (omega arith)) large in
    omega (
      arith,
      ints,
      split,
      scale_le z (lo *ℤ pos (2 ^ (b - e))) (2 ^ e) (pow_pos e)
          (omega (arith, ints, fits, grown)),
    )

fine_down : (z high : ℤ) (b e : ℕ) → e < b → IsMantissa z → high ≤ℤ negsuc 511
    → (high *ℤ pos (2 ^ b)) ≤ℤ (z *ℤ pos (2 ^ e))
fine_down z high b e order fits small =
    let split = power_splits high e b (omega arith) in
    let grown = grows_down 511 high (2 ^ (b - e)) (two_or_more (b - e) (omega arith)) small in
    omega (
      arith,
      ints,
      split,
      scale_le (high *ℤ pos (2 ^ (b - e))) z (2 ^ e) (pow_pos e)
          (omega (arith, ints, fits, grown)),
    )

-- So no code is between two neighbours at a power, where that is the least or both are large: the
-- next of 1023 is 512 at the next power, and the one before -512 is -1024 at the power before.
pub mantissa_gap : (lo : ℤ) (b : ℕ) → (b ≡ 0) ⊎ ((pos 512 ≤ℤ lo) ⊎ ((lo +ℤ pos 1) ≤ℤ negsuc 511))
    → IsGap linear11 (lo *ℤ pos (2 ^ b)) ((lo +ℤ pos 1) *ℤ pos (2 ^ b))
mantissa_gap lo b place k code =
    let holds = holds_itself k code in
    elim (cases_lt (steps k) b) [
      | inr others ↦ coarse (mantissa k) lo b (steps k) others
      | inl smaller ↦
          elim place [
            | inl least ↦ absurd (omega arith)
            | inr large ↦
                elim large [
                  | inl up ↦ inl (fine_up (mantissa k) lo b (steps k) smaller (mantissa_fits k) up)
                  | inr down ↦ inr (fine_down (mantissa k) (lo +ℤ pos 1) b (steps k) smaller (mantissa_fits k) down)
                ]
          ]
    ]

-- an index over -1024
pub at_mantissa : (b j : ℕ) → at (negsuc 1023 *ℤ pos (2 ^ b)) (2 ^ b) j ≡ (negsuc 1023 +ℤ pos j) *ℤ pos (2 ^ b)
at_mantissa b j = sym (sum-product (negsuc 1023) j (2 ^ b))

mantissa_place : (b j : ℕ) → (b ≡ 0) ⊎ ((1536 ≤ j) ⊎ (j < 512))
    → (b ≡ 0) ⊎ ((pos 512 ≤ℤ (negsuc 1023 +ℤ pos j)) ⊎ ((negsuc 1023 +ℤ pos j +ℤ pos 1) ≤ℤ negsuc 511))
mantissa_place b j (inl least) = inl least
mantissa_place b j (inr (inl up)) = inr (inl (omega (arith, ints)))
mantissa_place b j (inr (inr down)) = inr (inr (omega (arith, ints)))

pub index_gap : (b j : ℕ) → (b ≡ 0) ⊎ ((1536 ≤ j) ⊎ (j < 512))
    → IsGap linear11 (at (negsuc 1023 *ℤ pos (2 ^ b)) (2 ^ b) j) (at (negsuc 1023 *ℤ pos (2 ^ b)) (2 ^ b) (j + 1))
index_gap b j place k code =
    let lo : ℤ = negsuc 1023 +ℤ pos j in
    let next : lo +ℤ pos 1 ≡ negsuc 1023 +ℤ pos (j + 1) = omega (arith, ints) in
    let high_is : (lo +ℤ pos 1) *ℤ pos (2 ^ b) ≡ at (negsuc 1023 *ℤ pos (2 ^ b)) (2 ^ b) (j + 1) =
    ap (λ z. z *ℤ pos (2 ^ b)) next ∙ sym (at_mantissa b (j + 1)) in
    elim (mantissa_gap lo b (mantissa_place b j place) k code) [
      | inl below ↦ inl (omega (arith, ints, below, at_mantissa b j))
      | inr above ↦ inr (omega (arith, ints, above, high_is))
    ]
