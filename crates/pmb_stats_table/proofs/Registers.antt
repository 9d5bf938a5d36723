-- The bits of a register, from the highest down: for `put_register`.
use Rattle.std.proofs.Common.{◌≡◌, ℕ, zero, suc, ◌+◌, List, [], ◌++◌, refl, ap, arith}
use Rattle.pmb_command.specs.Parts.{CommandParts}
use Rattle.pmb_observed.specs.declared.spot.PageKey.{PageKey}
use Rattle.pmb_observed.specs.declared.spot.PhaseKey.{PhaseKey}
use Rattle.pmb_observed.specs.Told.{bit_told, bits_told}
use Rattle.pmb_stats_bits.specs.Bits.{RegisterRead}

module _ (page : PageKey) (phase : PhaseKey) (command : CommandParts) (reads : List RegisterRead) where
  -- no bits
  pub none_of_them : (count : ℕ) → count ≡ 0 → [] ≡ bits_told page phase command reads count
  unfolding bits_told
  none_of_them zero none = refl
  none_of_them (suc bit) none = absurd (omega (arith, none))

  -- the highest, and then those below it
  pub highest_first : (count bit : ℕ) → count ≡ bit + 1
      → bit_told page phase command reads bit ++ bits_told page phase command reads bit
      ≡ bits_told page phase command reads count
  unfolding bits_told
  highest_first zero bit is = absurd (omega (arith, is))
  highest_first (suc below) bit is =
      let same : bit ≡ below = omega (arith, is) in
      ap (λ (b : ℕ). bit_told page phase command reads b ++ bits_told page phase command reads b) same
