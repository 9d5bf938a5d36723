-- Whether there is anything to tell of a bit, of a register and of numbers, by what is counted.
use Rattle.std.proofs.Common.{◌≡◌, ◌∙◌, ◌<◌, ℕ, zero, suc, Bool, true, cond, List, [], ◌∷◌, ◌++◌, ap, arith, length}
use Rattle.std.proofs.Common.{refl, sym}
use Rattle.std.proofs.Common.{inl, inr, ◌==◌, ◌||◌, nat_eq, subst}
use Rattle.std.proofs.lemmas.Bool.{cases_Bool, eqb-false, eqb-true, ne_eqb}
use Rattle.pmb_command.specs.Parts.{CommandParts}
use Rattle.pmb_io.specs.Count.{capped}
use Rattle.pmb_mean.specs.Numbers.{NumberData}
use Rattle.pmb_observed.specs.declared.spot.PageKey.{PageKey}
use Rattle.pmb_observed.specs.declared.spot.PhaseKey.{PhaseKey}
use Rattle.pmb_observed.specs.Told.{BitData, NumbersData, bit_told, bits_told, numbers_told}
use Rattle.pmb_stats_bits.specs.Bits.{RegisterRead, set_count}
use Rattle.pmb_stats_objects.specs.machine.Written.{has_any}
use Rattle.pmb_stats_objects.proofs.Lists.{any_of_both, or-true}

-- ---- a bit

module _ (page : PageKey) (phase : PhaseKey) (command : CommandParts) (reads : List RegisterRead) where
  abbrev pub this_bit : ℕ → BitData
  this_bit bit = record { page = page; phase = phase; command = command; bit = bit; reads = reads }

  pub no_bit : (bit : ℕ) → set_count reads bit ≡ 0 → bit_told page phase command reads bit ≡ []
  no_bit bit none = ap (λ (m : ℕ). cond (m == 0) [] (this_bit bit ∷ [])) none

  pub one_bit : (bit : ℕ) → (set_count reads bit ≡ 0 → ⊥) → bit_told page phase command reads bit ≡ this_bit bit ∷ []
  one_bit bit some = ap (λ (none : Bool). cond none [] (this_bit bit ∷ [])) (ne_eqb (set_count reads bit) 0 some)

  -- ---- a register

  pub no_count : (count : ℕ) → count ≡ 0 → bits_told page phase command reads count ≡ []
  unfolding bits_told
  no_count count none = ap (bits_told page phase command reads) none

  -- the highest bit comes first
  pub highest_first : (count bit : ℕ) → count ≡ suc bit
      → bits_told page phase command reads count
      ≡ bit_told page phase command reads bit ++ bits_told page phase command reads bit
  unfolding bits_told
  highest_first count bit is = ap (bits_told page phase command reads) is

  pub no_bits : (bits : ℕ) → ((bit : ℕ) → bit < bits → set_count reads bit ≡ 0)
      → bits_told page phase command reads bits ≡ []
  unfolding bits_told
  no_bits zero none = refl
  no_bits (suc bit) none =
      ap (λ (told : List BitData). told ++ bits_told page phase command reads bit) (no_bit bit (none bit (omega arith)))
      ∙ no_bits bit (λ lower below. none lower (omega (arith, below)))

  pub some_bits : (bits bit : ℕ) → bit < bits → (set_count reads bit ≡ 0 → ⊥)
      → has_any (bits_told page phase command reads bits) ≡ true
  unfolding bits_told
  some_bits zero bit below some = absurd (omega (arith, below))
  some_bits (suc bits) bit below some =
      elim (cases_Bool (nat_eq bit bits)) [
        | inl same ↦
            let here : bit ≡ bits = eqb-true bit bits same in
            let told : bit_told page phase command reads bits ≡ this_bit bits ∷ [] =
            one_bit bits (subst (λ (n : ℕ). set_count reads n ≡ 0 → ⊥) here some) in
            ap (λ (found : List BitData). has_any (found ++ bits_told page phase command reads bits)) told
        | inr differ ↦
            let other = eqb-false bit bits differ in
            any_of_both (bit_told page phase command reads bits) (bits_told page phase command reads bits)
            ∙ ap (λ (any : Bool). has_any (bit_told page phase command reads bits) || any)
            (some_bits bits bit (omega (arith, below, other)) some)
            ∙ or-true (has_any (bit_told page phase command reads bits))
      ]

-- a count that is kept is 0 where there is none
pub kept_zero : (n count : ℕ) → n ≡ capped count → n ≡ 0 → count ≡ 0
kept_zero n count is none = omega (arith, is, none)

pub kept_some : (n count : ℕ) → n ≡ capped count → (n ≡ 0 → ⊥) → count ≡ 0 → ⊥
kept_some n count is some none = some (is ∙ ap capped none)

-- ---- numbers

module _ (page : PageKey) (phase : PhaseKey) (command : CommandParts) (numbers : List NumberData) where
  abbrev pub these : NumbersData
  these = record { page = page; phase = phase; command = command; numbers = numbers }

  pub no_numbers : (n : ℕ) → n ≡ length numbers → n ≡ 0 → numbers_told page phase command numbers ≡ []
  no_numbers n is none = ap (λ (m : ℕ). cond (m == 0) [] (these ∷ [])) (sym is ∙ none)

  pub some_numbers : (n : ℕ) → n ≡ length numbers → (n ≡ 0 → ⊥) → numbers_told page phase command numbers ≡ these ∷ []
  some_numbers n is some =
      ap (λ (none : Bool). cond none [] (these ∷ [])) (ne_eqb (length numbers) 0 (λ none. some (is ∙ none)))
