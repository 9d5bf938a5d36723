-- The bits of a register, one after the other.
use Rattle.std.proofs.Common.{◌≡◌, ℕ, suc, ◌+◌, ◌*◌, Bool, true, false, ◌||◌, List, [], ◌∷◌, ap, arith}
use Rattle.std.proofs.Common.{get_or, length, sym, ◌∙◌}
use Rattle.pmb_command.specs.Parts.{NamedBit}
use Rattle.pmb_stats_counts.specs.Faults.{has_fault_bit, is_fault_set, register_has_fault}

-- the highest bit, and those below it
highest_first : (names : List NamedBit) (code value bits bit : ℕ) → bits ≡ bit + 1
    → (is_fault_set names code value bit || has_fault_bit names code value bit) ≡ has_fault_bit names code value bits
unfolding has_fault_bit
highest_first names code value bits bit next =
    let e : suc bit ≡ bits = omega arith in ap (has_fault_bit names code value) e

-- where the highest is set and tells of a fault
pub at_highest : (names : List NamedBit) (code value bits bit : ℕ) (here : Bool) → bits ≡ bit + 1
    → here ≡ is_fault_set names code value bit → here ≡ true → here ≡ has_fault_bit names code value bits
at_highest names code value bits bit here next is so =
    so ∙ (ap (λ (b : Bool). b || has_fault_bit names code value bit) (sym so ∙ is)
    ∙ highest_first names code value bits bit next)

-- .. and where it doesn't
pub below_highest : (names : List NamedBit) (code value bits bit : ℕ) (here more : Bool) → bits ≡ bit + 1
    → here ≡ is_fault_set names code value bit → here ≡ false → more ≡ has_fault_bit names code value bit
    → more ≡ has_fault_bit names code value bits
below_highest names code value bits bit here more next is so rest =
    rest ∙ (ap (λ (b : Bool). b || has_fault_bit names code value bit) (sym so ∙ is)
    ∙ highest_first names code value bits bit next)

pub no_bits : (names : List NamedBit) (code value bits : ℕ) → bits ≡ 0 → false ≡ has_fault_bit names code value bits
unfolding has_fault_bit
no_bits names code value bits none = ap (has_fault_bit names code value) (sym none)

-- a register of two bytes
pub two_bytes : (names : List NamedBit) (code value : ℕ) (bytes : List ℕ) → length bytes ≡ 2
    → value ≡ get_or bytes 0 0 + 256 * get_or bytes 1 0
    → has_fault_bit names code value 16 ≡ register_has_fault names code bytes
two_bytes names code value [] two is = absurd (omega arith)
two_bytes names code value (a ∷ []) two is = absurd (omega arith)
two_bytes names code value (low ∷ high ∷ []) two is = ap (λ (v : ℕ). has_fault_bit names code v 16) is
two_bytes names code value (a ∷ b ∷ c ∷ bytes) two is = absurd (omega arith)
