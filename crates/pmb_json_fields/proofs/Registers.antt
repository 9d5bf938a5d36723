-- Status bits, from the highest down, and the bytes that make a register: one byte has 8 bits, two
-- have 16, other numbers of bytes say nothing. For `append_set_bits` and `append_status` of
-- `src/bits.rt`. The bits of a register are the highest and then those below it.
use Rattle.std.proofs.Common.{◌≡◌, ℕ, ◌+◌, ◌*◌, zero, suc, List, [], ◌∷◌, ◌++◌, get_or, true, false, ltb, length, refl}
use Rattle.std.proofs.Common.{ap, arith}
use Rattle.std.proofs.lemmas.Bool.{ltb-false, ltb-true}
use Rattle.pmb_command.specs.Parts.{CommandParts}
use Rattle.pmb_json_fields.specs.declared.access.Access.{Access}
use Rattle.pmb_json_fields.specs.Value.{bits_members, set_bit, set_bits, status_members}

-- the highest of some bits, and those below it
pub highest_first : (c : CommandParts) (value bits less : ℕ) → less + 1 ≡ bits
    → set_bit c value less ++ set_bits c value less ≡ set_bits c value bits
highest_first c value zero less is = absurd (omega (arith, is))
highest_first c value (suc bits) less is =
    let same : less ≡ bits = omega (arith, is) in
    ap (λ (n : ℕ). set_bit c value n ++ set_bits c value n) same

-- no byte is no register
pub no_byte : (access : Access) (c : CommandParts) (bytes : List ℕ) → ltb (length bytes) 1 ≡ true
    → [] ≡ status_members access c bytes
no_byte access c [] few = refl
no_byte access c (a ∷ bytes) few = absurd (omega (arith, ltb-true (length (a ∷ bytes)) 1 few))

-- .. nor are three or more
pub too_many : (access : Access) (c : CommandParts) (bytes : List ℕ) → ltb (length bytes) 3 ≡ false
    → [] ≡ status_members access c bytes
too_many access c [] many = absurd (omega (arith, ltb-false 0 3 many))
too_many access c (a ∷ []) many = absurd (omega (arith, ltb-false (length (a ∷ [])) 3 many))
too_many access c (a ∷ b ∷ []) many = absurd (omega (arith, ltb-false (length (a ∷ b ∷ [])) 3 many))
too_many access c (a ∷ b ∷ d ∷ bytes) many = refl

-- two bytes are a register of 16 bits
pub two_bytes : (access : Access) (c : CommandParts) (word : ℕ) (bytes : List ℕ) → length bytes ≡ 2
    → word ≡ get_or bytes 0 0 + 256 * get_or bytes 1 0
    → bits_members access (set_bits c word 16) ≡ status_members access c bytes
two_bytes access c word [] two is = absurd (omega (arith, two))
two_bytes access c word (a ∷ []) two is = absurd (omega (arith, two))
two_bytes access c word (low ∷ high ∷ []) two is = ap (λ (w : ℕ). bits_members access (set_bits c w 16)) is
two_bytes access c word (a ∷ b ∷ d ∷ bytes) two is = absurd (omega (arith, two))
