-- Clearing bits byte by byte: for the loop of `clear_bits`. After i masks the bytes are those that
-- the first i masks clear; a mask's byte m leaves the bits of 255 - m.
use Rattle.std.proofs.Common.{◌≡◌, ℕ, zero, suc, ◌+◌, ◌-◌, ◌<◌, ◌≤◌, List, [], ◌∷◌, length, take, set, get_or, min}
use Rattle.std.proofs.Common.{refl, sym, ap, ◌∙◌, arith, add-one}
use Rattle.std.specs.Prelude.{bit_and}
use Rattle.pmb_registers.specs.Apply.{cleared_bits}

-- where nothing is written nothing is cleared
pub cleared_none : (bytes : List ℕ) → bytes ≡ cleared_bits [] bytes
cleared_none [] = refl
cleared_none (byte ∷ bytes) = refl

-- 255 - m has the bits that the mask m doesn't clear
cleared_at : (written bytes : List ℕ) (i : ℕ) → i < length written → i < length bytes
    → set (cleared_bits (take i written) bytes) i
    (bit_and (get_or (cleared_bits (take i written) bytes) i 0) (255 - get_or written i 0))
    ≡ cleared_bits (take (suc i) written) bytes
cleared_at [] bytes i within inside = absurd (omega arith)
cleared_at (mask ∷ masks) [] i within inside = absurd (omega arith)
cleared_at (mask ∷ masks) (byte ∷ bytes) zero within inside = ap (λ (bs : List ℕ). bit_and byte (255 - mask) ∷ bs)
    (cleared_none bytes)
cleared_at (mask ∷ masks) (byte ∷ bytes) (suc i) within inside =
    ap (λ (bs : List ℕ). bit_and byte (255 - mask) ∷ bs) (cleared_at masks bytes i (omega arith) (omega arith))

-- one byte more
pub cleared_more : (written bytes now : List ℕ) (i : ℕ) → i < length written → i < length bytes
    → now ≡ cleared_bits (take i written) bytes
    → set now i (bit_and (get_or now i 0) (255 - get_or written i 0)) ≡ cleared_bits (take (i + 1) written) bytes
cleared_more written bytes now i within inside so_far =
    ap (λ (bs : List ℕ). set bs i (bit_and (get_or bs i 0) (255 - get_or written i 0))) so_far
    ∙ cleared_at written bytes i within inside ∙ ap (λ (n : ℕ). cleared_bits (take n written) bytes)
    (sym (add-one i))

-- as many masks as there are bytes are enough
pub cleared_all : (written bytes : List ℕ) (n : ℕ) → min (length bytes) (length written) ≤ n
    → cleared_bits (take n written) bytes ≡ cleared_bits written bytes
cleared_all written [] n enough = refl
cleared_all [] (byte ∷ bytes) zero enough = refl
cleared_all [] (byte ∷ bytes) (suc n) enough = refl
cleared_all (mask ∷ masks) (byte ∷ bytes) zero enough = absurd (omega arith)
cleared_all (mask ∷ masks) (byte ∷ bytes) (suc n) enough = ap (λ (bs : List ℕ). bit_and byte (255 - mask) ∷ bs)
    (cleared_all masks bytes n (omega arith))
