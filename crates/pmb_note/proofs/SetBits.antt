-- The set bits of a register from the highest down: those above it are passed over, those below it
-- stay. For `highest_bit`, `without` and `append_set_bits` of `src/status.rt`. A value below 2 ^
-- top has no bit from top on; without its highest bit the others are as before.
use Rattle.std.proofs.Common.{◌≡◌, ◌∙◌, ℕ, ◌+◌, ◌*◌, ◌/◌, ◌%◌, ◌^◌, ◌-◌, ◌<◌, ◌≤◌, ◌==◌, Bool, true, false, cond, List}
use Rattle.std.proofs.Common.{[], ◌++◌, codes, refl, sym, ap, subst, inl, inr, arith}
use Rattle.std.specs.Prelude.{zero, suc}
use Rattle.std.proofs.lemmas.Bool.{cases_lt}
use Rattle.std.specs.Int.Count.{count_leading_zeros}
use Rattle.std.proofs.lemmas.Nat.{div-mul-add, leading_top, one_shl, pow-add, pow_pos}
use Rattle.std.proofs.Math.Nat.{add-mul-div_left, add-mul-mod_self_left}
use Rattle.std.proofs.Math.Pow.{pow_mono}
use Rattle.pmb_command.specs.StatusBits.{bit_text}
use Rattle.pmb_note.specs.Note.{is_set, named_bit, set_bit_text, set_bits_text}

-- ---- quotients

none_over : (value w : ℕ) → value < w → value / w ≡ 0
none_over value w few =
    let is : value ≡ 0 * w + value = omega arith in
    ap (λ (n : ℕ). n / w) is ∙ div-mul-add 0 w value few

one_over : (value w : ℕ) → w ≤ value → value < 2 * w → value / w ≡ 1
one_over value w least most =
    let is : value ≡ 1 * w + (value - w) = omega (arith, least) in
    ap (λ (n : ℕ). n / w) is ∙ div-mul-add 1 w (value - w) (omega (arith, least, most))

same_over : (value rest w m : ℕ) → 0 < w → value ≡ rest + w * (2 * m) → value / w % 2 ≡ rest / w % 2
same_over value rest w m some is =
    ap (λ (n : ℕ). n / w % 2) is ∙ ap (λ (n : ℕ). n % 2) (add-mul-div_left rest (2 * m) some)
    ∙ add-mul-mod_self_left (rest / w) 2 m

doubled : (k : ℕ) → 2 ^ suc k ≡ 2 * 2 ^ k
doubled k =
    let one_more : suc k ≡ 1 + k = omega arith in
    ap (λ (n : ℕ). 2 ^ n) one_more ∙ pow-add 2 1 k

-- ---- bits

-- above all bits that are set
unset_above : (value bit : ℕ) → value < 2 ^ bit → is_set value bit ≡ false
unset_above value bit few = ap (λ (n : ℕ). n % 2 == 1) (none_over value (2 ^ bit) few)

-- the highest
set_at : (value bit : ℕ) → 2 ^ bit ≤ value → value < 2 * 2 ^ bit → is_set value bit ≡ true
set_at value bit least most = ap (λ (n : ℕ). n % 2 == 1) (one_over value (2 ^ bit) least most)

-- below it
same_below : (value rest top bit : ℕ) → value ≡ rest + 2 ^ top → bit < top → is_set rest bit ≡ is_set value bit
same_below value rest top bit is below =
    let parts : top ≡ bit + (1 + (top - (bit + 1))) = omega (arith, below) in
    let power : 2 ^ top ≡ 2 ^ bit * (2 * 2 ^ (top - (bit + 1))) =
    ap (λ (n : ℕ). 2 ^ n) parts ∙ pow-add 2 bit (1 + (top - (bit + 1)))
    ∙ ap (λ (n : ℕ). 2 ^ bit * n) (pow-add 2 1 (top - (bit + 1))) in
    ap (λ (n : ℕ). n == 1) (sym (same_over value rest (2 ^ bit) (2 ^ (top - (bit + 1))) (pow_pos bit)
    (is ∙ ap (λ (n : ℕ). rest + n) power)))

-- ---- texts

module _ (code : ℕ) where
  abbrev bit_of : ℕ → Bool → List ℕ
  bit_of bit b = cond b (codes " " ++ named_bit (bit_text code bit) bit) []

  -- no bit above those that are set is told
  above : (value top n bits : ℕ) → bits ≡ n + top → value < 2 ^ top
      → set_bits_text code value bits ≡ set_bits_text code value top
  above value top zero bits is few =
      let same : bits ≡ top = omega (arith, is) in
      ap (λ (m : ℕ). set_bits_text code value m) same
  above value top (suc n) zero is few = absurd (omega (arith, is))
  above value top (suc n) (suc bit) is few =
      let over : top ≤ bit = omega (arith, is) in
      let powers : 2 ^ top ≤ 2 ^ bit = pow_mono over in
      let unset : set_bit_text code value bit ≡ [] =
      ap (bit_of bit) (unset_above value bit (omega (arith, few, powers))) in
      ap (λ (text : List ℕ). text ++ set_bits_text code value bit) unset ∙ above value top n bit (omega (arith, is)) few

  -- the bits below the highest are told as before
  others : (value rest top n : ℕ) → value ≡ rest + 2 ^ top → n ≤ top
      → set_bits_text code rest n ≡ set_bits_text code value n
  others value rest top zero is few = refl
  others value rest top (suc bit) is few =
      let here : set_bit_text code rest bit ≡ set_bit_text code value bit =
      ap (bit_of bit) (same_below value rest top bit is (omega (arith, few))) in
      ap (λ (text : List ℕ). text ++ set_bits_text code rest bit) here
      ∙ ap (λ (text : List ℕ). set_bit_text code value bit ++ text) (others value rest top bit is (omega (arith, few)))

  -- no bit is set
  pub no_bits : (bits : ℕ) → [] ≡ set_bits_text code 0 bits
  no_bits bits = sym (above 0 0 bits bits (omega arith) (pow_pos 0))

  -- the highest bit, and the others
  pub highest_first : (value rest top bits : ℕ) → 2 ^ top ≤ value → value < 2 * 2 ^ top → value ≡ rest + 2 ^ top
      → top < bits
      → (codes " " ++ named_bit (bit_text code top) top) ++ set_bits_text code rest top ≡ set_bits_text code value bits
  highest_first value rest top bits least most is within =
      let set : bit_of top true ≡ set_bit_text code value top = ap (bit_of top) (sym (set_at value top least most)) in
      let under : value < 2 ^ suc top = subst (λ (n : ℕ). value < n) (sym (doubled top)) most in
      ap (λ (text : List ℕ). text ++ set_bits_text code rest top) set
      ∙ ap (λ (text : List ℕ). set_bit_text code value top ++ text) (others value rest top top is (omega arith))
      ∙ sym (above value (suc top) (bits - suc top) bits (omega (arith, within)) under)

-- a bit that is set is one of so many
pub set_within : (value top bits : ℕ) → 2 ^ top ≤ value → value < 2 ^ bits → top < bits
set_within value top bits least few =
    elim (cases_lt top bits) [
      | inl below ↦ below
      | inr over ↦ (let powers : 2 ^ bits ≤ 2 ^ top = pow_mono over in absurd (omega (arith, least, few, powers)))
    ]

-- ---- words

-- the highest bit of a word that is not 0, by the zeros before it
pub highest_at : (value : ℕ) → 0 < value → value < 65536 → (2 ^ (15 - count_leading_zeros 16 value) ≤ value)
    × (value < 2 * 2 ^ (15 - count_leading_zeros 16 value))
highest_at value some few =
    let top = leading_top 16 value some few in
    let place : 15 - count_leading_zeros 16 value ≡ top.0 = omega (arith, top.1) in
    let most : value < 2 * 2 ^ top.0 = subst (λ (n : ℕ). value < n) (doubled top.0) top.3 in
    (subst (λ (n : ℕ). 2 ^ n ≤ value) (sym place) top.2, subst (λ (n : ℕ). value < 2 * 2 ^ n) (sym place) most)

-- a one at a bit of a word
pub one_at : (bit : ℕ) → bit < 16 → 1 * 2 ^ bit % 65536 ≡ 2 ^ bit
one_at bit few = one_shl bit 16 few
