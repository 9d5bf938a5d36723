-- Words of two bytes as numbers.
use Rattle.std.specs.Prelude.{◌≡◌, ℕ, ◌+◌, ◌-◌, ◌%◌, ◌^◌, ◌<◌, ℤ, pos, ◌+ℤ◌, ◌-ℤ◌, nat_lt, if◌then◌else◌}
use Rattle.pmb_format.specs.Coding.{IsWord}

-- a field of so many bits, read as a two's complement number
unfoldable pub twos_complement : ℕ → ℕ → ℤ
twos_complement bits field = if nat_lt field (2 ^ (bits - 1)) then pos field else pos field -ℤ pos (2 ^ bits)

-- the numbers of the words rise by one from the least, each word once, with the parity of its index
pub record CountsUp (number : ℕ → ℤ) (at : ℕ → ℕ) (least : ℤ) : Type 0 where
  pub word : (i : ℕ) → i < 2 ^ 16 → IsWord (at i)
  pub number_is : (i : ℕ) → i < 2 ^ 16 → number (at i) ≡ least +ℤ pos i
  pub parity : (i : ℕ) → i < 2 ^ 16 → at i % 2 ≡ i % 2
  pub index : (k : ℕ) → IsWord k → (i : ℕ) × (i < 2 ^ 16) × (at i ≡ k)

-- from -32768 up: the upper half of the words, and then the lower half
abbrev pub signed_at : ℕ → ℕ
signed_at i = (i + 2 ^ 15) % 2 ^ 16
