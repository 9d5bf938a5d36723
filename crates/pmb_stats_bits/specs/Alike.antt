-- Reads of which the same is told of a bit.
use Rattle.std.specs.Prelude.{◌≡◌, ℕ, List}
use Rattle.pmb_io.specs.Count.{capped}
use Rattle.pmb_stats_bits.specs.Bits.{RegisterRead, first_time, gone_time, last_time, set_count}

-- as many found it set, as far as a count goes; so did the first and the last of them at the same times, and it is gone
-- at the same
pub record TellBitAlike (reads others : List RegisterRead) (bit : ℕ) : Type 0 where
  pub count : capped (set_count reads bit) ≡ capped (set_count others bit)
  pub first : first_time reads bit ≡ first_time others bit
  pub last : last_time reads bit ≡ last_time others bit
  pub gone : gone_time reads bit ≡ gone_time others bit
