-- What the fields of a bit's history say of the reads that it was given, and what a read changes.
use Rattle.std.specs.Prelude.{◌≡◌, ℕ, ◌+◌, ◌==◌, Bool, true, false, if◌then◌else◌, Option, None, List, []}
use Rattle.std.specs.Prelude.{◌∷◌, reverse}
use Rattle.pmb_io.specs.Count.{capped}
use Rattle.pmb_stats_bits.specs.declared.history.BitHistory.{BitHistory}
use Rattle.pmb_stats_bits.specs.Bits.{RegisterRead, found, first_time, gone_time, last_time, set_count}

-- whether the first of some reads found a bit set
abbrev pub first_found : ℕ → List RegisterRead → Bool
first_found bit [] = false
first_found bit (read ∷ reads) = found bit read

pub record BitStandsAt (history : BitHistory) (reads : List RegisterRead) (bit : ℕ) : Type 0 where
  pub count : history.count ≡ capped (set_count reads bit)
  pub first : history.first ≡ first_time reads bit
  pub last : history.last ≡ last_time reads bit
  pub gone : history.gone ≡ gone_time reads bit
  pub is_set : history.is_set ≡ first_found bit (reverse reads)

-- after a read that found the bit set, at that time
abbrev pub after_set : BitHistory → Option (List ℕ) → BitHistory
after_set history time = record {
  count = capped (history.count + 1);
  first = if history.count == 0 then time else history.first;
  last = time;
  gone = None;
  is_set = true;
}

-- .. after one that found it clear
abbrev pub after_clear : BitHistory → Option (List ℕ) → BitHistory
after_clear history time =
    record history { gone = if history.is_set then time else history.gone; is_set = false }
