-- How many reads are made: for the profile that comes first, and for what follows it.
use Rattle.std.specs.Prelude.{◌≡◌, ◌≤◌, ◌+◌, ℕ}
use Rattle.pmb_preamble.specs.Front.{most_profile}
use Rattle.pmb_io.specs.Count.{raised}
use Rattle.pmb_io.specs.Runs.{most_reads}

-- how many reads neither failed nor were the end: those of `front`, and those of the work after it
abbrev pub MadeReadsInAll : ℕ → ℕ → Type 0
MadeReadsInAll old new = (count : ℕ) × (count ≤ (most_profile + 4) + most_reads) × (new ≡ raised old count)
