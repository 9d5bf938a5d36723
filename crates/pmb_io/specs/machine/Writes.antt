-- What one write of an `Io` did.
use Rattle.std.specs.Prelude.{◌≤◌, ℕ, Option, List, length, take}
use Rattle.std.specs.Io.KnownBytes.{Appends, Keeps}
use Rattle.pmb_io.specs.Count.{raised}
use Rattle.pmb_io.specs.declared.io.Wrote.{Wrote}
use Rattle.pmb_io.specs.declared.io.Wrote.TheVariants.{Some, Nothing, Interrupted, Failed}

-- what was written of the bytes
abbrev pub Took : Option (List ℕ) → Option (List ℕ) → List ℕ → Wrote → Type 0
Took old new bytes (Some count) = (count ≤ length bytes) × Appends old new (take count bytes)
Took old new bytes Nothing = Keeps old new
Took old new bytes Interrupted = Keeps old new
Took old new bytes Failed = Keeps old new

-- how many writes took nothing
abbrev pub idle_after : Wrote → ℕ → ℕ
idle_after (Some count) idle = idle
idle_after Nothing idle = raised idle 1
idle_after Interrupted idle = idle
idle_after Failed idle = idle
