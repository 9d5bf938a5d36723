-- When the line of progress is written.
use Rattle.std.specs.Prelude.{ℕ, ◌&&◌, Bool, nat_le}

-- Reading takes two seconds or more, and the line is left for a fifth of a second, so that it can be read. Both
-- times are in milliseconds.
abbrev pub is_due : (reading shown : ℕ) → Bool
is_due reading shown = nat_le 2000 reading && nat_le 200 shown
