-- The time of a sample.
use Rattle.std.specs.Prelude.{ℕ, ◌+◌, ◌*◌, ◌/◌, ◌%◌, ◌^◌, ◌&&◌, Option, Some, None, if◌then◌else◌, nat_le, List, []}
use Rattle.std.specs.Prelude.{◌++◌}
use Rattle.std.specs.Prelude.{codes, decimal, drop}

-- the parts of a second that nine digits tell
abbrev pub billion : ℕ
billion = 10 ^ 9

-- the highest rate: a billion times it is below 2 ^ 64
abbrev pub most_rate : ℕ
most_rate = 18446744073

-- samples in a second: at least one, and not over the highest rate
abbrev pub rate_of : ℕ → Option ℕ
rate_of hertz = if nat_le 1 hertz && nat_le hertz most_rate then Some hertz else None

-- a number below a billion, with nine digits
abbrev pub nine_digits : ℕ → List ℕ
nine_digits number = drop 1 (decimal (billion + number))

-- the billionths of a second after the last whole one, rounded down
abbrev pub part_at : ℕ → ℕ → ℕ
part_at sample rate = (sample % rate) * billion / rate

-- seconds with nine digits after the point
abbrev pub time_at : ℕ → ℕ → List ℕ
time_at sample rate = decimal (sample / rate) ++ (codes "." ++ (nine_digits (part_at sample rate) ++ codes " s"))

-- the time of a sample at a rate: none where one of them is not known
abbrev pub time_of : Option ℕ → Option ℕ → List ℕ
time_of (Some sample) (Some rate) = time_at sample rate
time_of (Some sample) None = []
time_of None (Some rate) = []
time_of None None = []
