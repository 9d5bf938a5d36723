-- Times of wires, as they are told: seconds, with nine digits after the point.
use Rattle.std.specs.Prelude.{ℕ, ◌+◌, ◌-◌, ◌/◌, ◌%◌, ◌^◌, nat_lt, if◌then◌else◌, List, ◌++◌, codes, decimal, drop}

-- the parts of a second that nine digits tell, and the femtoseconds of one
abbrev pub billion : ℕ
billion = 10 ^ 9

abbrev pub million : ℕ
million = 10 ^ 6

-- a number below a billion, with nine digits
abbrev pub nine_digits : ℕ → List ℕ
nine_digits number = drop 1 (decimal (billion + number))

-- a number of billionths of a second, as seconds
abbrev pub with_point : ℕ → List ℕ
with_point billionths = decimal (billionths / billion) ++ (codes "." ++ nine_digits (billionths % billion))

-- femtoseconds, one at least, in billionths of a second, rounded up
abbrev pub rounded_up : ℕ → ℕ
rounded_up time = (time - 1) / million + 1

-- A time, where another one counts as 0. It is rounded down: below 0 that is away from 0.
abbrev pub seconds : ℕ → ℕ → List ℕ
seconds origin time =
    if nat_lt time origin then codes "-" ++ with_point (rounded_up (origin - time)) else
    with_point ((time - origin) / million)
