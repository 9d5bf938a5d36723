-- The times of an export.
use Rattle.std.specs.Prelude.{ℕ, ◌+◌, ◌*◌, ◌==◌, ◌&&◌, Bool, Option, Some, None, is_some, nat_lt, if◌then◌else◌, List}
use Rattle.std.specs.Prelude.{[], ◌++◌, codes, decimal, length, slice_index}
use Rattle.pmb_words.specs.Numbers.{decimal_of, fitting_of, greatest}
use Rattle.pmb_words.specs.Parts.{parted}

abbrev pub colon : ℕ
colon = slice_index (codes ":") 0

abbrev pub point : ℕ
point = slice_index (codes ".") 0

-- so many digits
abbrev pub are_digits : ℕ → List ℕ → Bool
are_digits count text = (length text == count) && is_some (decimal_of text)

-- minutes and seconds in seconds, where these are not over the greatest number
abbrev pub in_seconds : Option ℕ → Option ℕ → Option ℕ
in_seconds (Some minutes) (Some seconds) =
    if nat_lt greatest (60 * minutes + seconds) then None else Some (60 * minutes + seconds)
in_seconds (Some minutes) None = None
in_seconds None seconds = None

abbrev pub told : Option ℕ → List ℕ → List ℕ → List ℕ
told (Some whole) thousandths millionths =
    decimal whole ++ (codes "." ++ (thousandths ++ (millionths ++ codes " s")))
told None thousandths millionths = []

-- ---- `0:01.234.567` is told as `1.234567 s`, and what has another form not at all

abbrev pub with_millionths : List ℕ → List ℕ → List ℕ → Option (List ℕ) → List ℕ
with_millionths minutes seconds thousandths (Some millionths) =
    if are_digits 2 seconds && (are_digits 3 thousandths && are_digits 3 millionths) then
    told (in_seconds (fitting_of minutes) (fitting_of seconds)) thousandths millionths
    else []
with_millionths minutes seconds thousandths None = []

abbrev pub with_thousandths : List ℕ → List ℕ → Option (List ℕ) → List ℕ
with_thousandths minutes seconds (Some rest) =
    with_millionths minutes seconds (parted point rest).front (parted point rest).rest
with_thousandths minutes seconds None = []

abbrev pub with_seconds : List ℕ → Option (List ℕ) → List ℕ
with_seconds minutes (Some rest) = with_thousandths minutes (parted point rest).front (parted point rest).rest
with_seconds minutes None = []

abbrev pub time_of : List ℕ → List ℕ
time_of text = with_seconds (parted colon text).front (parted colon text).rest
