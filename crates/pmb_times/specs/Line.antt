-- What time a line of a capture tells: `# T s` with T in seconds, or `# T` with T an ISO 8601 time.
use Rattle.std.specs.Prelude.{◌≡◌, ◌<◌, ◌≤◌, ℕ, ◌==◌, ◌&&◌, ◌||◌, nat_le, Bool, true, false, Option, Some, None}
use Rattle.std.specs.Prelude.{if◌then◌else◌}
use Rattle.std.specs.Prelude.{List, [], ◌∷◌, codes, count_by, length}
use Rattle.std.specs.Char.{is_ascii_digit}
use Rattle.std.specs.List.{list_all}
use Rattle.std.specs.Option.{option_map}
use Rattle.pmb_bus.specs.Event.{character}

-- ---- times

abbrev pub is_point : ℕ → Bool
is_point b = b == character "."

-- a byte of a number of seconds
abbrev pub is_seconds_byte : ℕ → Bool
is_seconds_byte b = is_ascii_digit b || is_point b

-- a number: digits, at least one, with at most one point
abbrev pub is_number : List ℕ → Bool
is_number text = list_all is_seconds_byte text
    && (nat_le 1 (count_by is_ascii_digit text) && nat_le (count_by is_point text) 1)

-- a number without the sign before it, if it has one
abbrev pub is_sign : ℕ → Bool
is_sign b = b == character "-" || b == character "+"

abbrev pub without_sign : List ℕ → List ℕ
without_sign [] = []
without_sign (b ∷ text) = if is_sign b then text else b ∷ text

-- a number of seconds, with a sign or without
abbrev pub is_seconds : List ℕ → Bool
is_seconds time = is_number (without_sign time)

-- any other byte of an ISO 8601 time
abbrev pub is_time_mark : ℕ → Bool
is_time_mark b = b == character ":" || b == character "-" || b == character "+" || b == character "T"
    || b == character "Z"

-- a byte of a time of either kind
abbrev pub is_time_byte : ℕ → Bool
is_time_byte b = is_seconds_byte b || is_time_mark b

-- a byte fits a mark if they are the same; the mark 0 stands for each digit
abbrev pub fits_mark : ℕ → ℕ → Bool
fits_mark mark b = if mark == character "0" then is_ascii_digit b else b == mark

-- whether a text begins with a byte that fits for each mark in turn
abbrev pub begins_as : List ℕ → List ℕ → Bool
begins_as [] text = true
begins_as (mark ∷ marks) [] = false
begins_as (mark ∷ marks) (b ∷ text) = fits_mark mark b && begins_as marks text

-- an ISO 8601 time: it begins YYYY-MM-DDTHH, and is not looked at further
abbrev pub is_iso_time : List ℕ → Bool
is_iso_time time = begins_as (codes "0000-00-00T00") time && list_all is_time_byte time

-- a time has at most 40 bytes
abbrev pub most_bytes : ℕ
most_bytes = 40

-- ---- lines

-- a line without the one CR at its end, if it has one
abbrev pub without_return : List ℕ → List ℕ
without_return [] = []
without_return (b ∷ []) = if b == character "\r" then [] else b ∷ []
without_return (b ∷ next ∷ line) = b ∷ without_return (next ∷ line)

-- what stands before ` s` at the end of a text, if it ends so
abbrev pub before_unit : List ℕ → Option (List ℕ)
before_unit [] = None
before_unit (b ∷ []) = None
before_unit (b ∷ unit ∷ []) = if b == character " " && unit == character "s" then Some [] else None
before_unit (b ∷ next ∷ after ∷ text) = option_map (λ (front : List ℕ). b ∷ front) (before_unit (next ∷ after ∷ text))

-- a time, if it is one and not too long
abbrev pub time_if : Bool → List ℕ → Option (List ℕ)
time_if is time = if is && nat_le (length time) most_bytes then Some time else None

-- of what stands before ` s`, and of the whole: seconds have their unit, and an ISO 8601 time has none
abbrev pub time_with_unit : Option (List ℕ) → List ℕ → Option (List ℕ)
time_with_unit (Some time) whole = time_if (is_seconds time) time
time_with_unit None whole = time_if (is_iso_time whole) whole

-- the time that a comment says after `# `
abbrev pub comment_time : List ℕ → Option (List ℕ)
comment_time text = time_with_unit (before_unit text) text

-- the time that a line says: its first byte is `#`, and one blank follows
abbrev pub marked_time : List ℕ → Option (List ℕ)
marked_time [] = None
marked_time (mark ∷ []) = None
marked_time (mark ∷ blank ∷ text) =
    if mark == character "#" && blank == character " " then comment_time text else None

-- The time that a line tells, which has no LF any more, and may have a CR at its end. None where it
-- is no time line.
abbrev pub line_time : List ℕ → Option (List ℕ)
line_time line = marked_time (without_return line)

-- ---- what each time is

-- a time: from 1 to 40 bytes, all of them bytes of times
pub record IsTime (time : List ℕ) : Type 0 where
  pub some : 0 < length time
  pub short : length time ≤ most_bytes
  pub plain : list_all is_time_byte time ≡ true
