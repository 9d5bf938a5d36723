-- What a time line is, in words.
use Rattle.std.specs.Prelude.{◌≡◌, ℕ, ◌≤◌, ◌⊎◌, true, List, [], ◌++◌, codes, length}
use Rattle.pmb_times.specs.Line.{is_iso_time, is_seconds, most_bytes}

-- what may stand before the LF of a line: nothing, or one CR
abbrev pub IsLineEnd : List ℕ → Type 0
IsLineEnd end = (end ≡ []) ⊎ (end ≡ codes "\r")

-- `# T s` with T a number of seconds
abbrev pub IsSecondsLine : List ℕ → List ℕ → List ℕ → Type 0
IsSecondsLine line time end = (is_seconds time ≡ true) × (line ≡ codes "# " ++ time ++ codes " s" ++ end)

-- `# T` with T an ISO 8601 time
abbrev pub IsIsoLine : List ℕ → List ℕ → List ℕ → Type 0
IsIsoLine line time end = (is_iso_time time ≡ true) × (line ≡ codes "# " ++ time ++ end)

-- A time line without its LF, and the time that it tells.
pub record IsTimeLine (line time : List ℕ) : Type 0 where
  pub end : List ℕ
  pub ends : IsLineEnd end
  pub short : length time ≤ most_bytes
  pub says : IsSecondsLine line time end ⊎ IsIsoLine line time end
