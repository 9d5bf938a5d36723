-- What the reads of a status register say of one of its bits.
use Rattle.std.specs.Prelude.{◌≡◌, ℕ, ◌==◌, Bool, false, not, if◌then◌else◌, Option, None, List, reverse, count_by}
use Rattle.std.specs.List.{AllByRecursion, find, last_or, take_while}
use Rattle.std.specs.Option.{option_and_then}
use Rattle.pmb_note.specs.Note.{is_set}

-- A read of a register: the word that was read, and the time of its packet, where one is known.
pub record RegisterRead : Type 0 where
  pub word : ℕ
  pub time : Option (List ℕ)

-- whether a read found a bit set
abbrev pub found : ℕ → RegisterRead → Bool
found bit read = is_set read.word bit

-- the time of a read, if there is one and it has a time
abbrev pub time_of : Option RegisterRead → Option (List ℕ)
time_of read = option_and_then (λ r. r.time) read

-- ---- by the reads of a register, in order, and a bit

-- how many found it set
abbrev pub set_count : List RegisterRead → ℕ → ℕ
set_count reads bit = count_by (found bit) reads

-- the time of the first of these
abbrev pub first_time : List RegisterRead → ℕ → Option (List ℕ)
first_time reads bit = time_of (find (found bit) reads)

-- .. and of the last
abbrev pub last_time : List RegisterRead → ℕ → Option (List ℕ)
last_time reads bit = time_of (find (found bit) (reverse reads))

-- the reads after that one, the last one first
abbrev pub reads_since : List RegisterRead → ℕ → List RegisterRead
reads_since reads bit = take_while (λ read. not (found bit read)) (reverse reads)

-- the time of the first of them; a bit that was never set is not gone
abbrev pub gone_time : List RegisterRead → ℕ → Option (List ℕ)
gone_time reads bit =
    if set_count reads bit == 0 then None else time_of (last_or None (reads_since reads bit))

-- reads that all found it clear
abbrev pub AreClear : List RegisterRead → ℕ → Type 0
AreClear reads bit = AllByRecursion (λ read. found bit read ≡ false) reads
