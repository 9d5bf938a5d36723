-- The columns of an export, as its heading names them.
use Rattle.std.specs.Prelude.{ℕ, ◌==◌, ◌||◌, Bool, Option, Some, is_some, if◌then◌else◌, List, [], ◌∷◌, codes}
use Rattle.pmb_csv.specs.Columns.{◌>>=◌, count_of, needed_place, optional_place}
use Rattle.pmb_csv.specs.Fields.{Record, record_of}
use Rattle.pmb_beagle.specs.declared.columns.Columns.{Columns}
use Rattle.pmb_words.specs.Parts.{after, blank}

-- A line may name them behind `#` and blanks.
abbrev pub hash : ℕ
hash = 35

abbrev pub without_hashes : List ℕ → List ℕ
without_hashes [] = []
without_hashes (byte ∷ line) = if byte == hash || byte == blank then without_hashes line else byte ∷ line

abbrev pub is_remark : List ℕ → Bool
is_remark line = is_some (after (codes "#") line)

abbrev pub behind_hashes : List ℕ → List ℕ
behind_hashes line = if is_remark line then without_hashes line else line

-- A heading is a line that can be read, and names each of these once, or some of them once at most.
abbrev pub heading_in : Record → Option Columns
heading_in r = do
  index ← needed_place (codes "Index") r
  marks ← needed_place (codes "S/P") r
  address ← needed_place (codes "Addr") r
  sort ← needed_place (codes "Record") r
  bytes ← needed_place (codes "Data") r
  time ← optional_place (codes "m:s.ms.us") r
  length ← optional_place (codes "Len") r
  error ← optional_place (codes "Err") r
  count ← count_of r
  Some (record {
    count = count;
    index = index;
    time = time;
    length = length;
    error = error;
    marks = marks;
    address = address;
    sort = sort;
    bytes = bytes;
  })

abbrev pub heading_of : List ℕ → Option Columns
heading_of line = heading_in (record_of (behind_hashes line))
