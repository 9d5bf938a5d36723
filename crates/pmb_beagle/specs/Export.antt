-- The rows of an export of Data Center, and what they say.
use Rattle.std.specs.Prelude.{ℕ, ◌+◌, ◌==◌, ◌&&◌, ◌||◌, not, true, false, Bool, Option, Some, None, is_some, nat_lt}
use Rattle.std.specs.Prelude.{if◌then◌else◌, List, [], ◌∷◌, codes, length, slice_index}
use Rattle.std.specs.Str.{bytes_eq}
use Rattle.pmb_beagle.specs.Bytes.{byte_in, bytes_of}
use Rattle.pmb_beagle.specs.Time.{time_of}
use Rattle.pmb_beagle.specs.declared.columns.Columns.{Columns}
use Rattle.pmb_beagle.specs.declared.transaction.Marks.{Marks}
use Rattle.pmb_csv.specs.Columns.{◌>>=◌, field, has_fields, or_none, plain_of, value}
use Rattle.pmb_csv.specs.Fields.{Record}
use Rattle.pmb_recording.specs.declared.wire_byte.WireByte.{WireByte}
use Rattle.pmb_words.specs.Numbers.{decimal_of}
use Rattle.pmb_words.specs.Parts.{after, words}

-- ---- the fields of a row

-- of a column that may be missing
abbrev pub field_if : Option ℕ → Record → Option (List ℕ)
field_if (Some place) r = field place r.fields
field_if None r = None

-- as many fields as columns
abbrev pub is_row : Columns → Record → Bool
is_row columns r = has_fields columns.count r

-- whether a text ends with a byte
abbrev pub ends_with : ℕ → List ℕ → Bool
ends_with last [] = false
ends_with last (byte ∷ []) = byte == last
ends_with last (byte ∷ next ∷ text) = ends_with last (next ∷ text)

abbrev pub ends_with_if : ℕ → Option (List ℕ) → Bool
ends_with_if last (Some text) = ends_with last text
ends_with_if last None = false

-- A row ends a packet where its marks end in `P` (and have no quote), whatever else it has.
abbrev pub ends_packet : Columns → Record → Bool
ends_packet columns r = is_row columns r && ends_with_if (slice_index (codes "P") 0) (plain_of (value columns.marks r))

-- its number, where it can be read
abbrev pub index_of : Columns → Record → Option ℕ
index_of columns r = if is_row columns r then decimal_of (value columns.index r) else None

-- A number is one more than that of the row in front, where this is known.
abbrev pub is_next : Option ℕ → ℕ → Bool
is_next (Some before) index = index == before + 1
is_next None index = true

-- its time, as it is told
abbrev pub start_time : Columns → Record → List ℕ
start_time columns r = time_of (or_none (field_if columns.time r))

-- ---- transactions

-- Whether it reads, whether START stands in front of it and STOP behind it, its address and its bytes, each with its
-- answer.
pub record Transaction : Type 0 where
  pub reads : Bool
  pub marks : Marks
  pub address : WireByte
  pub bytes : List WireByte

abbrev pub marks_of : List ℕ → Option Marks
marks_of text =
    if bytes_eq text [] then Some (record { has_start = false; has_stop = false }) else
    if bytes_eq text (codes "S") then Some (record { has_start = true; has_stop = false }) else
    if bytes_eq text (codes "P") then Some (record { has_start = false; has_stop = true }) else
    if bytes_eq text (codes "SP") then Some (record { has_start = true; has_stop = true }) else None

abbrev pub transaction_of : Bool → Columns → Record → Option Transaction
transaction_of reads columns r = do
  marks ← marks_of (value columns.marks r)
  address ← byte_in (value columns.address r)
  bytes ← bytes_of (words (value columns.bytes r))
  Some (record { reads = reads; marks = marks; address = address; bytes = bytes })

-- A row that has a column of errors and something in it is marked as one.
abbrev pub is_marked : Option (List ℕ) → Bool
is_marked (Some (byte ∷ error)) = true
is_marked (Some []) = false
is_marked None = false

-- `4 B`, `4B`, `4`
abbrev pub without_unit : List ℕ → List ℕ
without_unit [] = []
without_unit (a ∷ []) = if a == 66 then [] else a ∷ []
without_unit (a ∷ b ∷ []) = if bytes_eq (a ∷ b ∷ []) (codes " B") then [] else a ∷ without_unit (b ∷ [])
without_unit (a ∷ b ∷ c ∷ rest) = a ∷ without_unit (b ∷ c ∷ rest)

abbrev pub is_count : Option ℕ → ℕ → Bool
is_count (Some number) count = number == count
is_count None count = false

abbrev pub has_length : Option (List ℕ) → ℕ → Bool
has_length (Some text) count = is_count (decimal_of (without_unit text)) count
has_length None count = true

-- an address of over seven bits, or another number of bytes than `Len`
abbrev pub is_out_of_range : Columns → Record → Transaction → Bool
is_out_of_range columns r t =
    nat_lt 0x7f t.address.byte || not (has_length (field_if columns.length r) (length t.bytes))

-- ---- what a row says

pub data Says : Type 0 where
  OfTransaction : Transaction → Says
  -- the beginning or the end of a capture
  OfCapture : Says
  -- something that is not known
  OfOther : Says

-- A row of the name of a transaction has to have the form of one.
abbrev pub said : Option Transaction → Option Says
said (Some t) = Some (OfTransaction t)
said None = None

abbrev pub is_capture : List ℕ → Bool
is_capture name = is_some (after (codes "Capture started") name) || is_some (after (codes "Capture stopped") name)

abbrev pub says_by : List ℕ → Columns → Record → Option Says
says_by name columns r =
    if bytes_eq name (codes "Write Transaction") then said (transaction_of false columns r) else
    if bytes_eq name (codes "Read Transaction") then said (transaction_of true columns r) else
    if is_capture name then Some OfCapture else Some OfOther

abbrev pub says_of : Columns → Record → Option Says
says_of columns r = says_by (value columns.sort r) columns r
