-- What a line of a trace of the Linux kernel says, as `trace`, `trace_pipe`, trace-cmd and perf print it.
use Rattle.std.specs.Prelude.{ℕ, ◌-◌, ◌==◌, ◌&&◌, ◌||◌, true, false, Bool, Option, Some, None, is_some, if◌then◌else◌}
use Rattle.std.specs.Prelude.{nat_lt, List, [], ◌∷◌, ◌++◌, codes, decimal, slice_index}
use Rattle.std.specs.Str.{bytes_eq}
use Rattle.pmb_words.specs.Parts.{Parted, after, blank, from_first, parted, pieces, with_bytes}
use Rattle.pmb_words.specs.Numbers.{decimal_of}
use Rattle.pmb_trace.specs.declared.event_name.EventKind.{EventKind}
use Rattle.pmb_trace.specs.declared.event_name.EventKind.TheVariants.{I2c, Smbus}
use Rattle.pmb_trace.specs.declared.event_name.EventName.{EventName}
use Rattle.pmb_trace.specs.declared.event_name.EventName.TheVariants.{I2cWrite, I2cRead, I2cReply, I2cResult}
use Rattle.pmb_trace.specs.declared.event_name.EventName.TheVariants.{SmbusWrite, SmbusRead, SmbusReply, SmbusResult}

-- ---- the name of an event

abbrev pub colon : ℕ
colon = slice_index (codes ":") 0

-- a text or what is in its place
abbrev pub or_else : Option (List ℕ) → List ℕ → List ℕ
or_else (Some text) other = text
or_else None other = other

-- a word without the name of its system in front, if it has one
abbrev pub without_system : List ℕ → List ℕ
without_system word = or_else (after (codes "i2c:") word) (or_else (after (codes "smbus:") word) word)

abbrev pub bare_name : List ℕ → Option EventName
bare_name word =
    if bytes_eq word (codes "i2c_write") then Some I2cWrite else
    if bytes_eq word (codes "i2c_read") then Some I2cRead else
    if bytes_eq word (codes "i2c_reply") then Some I2cReply else
    if bytes_eq word (codes "i2c_result") then Some I2cResult else
    if bytes_eq word (codes "smbus_write") then Some SmbusWrite else
    if bytes_eq word (codes "smbus_read") then Some SmbusRead else
    if bytes_eq word (codes "smbus_reply") then Some SmbusReply else
    if bytes_eq word (codes "smbus_result") then Some SmbusResult else
    None

-- a word without the `:` at its end, if it has one
abbrev pub with_front : ℕ → Option (List ℕ) → Option (List ℕ)
with_front byte (Some rest) = Some (byte ∷ rest)
with_front byte None = None

abbrev pub before_colon : List ℕ → Option (List ℕ)
before_colon [] = None
before_colon (byte ∷ []) = if byte == colon then Some [] else None
before_colon (byte ∷ next ∷ rest) = with_front byte (before_colon (next ∷ rest))

-- the event that a word names
abbrev pub named : Option (List ℕ) → Option EventName
named (Some name) = bare_name (without_system name)
named None = None

abbrev pub name_of : List ℕ → Option EventName
name_of word = named (before_colon word)

-- An event: its name, the word in front of that, and the fields behind it, between single blanks. The first of them
-- may have more blanks in front.
pub record Event : Type 0 where
  pub name : EventName
  pub front : List ℕ
  pub fields : List (List ℕ)
  -- a name of an event of the other kind follows
  pub has_other : Bool

-- the kinds of events
abbrev pub kind_of : EventName → EventKind
kind_of I2cWrite = I2c
kind_of I2cRead = I2c
kind_of I2cReply = I2c
kind_of I2cResult = I2c
kind_of SmbusWrite = Smbus
kind_of SmbusRead = Smbus
kind_of SmbusReply = Smbus
kind_of SmbusResult = Smbus

abbrev pub differs : EventKind → EventKind → Bool
differs I2c I2c = false
differs I2c Smbus = true
differs Smbus I2c = true
differs Smbus Smbus = false

abbrev pub is_other : EventKind → Option EventName → Bool
is_other kind (Some name) = differs kind (kind_of name)
is_other kind None = false

-- whether words name an event of the other kind
abbrev pub others_in : EventKind → List (List ℕ) → Bool
others_in kind [] = false
others_in kind (word ∷ words) = is_other kind (name_of word) || others_in kind words

abbrev pub event_at : List ℕ → List (List ℕ) → Option EventName → Option Event → Option Event
event_at front rest (Some name) later = Some (record {
  name = name;
  front = front;
  fields = from_first rest;
  has_other = others_in (kind_of name) (with_bytes rest);
})
event_at front rest None later = later

-- the first event among pieces that come behind a word, or behind none
abbrev pub event_in : List ℕ → List (List ℕ) → Option Event
event_in front [] = None
event_in front ([] ∷ rest) = event_in front rest
event_in front ((byte ∷ word) ∷ rest) =
    event_at front rest (name_of (byte ∷ word)) (event_in (byte ∷ word) rest)

-- ---- comments

-- what stands before such a text, where that is the end of another
abbrev pub before_end : List ℕ → List ℕ → Option (List ℕ)
before_end end [] = None
before_end end (byte ∷ text) =
    if bytes_eq (byte ∷ text) end then Some [] else with_front byte (before_end end text)

-- The tracer function_graph prints an event as a comment, `/* i2c_result: i2c-0 n=1 ret=1 */`, which ends its line.
abbrev pub comment_end : List ℕ
comment_end = codes " */"

abbrev pub opens_comment : List ℕ → Bool
opens_comment front = bytes_eq front (codes "/*")

-- an event that opens a comment, or none, as its line ends with one or not; it has no field where only one is so
abbrev pub as_closed : Bool → Bool → Event → Event
as_closed true true e = e
as_closed false false e = e
as_closed true false e = record e { fields = [] }
as_closed false true e = record e { fields = [] }

abbrev pub if_closed : Bool → Option Event → Option Event
if_closed closes (Some e) = Some (as_closed (opens_comment e.front) closes e)
if_closed closes None = None

-- the first event of a line, without the end of its comment
abbrev pub event_before : Option (List ℕ) → List ℕ → Option Event
event_before (Some text) line = if_closed true (event_in [] (pieces blank text))
event_before None line = if_closed false (event_in [] (pieces blank line))

abbrev pub event_of_line : List ℕ → Option Event
event_of_line line = event_before (before_end comment_end line) line

-- ---- lost events

-- how many events were lost, as it is written, if a number is
pub record Loss : Type 0 where
  pub count : Option (List ℕ)

-- losses without a number, and with one
abbrev pub lost : Option Loss
lost = Some (record { count = None })

abbrev pub lost_number : List ℕ → Option Loss
lost_number count = if is_some (decimal_of count) then Some (record { count = Some count }) else None

-- the first loss of two
abbrev pub first_loss : Option Loss → Option Loss → Option Loss
first_loss (Some loss) other = Some loss
first_loss None other = other

abbrev pub lost_by : Option (List ℕ) → Option Loss
lost_by (Some count) = lost_number count
lost_by None = None

-- `[LOST EVENTS]`, `[EVENTS DROPPED]`
abbrev pub plain_loss : List ℕ → List ℕ → Option Loss
plain_loss first second =
    if bytes_eq first (codes "[LOST") && bytes_eq second (codes "EVENTS]") then lost else
    if bytes_eq first (codes "[EVENTS") && bytes_eq second (codes "DROPPED]") then lost else None

-- `[LOST K EVENTS]`, `[K EVENTS DROPPED]`
abbrev pub counted_loss : List ℕ → List ℕ → List ℕ → Option Loss
counted_loss first second third =
    if bytes_eq first (codes "[LOST") && bytes_eq third (codes "EVENTS]") then lost_number second else
    if bytes_eq second (codes "EVENTS") && bytes_eq third (codes "DROPPED]") then lost_by (after (codes "[") first) else
    None

abbrev pub whole_loss : List (List ℕ) → Option Loss
whole_loss [] = None
whole_loss (first ∷ []) = None
whole_loss (first ∷ second ∷ []) = plain_loss first second
whole_loss (first ∷ second ∷ third ∷ []) = counted_loss first second third
whole_loss (first ∷ second ∷ third ∷ fourth ∷ rest) = None

-- `CPU:N`
abbrev pub is_number : Option (List ℕ) → Bool
is_number (Some number) = is_some (decimal_of number)
is_number None = false

abbrev pub is_processor : List ℕ → Bool
is_processor piece = is_number (after (codes "CPU:") piece)

abbrev pub without_processor : List (List ℕ) → List (List ℕ)
without_processor [] = []
without_processor (piece ∷ rest) = if is_processor piece then rest else piece ∷ rest

-- a line that ends `PERF_RECORD_LOST lost K`: what follows the last such text is a number
abbrev pub last_loss : List ℕ → Option Loss
last_loss [] = None
last_loss (byte ∷ line) =
    first_loss (last_loss line) (lost_by (after (codes "PERF_RECORD_LOST lost ") (byte ∷ line)))

-- a line of lost events, with `CPU:N ` in front or without
abbrev pub loss_in : List ℕ → Option Loss
loss_in line = first_loss (whole_loss (without_processor (pieces blank line))) (last_loss line)

-- `# entries-in-buffer/entries-written: A/B`, where B is over A
abbrev pub fewer : Option ℕ → Option ℕ → Option Loss
fewer (Some kept) (Some written) =
    if nat_lt kept written then Some (record { count = Some (decimal (written - kept)) }) else None
fewer (Some kept) None = None
fewer None written = None

abbrev pub number_behind : Option (List ℕ) → Option ℕ
number_behind (Some text) = decimal_of text
number_behind None = None

abbrev pub slash : ℕ
slash = slice_index (codes "/") 0

abbrev pub entries_loss : List ℕ → Option Loss
entries_loss word = fewer (decimal_of (parted slash word).front) (number_behind (parted slash word).rest)

abbrev pub buffer_loss : Option (List ℕ) → Option Loss
buffer_loss (Some rest) = entries_loss (parted blank rest).front
buffer_loss None = None

-- ---- lines

-- what a line says
pub data TraceLine : Type 0 where
  -- nothing of the bus
  Nothing : TraceLine
  -- that a trace begins
  Heading : TraceLine
  -- that events were lost, with their number where it is written
  Lost : Option (List ℕ) → TraceLine
  -- an event
  Says : Event → TraceLine

abbrev pub says : Option Event → TraceLine
says (Some event) = Says event
says None = Nothing

abbrev pub lost_or : Option Loss → TraceLine → TraceLine
lost_or (Some loss) other = Lost loss.count
lost_or None other = other

-- `# tracer:` and `cpus=` begin a trace; another line that begins with `#` says nothing
abbrev pub unlost : List ℕ → TraceLine
unlost line =
    if is_some (after (codes "# tracer:") line) then Heading else
    if is_some (after (codes "#") line) then Nothing else
    if is_some (after (codes "cpus=") line) then Heading else
    says (event_of_line line)

-- a loss that the line tells, of its own or of the buffer's
abbrev pub any_loss : List ℕ → Option Loss
any_loss line =
    first_loss (loss_in line) (buffer_loss (after (codes "# entries-in-buffer/entries-written: ") line))

abbrev pub trace_line : List ℕ → TraceLine
trace_line line = lost_or (any_loss line) (unlost line)

-- ---- the time of an event

-- digits
abbrev pub point : ℕ
point = slice_index (codes ".") 0

abbrev pub are_digits : List ℕ → Bool
are_digits digits = is_some (decimal_of digits)

-- digits, a point, digits
abbrev pub is_fraction : Parted → Bool
is_fraction parts = are_digits parts.front && is_number parts.rest

-- The time that the word in front of an event's name gives: digits, a point, digits and `:`. None where it is another.
abbrev pub fraction_in : Option (List ℕ) → List ℕ
fraction_in (Some number) = if is_fraction (parted point number) then number else []
fraction_in None = []

abbrev pub event_seconds : List ℕ → List ℕ
event_seconds word = fraction_in (before_colon word)

-- as it is told
abbrev pub in_seconds : List ℕ → List ℕ
in_seconds [] = []
in_seconds (digit ∷ digits) = (digit ∷ digits) ++ codes " s"

abbrev pub event_time : List ℕ → List ℕ
event_time word = in_seconds (event_seconds word)
