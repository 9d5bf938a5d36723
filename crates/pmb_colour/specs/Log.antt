-- The colours of a line of `log`.
use Rattle.std.specs.Prelude.{ℕ, ◌==◌, ◌&&◌, ◌||◌, ◌+◌, Bool, not, min, nat_eq, nat_le, if◌then◌else◌, Option, Some, None, List}
use Rattle.std.specs.Prelude.{[], ◌∷◌, codes, drop, length, map, slice_index, ◌-◌}
use Rattle.std.specs.List.{ends_with, list_all, list_any, starts_with}
use Rattle.std.specs.Str.{bytes_eq}
use Rattle.pmb_colour.specs.declared.colour.Colour.{Colour}
use Rattle.pmb_colour.specs.declared.colour.Colour.TheVariants.{Red, Yellow}
use Rattle.pmb_colour.specs.declared.cut.Cut.TheVariants.{Words}
use Rattle.pmb_colour.specs.Bits.{bit_colour, is_bit, is_capital, is_digit, is_name_byte}
use Rattle.pmb_colour.specs.Cut.{Parts, cut_from, first, is_blank, parts_of}
use Rattle.pmb_colour.specs.Pieces.{Piece, in_colour, plain}

abbrev pub begins : List ℕ → List ℕ → Bool
begins front text = starts_with nat_eq text front

abbrev pub ends_as : List ℕ → List ℕ → Bool
ends_as end text = ends_with nat_eq text end

-- begins and ends so
abbrev pub is_span : List ℕ → List ℕ → List ℕ → Bool
is_span front end text = begins front text && ends_as end text

-- ---- the last cell

-- an event and what could have come in its place: ` came, but ` behind the event
unfoldable pub tells_event : List ℕ → Bool
tells_event text =
    begins (codes " came, but ") (drop (min (length text) 2) text) || begins (codes "START came, but ") text
    || begins (codes "ACK came, but ") text || begins (codes "NACK came, but ") text
    || begins (codes "STOP came, but ") text || begins (codes "the end came, but ") text

-- Refusals, by what their sentences end with, or begin and end with. No unit of a number and no text in quotes has that:
-- a unit is shorter, and a text ends with its quote.

-- of a byte that names no device or no command
unfoldable pub is_unknown : List ℕ → Bool
is_unknown text =
    ends_as (codes "acknowledged, but the profile has no such device") text
    || ends_as (codes " acknowledged, but the profile has no such command") text
    || ends_as (codes " acknowledged, but it cannot come here") text

-- of a reply with too many bytes, or too few
unfoldable pub is_wrong_length : List ℕ → Bool
is_wrong_length text =
    is_span (codes "read on after ") (codes ", which is all") text
    || is_span (codes "ended after ") (codes ": more bytes have to come") text

-- of a wrong packet error code, and what a hint on one ends with
unfoldable pub is_wrong_code : List ℕ → Bool
is_wrong_code text =
    is_span (codes "wrong error code ") (codes " is right") text || ends_as (codes "\" in the profile)") text

-- of an event in the place of another, or of the end
unfoldable pub is_out_of_place : List ℕ → Bool
is_out_of_place text =
    ends_as (codes " begins inside a packet)") text
    || ends_as (codes " cannot come after a repeated START") text
    || (tells_event text && ends_as (codes " can come") text)
    || ends_as (codes "the capture ends inside the packet") text

abbrev pub is_refusal : List ℕ → Bool
is_refusal text = is_unknown text || is_wrong_length text || is_wrong_code text || is_out_of_place text

-- A word that is no token. The shortest such text has 30 bytes, and it ends with a digit.
unfoldable pub is_bad_token : List ℕ → Bool
is_bad_token text = begins (codes "no token: ") text && nat_le 30 (length text) && is_digit (slice_index text (length text - 1))

abbrev pub is_quote : ℕ → Bool
is_quote byte = byte == 0x22

-- a device did not take an address or a byte; a parenthesis would follow a unit
unfoldable pub is_unanswered_byte : List ℕ → Bool
is_unanswered_byte text =
    (begins (codes "refused at its ") text && not (begins (codes "refused at its (") text))
    || (begins (codes "refused at byte ") text && not (begins (codes "refused at byte (") text))

-- .. or none answered an alert. A unit leaves at most 15 bytes, and a text ends with its quote.
unfoldable pub is_unanswered : List ℕ → Bool
is_unanswered text =
    bytes_eq text (codes "alert, and no device answered")
    || (is_unanswered_byte text && (nat_le 16 (length text) && not (list_any is_quote text)))

abbrev pub says_colour : List ℕ → Option Colour
says_colour text =
    if is_refusal text || is_bad_token text then Some Red else
    if is_unanswered text then Some Yellow else
    None

-- ---- status bits

-- a byte of a command's name; `CMD_d0` has small letters
abbrev pub is_command_byte : ℕ → Bool
is_command_byte byte = is_name_byte byte || (nat_le 0x61 byte && nat_le byte 0x7a)

-- A name of a command has a capital, and no number has one.
unfoldable pub is_command_name : List ℕ → Bool
is_command_name word = list_all is_command_byte word && list_any is_capital word

-- a command in its column: its name, and blanks behind it
unfoldable pub is_command : List ℕ → Bool
is_command cell = is_command_name (first Words cell) && list_all is_blank (drop (length (first Words cell)) cell)

abbrev pub is_parenthesis : ℕ → Bool
is_parenthesis byte = byte == 0x28

-- how many bytes the bits in the last cell have: where a parenthesis follows them, the first of them alone
unfoldable pub bits_length : List ℕ → ℕ
bits_length tail = if list_any is_parenthesis tail then length (first Words tail) else length tail

-- Bits stand behind a command. A unit may have that form too, but leaves at most 15 bytes for both; and a text may, which
-- ends with its quote.
unfoldable pub has_bits : List ℕ → List ℕ → Bool
has_bits cell tail =
    (is_command cell && is_bit (first Words tail))
    && (nat_le 16 (length cell + bits_length tail) && not (list_any is_quote tail))

abbrev pub bit_piece : List ℕ → Piece
bit_piece word = in_colour (bit_colour word) word

-- the names of bits each in its own colour
abbrev pub tail_pieces : List ℕ → List ℕ → List Piece
tail_pieces cell tail =
    if has_bits cell tail then map bit_piece (cut_from Words [] tail) else plain tail ∷ []

abbrev pub says_pieces : Option Colour → List ℕ → List ℕ → List Piece
says_pieces None cell tail = tail_pieces cell tail
says_pieces (Some colour) cell tail = in_colour (Some colour) tail ∷ []

abbrev pub parts_pieces : Parts → List Piece
parts_pieces parts = plain parts.front ∷ plain parts.cell ∷ says_pieces (says_colour parts.tail) parts.cell parts.tail

-- ---- a line

-- a line that names a file has no colour
abbrev pub log_pieces : List ℕ → List Piece
log_pieces line = if begins (codes "#") line then plain line ∷ [] else parts_pieces (parts_of line)
