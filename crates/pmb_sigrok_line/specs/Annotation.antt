-- What an annotation of sigrok's I2C decoder says: the text of a line after the decoder's name.
use Rattle.std.specs.Prelude.{ℕ, ◌||◌, true, false, Bool, Option, Some, None, if◌then◌else◌, List, [], ◌∷◌, ◌++◌, codes}
use Rattle.std.specs.Prelude.{slice_index}
use Rattle.std.specs.Str.{bytes_eq, str_eq_ignore_ascii_case}
use Rattle.pmb_words.specs.Numbers.{byte_of}
use Rattle.pmb_words.specs.Parts.{after, parted}
use Rattle.pmb_sigrok_line.specs.declared.event.Event.{Event}
use Rattle.pmb_sigrok_line.specs.declared.event.Event.TheVariants.{Start, Repeat, Stop, Answer, Mark, Bit, Address}
use Rattle.pmb_sigrok_line.specs.declared.event.Event.TheVariants.{Data}

-- whether an event is a byte on the wire
abbrev pub is_byte : Event → Bool
is_byte (Address reads byte) = true
is_byte (Data reads byte) = true
is_byte Start = false
is_byte Repeat = false
is_byte Stop = false
is_byte (Answer acknowledged) = false
is_byte (Mark reads) = false
is_byte Bit = false

-- the byte of a colon
abbrev pub colon : ℕ
colon = slice_index (codes ":") 0

-- ---- the forms of an annotation

-- the byte of a quote, as a text
abbrev pub quote : List ℕ
quote = codes "\""

-- `"Start"`, as at level 3
abbrev pub quoted : List ℕ → List ℕ
quoted text = quote ++ (text ++ quote)

-- `start: "Start" "S"`, as at levels 4 and 5: the name of a class, the text in quotes, and shorter ones
abbrev pub levelled : List ℕ → List ℕ → List ℕ → List ℕ
levelled class text shorter = class ++ (codes ": " ++ (quoted text ++ shorter))

-- An annotation without a byte: its event, its text, and how levels 4 and 5 write it.
pub record Form : Type 0 where
  pub event : Event
  pub text : List ℕ
  pub long : List ℕ

-- the form of what happens on the bus, by its text, its class and the shorter texts
abbrev pub bus_form : Event → List ℕ → List ℕ → List ℕ → Form
bus_form event text class shorter = record {
  event = event;
  text = text;
  long = levelled class text shorter;
}

-- the form of a bit, which has no shorter text
abbrev pub bit_form : List ℕ → Form
bit_form text = record {
  event = Bit;
  text = text;
  long = levelled (codes "bit") text [];
}

-- what happens on the bus, but for bytes
abbrev pub bus_forms : List Form
bus_forms =
    bus_form Start (codes "Start") (codes "start") (codes " \"S\"")
    ∷ bus_form Repeat (codes "Start repeat") (codes "repeat-start") (codes " \"Sr\"")
    ∷ bus_form Stop (codes "Stop") (codes "stop") (codes " \"P\"")
    ∷ bus_form (Answer true) (codes "ACK") (codes "ack") (codes " \"A\"")
    ∷ bus_form (Answer false) (codes "NACK") (codes "nack") (codes " \"N\"")
    ∷ bus_form (Mark true) (codes "Read") (codes "address-read") (codes " \"Rd\" \"R\"")
    ∷ bus_form (Mark false) (codes "Write") (codes "address-write") (codes " \"Wr\" \"W\"") ∷ []

-- the two bits
abbrev pub bit_forms : List Form
bit_forms = bit_form (codes "0") ∷ bit_form (codes "1") ∷ []

-- all annotations without a byte
abbrev pub forms : List Form
forms = bus_forms ++ bit_forms

-- whether a text is an annotation, in one of its three spellings
abbrev pub has_form : List ℕ → Form → Bool
has_form text f = bytes_eq text f.text || (bytes_eq text (quoted f.text) || bytes_eq text f.long)

-- the event of a text among some forms, none where it has none of them
abbrev pub plain_event : List Form → List ℕ → Option Event
plain_event [] text = None
plain_event (f ∷ fs) text = if has_form text f then Some f.event else plain_event fs text

-- ---- annotations with a byte

-- An annotation with a byte: its event, its text before the two digits, its class, and the shorter text.
pub record ByteForm : Type 0 where
  pub event : ℕ → Event
  pub text : List ℕ
  pub class : List ℕ
  pub short : List ℕ

-- such an annotation, by its parts
abbrev pub byte_form : (ℕ → Event) → List ℕ → List ℕ → List ℕ → ByteForm
byte_form event text class short = record { event = event; text = text; class = class; short = short }

-- `address-write: "Address write: 58" "AW: 58" "58"`
abbrev pub long_of : ByteForm → List ℕ → List ℕ
long_of f digits =
    levelled f.class (f.text ++ digits) (codes " " ++ (quoted (f.short ++ digits) ++ (codes " " ++ quoted digits)))

-- the four annotations with a byte
abbrev pub byte_forms : List ByteForm
byte_forms =
    byte_form (Data false) (codes "Data write: ") (codes "data-write") (codes "DW: ")
    ∷ byte_form (Data true) (codes "Data read: ") (codes "data-read") (codes "DR: ")
    ∷ byte_form (Address false) (codes "Address write: ") (codes "address-write") (codes "AW: ")
    ∷ byte_form (Address true) (codes "Address read: ") (codes "address-read") (codes "AR: ") ∷ []

-- the last two bytes of a text, all of a shorter one
abbrev pub last_two : List ℕ → List ℕ
last_two [] = []
last_two (a ∷ []) = a ∷ []
last_two (a ∷ b ∷ []) = a ∷ b ∷ []
last_two (a ∷ b ∷ c ∷ text) = last_two (b ∷ c ∷ text)

-- a text without a quote at its end
abbrev pub without_quote : List ℕ → List ℕ
without_quote [] = []
without_quote (byte ∷ []) = if bytes_eq (byte ∷ []) quote then [] else byte ∷ []
without_quote (byte ∷ next ∷ text) = byte ∷ without_quote (next ∷ text)

-- the digits at the end of an annotation: each of its spellings ends with them, in quotes or not
abbrev pub digits_of : List ℕ → List ℕ
digits_of text = last_two (without_quote text)

-- whether a text is an annotation with these digits, in one of its three spellings
abbrev pub has_byte_form : List ℕ → List ℕ → ByteForm → Bool
has_byte_form text digits f =
    bytes_eq text (f.text ++ digits) || (bytes_eq text (quoted (f.text ++ digits)) || bytes_eq text (long_of f digits))

-- the byte of two hexadecimal digits, none of any other text
abbrev pub two_digits : List ℕ → Option ℕ
two_digits (high ∷ low ∷ []) = byte_of high low
two_digits [] = None
two_digits (a ∷ []) = None
two_digits (a ∷ b ∷ c ∷ rest) = None

-- an event of a byte, if there is one
abbrev pub with_byte : (ℕ → Event) → Option ℕ → Option Event
with_byte event (Some byte) = Some (event byte)
with_byte event None = None

-- the event of a text with digits at its end, among some forms
abbrev pub byte_event : List ByteForm → List ℕ → List ℕ → Option Event
byte_event [] text digits = None
byte_event (f ∷ fs) text digits =
    if has_byte_form text digits f then with_byte f.event (two_digits digits) else byte_event fs text digits

-- the first event, or else the other
abbrev pub or_event : Option Event → Option Event → Option Event
or_event (Some event) other = Some event
or_event None other = other

-- the event of an annotation in one of its spellings, without a label
unfoldable pub spelled_event : List ℕ → Option Event
spelled_event text = or_event (plain_event forms text) (byte_event byte_forms text (digits_of text))

-- ---- labels

-- a label, in capital letters or small ones
abbrev pub named : List ℕ → List ℕ → Bool
named label name = str_eq_ignore_ascii_case label name

-- the row of what happens on the bus, or the name of a class or what sigrok says of that
abbrev pub names_bus : List ℕ → List ℕ → List ℕ → Bool
names_bus label class description =
    named label (codes "address/data") || (named label class || named label description)

-- PulseView writes the row of an annotation in front of it, or its class.
abbrev pub is_label : Event → List ℕ → Bool
is_label Start label = names_bus label (codes "start") (codes "start condition")
is_label Repeat label =
    named label (codes "start repeat") || names_bus label (codes "repeat-start") (codes "repeat start condition")
is_label Stop label = names_bus label (codes "stop") (codes "stop condition")
is_label (Answer true) label = names_bus label (codes "ack") (codes "ack")
is_label (Answer false) label = names_bus label (codes "nack") (codes "nack")
is_label (Mark true) label = names_bus label (codes "address-read") (codes "address read")
is_label (Mark false) label = names_bus label (codes "address-write") (codes "address write")
is_label Bit label = named label (codes "bits") || (named label (codes "bit") || named label (codes "data/address bit"))
is_label (Address true byte) label = names_bus label (codes "address-read") (codes "address read")
is_label (Address false byte) label = names_bus label (codes "address-write") (codes "address write")
is_label (Data true byte) label = names_bus label (codes "data-read") (codes "data read")
is_label (Data false byte) label = names_bus label (codes "data-write") (codes "data write")

-- an event behind a label that it may have
abbrev pub if_labelled : List ℕ → Option Event → Option Event
if_labelled label (Some event) = if is_label event label then Some event else None
if_labelled label None = None

-- what follows a colon and a blank
abbrev pub behind_blank : Option (List ℕ) → Option (List ℕ)
behind_blank (Some text) = after (codes " ") text
behind_blank None = None

abbrev pub labelled_by : List ℕ → Option (List ℕ) → Option Event
labelled_by label (Some text) = if_labelled label (spelled_event text)
labelled_by label None = None

-- `Address/Data: Start`, `Start condition: Start`: a label up to the first colon, and an annotation
abbrev pub labelled_event : List ℕ → Option Event
labelled_event text = labelled_by (parted colon text).front (behind_blank (parted colon text).rest)

-- The event that an annotation says, with a label or without. Any other text says none.
unfoldable pub event_in : List ℕ → Option Event
event_in text = or_event (spelled_event text) (labelled_event text)
