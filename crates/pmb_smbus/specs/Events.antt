-- What the four events of `smbus` say.
use Rattle.std.specs.Prelude.{ℕ, ◌+◌, ◌==◌, ◌||◌, ◌&&◌, true, false, not, Bool, Option, Some, None, nat_lt, bit_and}
use Rattle.std.specs.Prelude.{if◌then◌else◌, List, [], ◌∷◌, codes, length}
use Rattle.std.specs.Str.{bytes_eq}
use Rattle.pmb_recording.specs.Told.{Reason, ChangesTheWire, MakesNoSense, Shows}
use Rattle.pmb_trace.specs.Fields.{Number, Outcome, address_field, bytes_field, command_field, decimal_field, flags_field}
use Rattle.pmb_trace.specs.Fields.{outcome_field}
use Rattle.pmb_words.specs.Parts.{blank, pieces}
use Rattle.pmb_smbus.specs.Protocols.{is_call, off_wire, protocol_of, reply_length, written_length}
use Rattle.pmb_smbus.specs.declared.protocol.Protocol.{Protocol}
use Rattle.pmb_smbus.specs.declared.events.Head.{Head}

-- what all four events begin with: address, command code, protocol, whether the flag 0004 is set, and all flags
pub record Front : Type 0 where
  pub head : Head
  pub flags : Number

-- the bytes that an event shows, or that it shows none of those it has
pub data Bytes : Type 0 where
  Shown : List ℕ → Bytes
  Hidden : Bytes

-- an event with bytes
pub record Message : Type 0 where
  pub front : Front
  pub length : Number
  pub bytes : Bytes

-- an event, by its fields
pub data Says : Type 0 where
  Writes : Message → Says
  Reads : Front → Says
  Replies : Message → Says
  -- and whether it wrote
  Result : Front → Bool → Outcome → Says
  -- its form is none
  Unreadable : Says

-- ---- fields

-- the flag 0004
abbrev pub has_code : ℕ → Bool
has_code flags = bit_and flags 0x0004 == 0x0004

abbrev pub front : Option Number → Option Number → Option Number → Option Protocol → Option Front
front (Some address) (Some flags) (Some command) (Some protocol) = Some (record {
  head = record {
    address = address.value;
    command = command.value;
    protocol = protocol;
    has_code = has_code flags.value;
  };
  flags = flags;
})
front address flags command protocol = None

-- `a=058`, `f=0000`, `c=88`, `WORD_DATA`
abbrev pub front_of : List ℕ → List ℕ → List ℕ → List ℕ → Option Front
front_of address flags command protocol =
    front (address_field address) (flags_field flags) (command_field command) (protocol_of protocol)

abbrev pub if_front : (Front → List (List ℕ) → Says) → Option Front → List (List ℕ) → Says
if_front says (Some front) fields = says front fields
if_front says None fields = Unreadable

-- What an event says by its front, `i2c-0 a=058 f=0000 c=88 WORD_DATA`, and the fields that follow.
abbrev pub with_front : (Front → List (List ℕ) → Says) → List (List ℕ) → Says
with_front says (bus ∷ address ∷ flags ∷ command ∷ protocol ∷ fields) =
    if_front says (front_of address flags command protocol) fields
with_front says fields = Unreadable

-- whether two lists have the same words
abbrev pub same_words : List (List ℕ) → List (List ℕ) → Bool
same_words [] [] = true
same_words (a ∷ some) (b ∷ others) = bytes_eq a b && same_words some others
same_words some others = false

-- what some programs print in place of bytes
abbrev pub placeholder : List (List ℕ)
placeholder = pieces blank (codes "[ARG TYPE NOT FIELD BUT 2]")

abbrev pub shown : Option (List ℕ) → Option Bytes
shown (Some bytes) = Some (Shown bytes)
shown None = None

-- `[21-00]`
abbrev pub shown_by : List (List ℕ) → Option Bytes
shown_by (word ∷ []) = shown (bytes_field word)
shown_by fields = None

-- bytes, or the placeholder
abbrev pub bytes_of : List (List ℕ) → Option Bytes
bytes_of fields = if same_words placeholder fields then Some Hidden else shown_by fields

abbrev pub message : (Message → Says) → Front → Option Number → Option Bytes → Says
message says front (Some length) (Some bytes) = says (record { front = front; length = length; bytes = bytes })
message says front length bytes = Unreadable

-- `l=2 [ff-ff]`
abbrev pub message_of : (Message → Says) → Front → List (List ℕ) → Says
message_of says front (length ∷ bytes) = message says front (decimal_field (codes "l=") length) (bytes_of bytes)
message_of says front [] = Unreadable

-- nothing more
abbrev pub read_of : Front → List (List ℕ) → Says
read_of front [] = Reads front
read_of front fields = Unreadable

-- whether it wrote: `wr`, `rd`
abbrev pub direction_of : List ℕ → Option Bool
direction_of word =
    if bytes_eq word (codes "wr") then Some true else if bytes_eq word (codes "rd") then Some false else None

abbrev pub result : Front → Option Bool → Option Outcome → Says
result front (Some writes) (Some outcome) = Result front writes outcome
result front writes outcome = Unreadable

-- `rd res=0`
abbrev pub result_of : Front → List (List ℕ) → Says
result_of front (direction ∷ outcome ∷ []) =
    result front (direction_of direction) (outcome_field (codes "res=") outcome)
result_of front fields = Unreadable

-- ---- bytes

abbrev pub bytes_shown : Bytes → List ℕ
bytes_shown (Shown bytes) = bytes
bytes_shown Hidden = []

-- The bytes are not shown, and one of them is on the wire.
abbrev pub hides_bytes : Bytes → ℕ → Protocol → Bool
hides_bytes (Shown bytes) length protocol = false
hides_bytes Hidden length protocol = nat_lt (off_wire protocol) length

abbrev pub hides : Message → Bool
hides m = hides_bytes m.bytes m.length.value m.front.head.protocol

-- ---- the first fault that an event has by itself

-- an address of over seven bits
abbrev pub is_far : Front → Bool
is_far front = nat_lt 0x7f front.head.address

-- The length of a block is one more than its first byte, which is any, and never 0.
abbrev pub is_block_length : ℕ → List ℕ → Bool
is_block_length length [] = nat_lt 0 length
is_block_length length (first ∷ bytes) = length == first + 1

-- whether a protocol of such a length, or of blocks, has the length of these bytes
abbrev pub is_length : Option ℕ → ℕ → List ℕ → Bool
is_length (Some number) length bytes = length == number
is_length None length bytes = is_block_length length bytes

-- An address of over seven bits, a length that the protocol does not have, more bytes than the length.
abbrev pub is_out_of_range : Option ℕ → Message → Bool
is_out_of_range number m =
    is_far m.front || (not (is_length number m.length.value (bytes_shown m.bytes))
    || nat_lt m.length.value (length (bytes_shown m.bytes)))

-- fewer bytes than the length
abbrev pub shows_less : Bytes → Number → Option Reason
shows_less (Shown bytes) number =
    if nat_lt (length bytes) number.value then Some (Shows (length bytes) number.text) else None
shows_less Hidden number = None

-- the first of two faults
abbrev pub first_fault : Option Reason → Option Reason → Option Reason
first_fault (Some reason) other = Some reason
first_fault None other = other

-- The flag 0010 means an address of ten bits.
abbrev pub flags_fault : Front → Option Reason
flags_fault front = if bit_and front.flags.value 0x0010 == 0 then None else Some (ChangesTheWire front.flags.text)

-- of an event with bytes, whose protocol has such a length
abbrev pub bytes_fault : Option ℕ → Message → Option Reason
bytes_fault number m = if is_out_of_range number m then Some MakesNoSense else shows_less m.bytes m.length

abbrev pub own_fault : Says → Option Reason
own_fault (Writes m) = first_fault (bytes_fault (written_length m.front.head.protocol) m) (flags_fault m.front)
own_fault (Reads front) =
    if is_far front || is_call front.head.protocol then Some MakesNoSense else flags_fault front
own_fault (Replies m) = bytes_fault (reply_length m.front.head.protocol) m
own_fault (Result front writes outcome) = if is_far front then Some MakesNoSense else None
own_fault Unreadable = Some MakesNoSense
