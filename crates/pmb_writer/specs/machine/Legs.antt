-- What is left to be written: legs, each as its bytes, and the packet error code so far.
use Rattle.std.specs.Prelude.{ℕ, ◌≤◌, length, IsSome, IfSome, ◌%◌, Bool, true, false, Option, Some, None, List, [], ◌∷◌}
use Rattle.std.specs.Prelude.{◌++◌, map, bit_xor, option_map}
use Rattle.std.specs.List.{flat_map}
use Rattle.std.specs.Option.{option_to_list}
use Rattle.pmb_bus.specs.Address.{write_address, read_address, alert_address}
use Rattle.pmb_bus.specs.Pec.{pec}
use Rattle.pmb_bus.specs.declared.event.Event.{Event}
use Rattle.pmb_bus.specs.declared.event.Event.TheVariants.{Start, Byte, Ack, Nack, Stop}
use Rattle.pmb_command.specs.declared.form.Form.{Form}
use Rattle.pmb_command.specs.Parts.{DeviceParts}
use Rattle.pmb_command.specs.Wire.{wire}
use Rattle.pmb_transaction.specs.Transaction.{PartData, TransactionData, Write, Read, Call, Refused, Alert, NoAlert}
use Rattle.pmb_transaction.specs.Transaction.{part_data}
use Rattle.pmb_writer.specs.Invalid.{forms_at}
use Rattle.pmb_writer.specs.declared.course.Course.{Course}
use Rattle.pmb_writer.specs.declared.leg.Leg.{Leg}
use Rattle.pmb_writer.specs.declared.legs.LegsToCome.{LegsToCome}

-- The packet error code of bytes after those that have a code.
unfoldable pub code_on : ℕ → List ℕ → ℕ
code_on crc [] = crc
code_on crc (b ∷ bytes) = code_on (pec (bit_xor crc b ∷ [])) bytes

-- A leg: its bytes without a packet error code, whether one follows, the answer to the last byte,
-- and whether the code covers the leg before it too.
pub record LegData : Type 0 where
  pub bytes : List ℕ
  pub pec : Bool
  pub last : Event
  pub goes_on : Bool

-- bytes, and their packet error code where one follows
abbrev pub with_code : Bool → ℕ → List ℕ → List ℕ
with_code false crc bytes = bytes
with_code true crc bytes = bytes ++ code_on crc bytes ∷ []

-- a packet error code, where one follows
abbrev pub code_behind : Bool → ℕ → List ℕ
code_behind false code = []
code_behind true code = code ∷ []

-- each byte, followed by ACK but for the last, which another answer may follow
abbrev pub answered_by : Event → List ℕ → List Event
answered_by last [] = []
answered_by last (b ∷ []) = Byte b ∷ last ∷ []
answered_by last (b ∷ c ∷ bytes) = Byte b ∷ Ack ∷ answered_by last (c ∷ bytes)

-- bytes after another one, each after the ACK of the byte before
abbrev pub behind_acks : List ℕ → List Event
behind_acks bytes = flat_map (λ b. Ack ∷ Byte b ∷ []) bytes

-- the code with which a leg begins
abbrev pub code_before : Bool → ℕ → ℕ
code_before true crc = crc
code_before false crc = 0

-- the events of a leg after its START
abbrev pub leg_events : ℕ → LegData → List Event
leg_events crc l = answered_by l.last (with_code l.pec crc l.bytes)

-- those of legs after bytes with a code, and STOP where it is to come
unfoldable pub legs_events : Bool → ℕ → List LegData → List Event
legs_events true crc [] = Stop ∷ []
legs_events false crc [] = []
legs_events stop crc (l ∷ legs) =
    Start ∷ (leg_events (code_before l.goes_on crc) l
    ++ legs_events stop (code_on (code_before l.goes_on crc) l.bytes) legs)

-- ---- the legs of a transaction

-- the byte of an address with the direction in bit 0, where bit 7 has room in a byte
abbrev pub write_byte : ℕ → ℕ
write_byte addr = write_address addr % 256

abbrev pub read_byte : ℕ → ℕ
read_byte addr = read_address addr % 256

-- the wire of a form, where there is one
abbrev pub wire_of : Option Form → List ℕ → List ℕ
wire_of None bytes = bytes
wire_of (Some form) bytes = wire form bytes

abbrev pub asked_leg : ℕ → List ℕ → LegData
asked_leg addr body = record { bytes = write_byte addr ∷ body; pec = false; last = Ack; goes_on = false }

abbrev pub reply_leg : ℕ → List ℕ → Bool → LegData
reply_leg addr reply with_pec = record { bytes = read_byte addr ∷ reply; pec = with_pec; last = Nack; goes_on = true }

abbrev pub part_leg : List DeviceParts → PartData → LegData
part_leg profile part =
    record {
      bytes = write_byte part.addr ∷ part.code
          ∷ wire_of (forms_at profile part.addr part.code).write part.bytes;
      pec = part.pec;
      last = Ack;
      goes_on = false;
    }

abbrev pub refused_legs : ℕ → List ℕ → Bool → List LegData
refused_legs addr sent false = record { bytes = write_byte addr ∷ sent; pec = false; last = Nack; goes_on = false } ∷ []
refused_legs addr sent true = asked_leg addr sent
    ∷ record { bytes = read_byte addr ∷ []; pec = false; last = Nack; goes_on = true } ∷ []

abbrev pub legs_of : List DeviceParts → TransactionData → List LegData
legs_of profile (Write parts) = map (part_leg profile) parts
legs_of profile (Read t) = asked_leg t.addr (t.code ∷ [])
    ∷ reply_leg t.addr (wire_of (forms_at profile t.addr t.code).read t.reply) t.pec ∷ []
legs_of profile (Call t) =
    asked_leg t.addr (t.code ∷ wire_of (forms_at profile t.addr t.code).call t.bytes)
    ∷ reply_leg t.addr (wire_of (forms_at profile t.addr t.code).call t.reply) t.pec
    ∷ []
legs_of profile (Refused t) = map (part_leg profile) t.parts ++ refused_legs t.addr t.sent t.at_read
legs_of profile (Alert t) = record {
  bytes = read_address alert_address ∷ t.byte ∷ [];
  pec = t.pec;
  last =
      Nack;
  goes_on = false;
} ∷ []
legs_of profile NoAlert = record { bytes = read_address alert_address ∷ []; pec = false; last = Nack; goes_on = false }
    ∷ []

-- what a transaction's packet is made of
abbrev pub packet_events : List DeviceParts → TransactionData → List Event
packet_events profile t = legs_events true 0 (legs_of profile t)

-- ---- the code's legs

-- a leg of the code: the bytes that are left of it
abbrev pub leg_data : Leg → LegData
leg_data l = record {
  bytes = option_to_list l.address ++ (option_to_list l.code ++ (option_to_list l.count ++ l.«data».now));
  pec = l.pec;
  last = l.last;
  goes_on = l.goes_on;
}

-- a leg of which nothing is written, with the most bytes after the address that one has
pub record IsWhole (l : Leg) : Type 0 where
  pub begins : IsSome l.address
  pub few : length l.«data».now ≤ 258

-- the two after the parts, where there are any
pub record AreWhole (l : LegsToCome) : Type 0 where
  pub first : IfSome l.first IsWhole
  pub second : IfSome l.second IsWhole

-- with one more byte in front
abbrev pub with_byte : ℕ → LegData → LegData
with_byte b l = record { bytes = b ∷ l.bytes; pec = l.pec; last = l.last; goes_on = l.goes_on }

-- the legs of the code that are to come
abbrev pub legs_data : LegsToCome → List LegData
legs_data l =
    map (part_leg l.profile.now) (map part_data l.parts.now)
    ++ (option_to_list (option_map leg_data l.first) ++ option_to_list (option_map leg_data l.second))

-- what is left of a packet under way
abbrev pub course_events : Course → List Event
course_events c =
    option_to_list c.owed
    ++ (leg_events c.crc (leg_data c.leg) ++ legs_events c.stop (code_on c.crc (leg_data c.leg).bytes)
    (legs_data c.legs))
