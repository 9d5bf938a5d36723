-- The objects of a packet: what it says, one for each part of a group.
use Rattle.std.specs.Prelude.{ℕ, ◌+◌, ◌/◌, ◌&&◌, Bool, true, false, if◌then◌else◌, nat_eq, Option, Some, None, List, []}
use Rattle.std.specs.Prelude.{◌∷◌, ◌++◌, codes, drop, length, map, take}
use Rattle.pmb_bus.specs.declared.event.Event.{Event}
use Rattle.pmb_bus.specs.declared.event.Event.TheVariants.{Start, Byte, Ack, Nack, Stop}
use Rattle.pmb_bus.specs.Address.{write_address}
use Rattle.pmb_bus.specs.Pec.{pec}
use Rattle.pmb_command.specs.declared.form.Form.{Form}
use Rattle.pmb_command.specs.declared.pec_mode.PecMode.{PecMode}
use Rattle.pmb_command.specs.declared.pec_mode.PecMode.TheVariants.{Off, On, Optional}
use Rattle.pmb_command.specs.Parts.{CommandParts, DeviceParts, device_with}
use Rattle.pmb_command.specs.Wire.{wire_length}
use Rattle.pmb_json_fields.specs.declared.access.Access.{Access}
use Rattle.pmb_json_fields.specs.declared.access.Access.TheVariants as access
use Rattle.pmb_json_fields.specs.Value.{data_members}
use Rattle.pmb_json_text.specs.Json.{null, boolean, string}
use Rattle.pmb_json_text.specs.Member.{Member, named, digits}
use Rattle.pmb_meaning.specs.Data.{Exchange, called, read, written}
use Rattle.pmb_meaning.specs.Object.{says_members_of}
use Rattle.pmb_places.specs.declared.places.Place.{Place}
use Rattle.pmb_partial_packet.specs.PartialPacket.{but_last}
use Rattle.pmb_transaction.specs.Body.{forms}
use Rattle.pmb_transaction.specs.Transaction.{PartData, ReadData, CallData, RefusedData, AlertData, TransactionData}
use Rattle.pmb_transaction.specs.Transaction.{Write, Read, Call, Refused, Alert, NoAlert}
use Rattle.pmb_json_objects.specs.Head.{Head, head_at}
use Rattle.pmb_json_objects.specs.Members.{at_command, command_members, device_member, device_members, head_members}
use Rattle.pmb_json_objects.specs.Members.{part_members, sent_command}
use Rattle.pmb_json_objects.specs.Object.{Object, of_device, of_none}
use Rattle.pmb_voltage.specs.Voltage.{voltages_of}
use Rattle.pmb_json_objects.specs.Seen.{SeenData, basis_at, mode_at, page_at}

-- the number of each START among events, before the first of which n came
abbrev pub starts : ℕ → List Event → List ℕ
starts n [] = []
starts n (Start ∷ events) = n ∷ starts (n + 1) events
starts n (Byte b ∷ events) = starts (n + 1) events
starts n (Ack ∷ events) = starts (n + 1) events
starts n (Nack ∷ events) = starts (n + 1) events
starts n (Stop ∷ events) = starts (n + 1) events

-- ---- data

-- data that are read from a device, or written to it
abbrev pub exchange_of : Access → List ℕ → Exchange
exchange_of access.Read bytes = read bytes
exchange_of access.Write bytes = written bytes

-- what the fields of the data of a device's command say
abbrev pub fields_say : Exchange → DeviceParts → CommandParts → List Member
fields_say payload device c = says_members_of device c.entry payload

-- what the data of a device's command are, and then what their fields say
abbrev pub data_of : SeenData → Access → ℕ → List ℕ → DeviceParts → CommandParts → List Member
data_of seen access addr bytes device c =
    data_members seen.digits access (voltages_of device (mode_at seen addr) (page_at seen addr)) (basis_at seen addr)
    c bytes
    ++ fields_say (exchange_of access bytes) device c

-- what is said of what is read from a device, or written to it
abbrev pub said_of : SeenData → Access → ℕ → ℕ → List ℕ → List Member
said_of seen access addr code bytes = at_command seen addr code (data_of seen access addr bytes)

-- what the fields of what is sent and replied in a process call say
abbrev pub call_says : SeenData → ℕ → ℕ → List ℕ → List ℕ → List Member
call_says seen addr code first reply = at_command seen addr code (fields_say (called first reply))

-- ---- a refused byte in the place of an error code

-- whether a device may be sent an error code
abbrev pub may_check : PecMode → Bool
may_check Off = false
may_check On = true
may_check Optional = true

-- whether the bytes after the code are all the data of the form in which the command is written
abbrev pub is_whole_in : Option Form → List ℕ → Bool
is_whole_in None bytes = false
is_whole_in (Some form) bytes = nat_eq (wire_length form bytes) (length bytes)

-- whether bytes are a whole write but for its error code
abbrev pub is_whole_write : Option DeviceParts → List ℕ → Bool
is_whole_write None bytes = false
is_whole_write (Some device) [] = false
is_whole_write (Some device) (code ∷ bytes) = may_check device.pec && is_whole_in (forms device code).write bytes

-- what is said of an error code beside the right one
abbrev pub right_members : ℕ → ℕ → List Member
right_members code right = named (codes "pec") (string (if nat_eq code right then codes "right" else codes "wrong"))
    ∷ named (codes "right_pec") (digits (right ∷ [])) ∷ []

-- of the bytes before the refused one, and that one
abbrev pub checked_members : ℕ → Option DeviceParts → List ℕ → Option ℕ → List Member
checked_members addr device front None = []
checked_members addr device front (Some last) = if is_whole_write device front then right_members last
    (pec (write_address addr ∷ front)) else []

-- what was refused, by what was sent
abbrev pub refused_name : List ℕ → Bool → List ℕ
refused_name sent true = codes "read address"
refused_name [] false = codes "address"
refused_name (code ∷ []) false = codes "code"
refused_name (code ∷ b ∷ bytes) false = codes "byte"

-- the byte that was refused
abbrev pub last_byte : List ℕ → Option ℕ
last_byte [] = None
last_byte (b ∷ []) = Some b
last_byte (b ∷ c ∷ bytes) = last_byte (c ∷ bytes)

-- of a byte that was refused, not of an address
abbrev pub refused_check : ℕ → Option DeviceParts → List ℕ → Bool → List Member
refused_check addr device sent true = []
refused_check addr device sent false = checked_members addr device (but_last sent) (last_byte sent)

-- ---- objects

abbrev pub alert_object : List DeviceParts → Head → AlertData → Object
alert_object profile head t = of_device (t.byte / 2) (
    head_members head (codes "alert") ++ device_members profile (t.byte / 2)
    ++ named (codes "byte") (digits (t.byte ∷ [])) ∷ named (codes "pec") (boolean t.pec) ∷ [])

abbrev pub no_alert_object : Head → Object
no_alert_object head = of_none (head_members head (codes "alert") ++ named (codes "device") null ∷ [])

-- a packet to an address that speaks no PMBus
abbrev pub other_object : Head → ℕ → Object
other_object head addr = of_device addr (head_members head (codes "other") ++ device_member addr)

module _ (seen : SeenData) where
  abbrev pub write_object : Head → ℕ → ℕ → PartData → Object
  write_object head part parts p = of_device p.addr (
      head_members head (codes "write") ++ part_members part parts ++ device_members seen.profile p.addr
      ++ command_members seen p.addr p.code
      ++ named (codes "bytes") (digits p.bytes) ∷ named (codes "pec") (boolean p.pec)
      ∷ said_of seen access.Write p.addr p.code p.bytes)

  abbrev pub read_object : Head → ReadData → Object
  read_object head t = of_device t.addr (
      head_members head (codes "read") ++ device_members seen.profile t.addr ++ command_members seen t.addr t.code
      ++ named (codes "bytes") (digits t.reply) ∷ named (codes "pec") (boolean t.pec)
      ∷ said_of seen access.Read t.addr t.code t.reply)

  abbrev pub call_object : Head → CallData → Object
  call_object head t = of_device t.addr (
      head_members head (codes "call") ++ device_members seen.profile t.addr ++ command_members seen t.addr t.code
      ++ named (codes "sent") (digits t.bytes) ∷ named (codes "reply") (digits t.reply)
      ∷ named (codes "pec") (boolean t.pec) ∷ call_says seen t.addr t.code t.bytes t.reply)

  -- the leg that was refused, as the last of so many parts
  abbrev pub refused_object : Head → ℕ → ℕ → List ℕ → Bool → Object
  refused_object head parts addr sent at_read = of_device addr (
      head_members head (codes "refused") ++ part_members parts parts ++ device_members seen.profile addr
      ++ named (codes "refused") (string (refused_name sent at_read)) ∷ sent_command seen addr sent
      ++ named (codes "sent") (digits sent) ∷ refused_check addr (device_with addr seen.profile) sent at_read)

  -- ---- the objects of a packet, by the place of each event and the packet's time

  module _ (place : ℕ → Place) (time : Option (List ℕ)) where
    -- parts, from the one with this number on, each with the number of its START
    abbrev pub write_objects : ℕ → ℕ → List ℕ → List PartData → List Object
    write_objects part parts ats [] = []
    write_objects part parts [] (p ∷ more) = []
    write_objects part parts (at ∷ ats) (p ∷ more) = write_object (head_at place time at) part parts p
        ∷ write_objects (part + 1) parts ats more

    -- the parts before a refused leg, and that leg as the last one
    abbrev pub refused_objects : List ℕ → RefusedData → List Object
    refused_objects ats t =
        write_objects 1 (length t.parts + 1) ats t.parts
        ++ map (λ at. refused_object (head_at place time at) (length t.parts + 1) t.addr t.sent t.at_read)
        (take 1 (drop (length t.parts) ats))

    -- before the packet n events came
    abbrev pub packet_objects : ℕ → List Event → TransactionData → List Object
    packet_objects n events (Write parts) = write_objects 1 (length parts) (starts n events) parts
    packet_objects n events (Read t) = read_object (head_at place time n) t ∷ []
    packet_objects n events (Call t) = call_object (head_at place time n) t ∷ []
    packet_objects n events (Refused t) = refused_objects (starts n events) t
    packet_objects n events (Alert t) = alert_object seen.profile (head_at place time n) t ∷ []
    packet_objects n events NoAlert = no_alert_object (head_at place time n) ∷ []
