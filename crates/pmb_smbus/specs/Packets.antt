-- The packet that SMBus draws for a transfer.
use Rattle.std.specs.Prelude.{ℕ, ◌+◌, ◌*◌, ◌%◌, ◌&&◌, ◌||◌, true, false, not, Bool, if◌then◌else◌, List, [], ◌∷◌}
use Rattle.std.specs.Prelude.{◌++◌, drop, map}
use Rattle.pmb_bus.specs.Pec.{pec}
use Rattle.pmb_recording.specs.Wire.{bit_of}
use Rattle.pmb_recording.specs.declared.wire_byte.WireByte.{WireByte}
use Rattle.pmb_smbus.specs.Protocols.{has_command, is_call, may_have_code, off_wire, reads_alone}
use Rattle.pmb_smbus.specs.declared.events.Head.{Head}
use Rattle.pmb_smbus.specs.declared.protocol.Protocol.{Protocol}
use Rattle.pmb_smbus.specs.declared.transfer.Transfer.{Transfer}

-- ---- legs

-- A transfer writes where it was written, or where its protocol writes a command code before it reads.
abbrev pub has_written_leg : Transfer → Bool
has_written_leg t = t.writes || not (reads_alone t.head.protocol)

-- It reads where it was not written, or is a call.
abbrev pub has_read_leg : Transfer → Bool
has_read_leg t = not t.writes || is_call t.head.protocol

-- After START or a repeated START, the seven bits of an address and the direction. (A line whose address has more is a
-- fault.)
abbrev pub address_byte : Head → Bool → WireByte
address_byte head reads =
    record { follows_start = true; byte = head.address % 128 * 2 + bit_of reads; is_acknowledged = true }

-- bytes that are acknowledged
abbrev pub acknowledged_byte : ℕ → WireByte
acknowledged_byte byte = record { follows_start = false; byte = byte; is_acknowledged = true }

abbrev pub acknowledged : List ℕ → List WireByte
acknowledged bytes = map acknowledged_byte bytes

-- the command code, of a protocol that has it
abbrev pub command_bytes : Head → List ℕ
command_bytes head = if has_command head.protocol then head.command ∷ [] else []

-- those of the bytes that an event shows which are on the wire
abbrev pub on_wire : Protocol → List ℕ → List ℕ
on_wire protocol bytes = drop (off_wire protocol) bytes

-- the leg that writes: the command code and the bytes of `smbus_write`
abbrev pub written_leg : Transfer → List WireByte
written_leg t =
    if has_written_leg t then
    address_byte t.head false ∷ acknowledged (command_bytes t.head ++ on_wire t.head.protocol t.written.items)
    else []

-- the leg that reads: the bytes of `smbus_reply`
abbrev pub read_leg : Transfer → List WireByte
read_leg t =
    if has_read_leg t then address_byte t.head true ∷ acknowledged (on_wire t.head.protocol t.reply.items) else []

abbrev pub legs : Transfer → List WireByte
legs t = written_leg t ++ read_leg t

-- ---- the packet

-- the packet error code of all bytes before it, where the transfer has one
abbrev pub byte_of : WireByte → ℕ
byte_of b = b.byte

abbrev pub has_code_byte : Head → Bool
has_code_byte head = head.has_code && may_have_code head.protocol

abbrev pub code_bytes : Head → List WireByte → List ℕ
code_bytes head wire = if has_code_byte head then pec (map byte_of wire) ∷ [] else []

abbrev pub with_code : Head → List WireByte → List WireByte
with_code head wire = wire ++ acknowledged (code_bytes head wire)

-- The last byte that is read is not acknowledged. An address is.
abbrev pub refused : WireByte → WireByte
refused b = if b.follows_start then b else record b { is_acknowledged = false }

abbrev pub with_last_refused : List WireByte → List WireByte
with_last_refused [] = []
with_last_refused (b ∷ []) = refused b ∷ []
with_last_refused (b ∷ next ∷ wire) = b ∷ with_last_refused (next ∷ wire)

abbrev pub answered : Transfer → List WireByte → List WireByte
answered t wire = if has_read_leg t then with_last_refused wire else wire

-- the legs, and the packet error code after them
abbrev pub packet_wire : Transfer → List WireByte
packet_wire t = answered t (with_code t.head (legs t))

-- ---- a transfer that failed

-- the addresses of its legs alone
abbrev pub written_address : Transfer → List WireByte
written_address t = if has_written_leg t then address_byte t.head false ∷ [] else []

abbrev pub read_address : Transfer → List WireByte
read_address t = if has_read_leg t then address_byte t.head true ∷ [] else []

abbrev pub legs_wire : Transfer → List WireByte
legs_wire t = written_address t ++ read_address t
