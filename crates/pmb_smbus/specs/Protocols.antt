-- The protocols of SMBus: what each draws, and how many bytes its events show.
use Rattle.std.specs.Prelude.{ℕ, true, false, Bool, Option, Some, None, if◌then◌else◌, List, codes}
use Rattle.std.specs.Str.{bytes_eq}
use Rattle.pmb_smbus.specs.declared.protocol.Protocol.{Protocol}
use Rattle.pmb_smbus.specs.declared.protocol.Protocol.TheVariants.{Quick, Byte, ByteData, WordData, ProcCall, BlockData}
use Rattle.pmb_smbus.specs.declared.protocol.Protocol.TheVariants.{BlockProcCall, I2cBlockData}

-- the protocol of a name
abbrev pub protocol_of : List ℕ → Option Protocol
protocol_of name =
    if bytes_eq name (codes "QUICK") then Some Quick else
    if bytes_eq name (codes "BYTE") then Some Byte else
    if bytes_eq name (codes "BYTE_DATA") then Some ByteData else
    if bytes_eq name (codes "WORD_DATA") then Some WordData else
    if bytes_eq name (codes "PROC_CALL") then Some ProcCall else
    if bytes_eq name (codes "BLOCK_DATA") then Some BlockData else
    if bytes_eq name (codes "BLOCK_PROC_CALL") then Some BlockProcCall else
    if bytes_eq name (codes "I2C_BLOCK_DATA") then Some I2cBlockData else None

-- two protocols are the same
abbrev pub is_protocol : Protocol → Protocol → Bool
is_protocol Quick Quick = true
is_protocol Byte Byte = true
is_protocol ByteData ByteData = true
is_protocol WordData WordData = true
is_protocol ProcCall ProcCall = true
is_protocol BlockData BlockData = true
is_protocol BlockProcCall BlockProcCall = true
is_protocol I2cBlockData I2cBlockData = true
is_protocol a b = false

-- A call writes and then reads.
abbrev pub is_call : Protocol → Bool
is_call ProcCall = true
is_call BlockProcCall = true
is_call protocol = false

-- Quick Command and Receive Byte read without writing a command code before.
abbrev pub reads_alone : Protocol → Bool
reads_alone Quick = true
reads_alone Byte = true
reads_alone protocol = false

-- All but Quick Command write a command code: Send Byte's is its byte.
abbrev pub has_command : Protocol → Bool
has_command Quick = false
has_command protocol = true

-- Quick Command and I2C_BLOCK_DATA never have a packet error code.
abbrev pub may_have_code : Protocol → Bool
may_have_code Quick = false
may_have_code I2cBlockData = false
may_have_code protocol = true

-- how many of the bytes that an event shows are not on the wire: the count of an I2C_BLOCK_DATA
abbrev pub off_wire : Protocol → ℕ
off_wire I2cBlockData = 1
off_wire protocol = 0

-- how many bytes `smbus_write` shows, or none where the first of them says so
abbrev pub written_length : Protocol → Option ℕ
written_length Quick = Some 0
written_length Byte = Some 0
written_length ByteData = Some 1
written_length WordData = Some 2
written_length ProcCall = Some 2
written_length protocol = None

-- and `smbus_reply`
abbrev pub reply_length : Protocol → Option ℕ
reply_length Quick = Some 0
reply_length Byte = Some 1
reply_length ByteData = Some 1
reply_length WordData = Some 2
reply_length ProcCall = Some 2
reply_length protocol = None
