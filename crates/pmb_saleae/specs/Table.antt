-- What the rows of a table give.
use Rattle.std.specs.Prelude.{ℕ, ◌+◌, ◌*◌, ◌&&◌, true, false, Bool, Option, Some, None, nat_le, if◌then◌else◌}
use Rattle.pmb_csv.specs.Columns.{value}
use Rattle.pmb_csv.specs.Fields.{Record}
use Rattle.pmb_recording.specs.Wire.{bit_of}
use Rattle.pmb_saleae.specs.Row.{kind_in, number_in, truth}
use Rattle.pmb_saleae.specs.declared.columns.Columns.{Columns}
use Rattle.pmb_saleae.specs.declared.event.Event.{Event}
use Rattle.pmb_saleae.specs.declared.event.Event.TheVariants.{Start, Stop, Address, Data}
use Rattle.pmb_saleae.specs.declared.number.Number.{Number}
use Rattle.pmb_saleae.specs.declared.number.Radix.{Radix}
use Rattle.pmb_saleae.specs.declared.number.Radix.TheVariants.{Hexadecimal, Decimal}
use Rattle.pmb_saleae.specs.declared.row.Kind.{Kind}
use Rattle.pmb_saleae.specs.declared.row.Kind.TheVariants as kinds

-- ---- numbers

-- The first number settles how all are written.
abbrev pub settled : Option Radix → Option Number → Option Radix
settled (Some radix) first = Some radix
settled None (Some first) = Some first.radix
settled None None = None

-- A number is written in the radix that is settled.
abbrev pub same_radix : Radix → Radix → Bool
same_radix Hexadecimal Hexadecimal = true
same_radix Hexadecimal Decimal = false
same_radix Decimal Hexadecimal = false
same_radix Decimal Decimal = true

abbrev pub is_written_so : Option Radix → Radix → Bool
is_written_so (Some first) radix = same_radix first radix
is_written_so None radix = false

-- a number up to a greatest one, in the radix that is settled
abbrev pub up_to : ℕ → Option Radix → Option Number → Option ℕ
up_to most radix (Some read) =
    if is_written_so radix read.radix && nat_le read.value most then Some read.value else None
up_to most radix None = None

-- ---- rows

-- an address with its direction and its answer
abbrev pub address : Option ℕ → Option Bool → Option Bool → Option Event
address (Some byte) (Some acknowledged) (Some reads) =
    Some (Address (record { follows_start = true; byte = byte * 2 + bit_of reads; is_acknowledged = acknowledged }))
address (Some byte) (Some acknowledged) None = None
address (Some byte) None reads = None
address None acknowledged reads = None

-- a byte of data with its answer
abbrev pub data_byte : Option ℕ → Option Bool → Option Event
data_byte (Some byte) (Some acknowledged) =
    Some (Data (record { follows_start = false; byte = byte; is_acknowledged = acknowledged }))
data_byte (Some byte) None = None
data_byte None acknowledged = None

-- what a row of a kind gives, if that makes sense
abbrev pub event_by : Kind → Option Radix → Columns → Record → Option Event
event_by kinds.Start radix columns r = Some Start
event_by kinds.Stop radix columns r = Some Stop
event_by kinds.Address radix columns r =
    address (up_to 0x7f radix (number_in columns r)) (truth (value columns.ack r)) (truth (value columns.read r))
event_by kinds.Data radix columns r =
    data_byte (up_to 0xff radix (number_in columns r)) (truth (value columns.ack r))
event_by kinds.Other radix columns r = None

-- what a row gives
abbrev pub event_of : Option Radix → Columns → Record → Option Event
event_of radix columns r = event_by (kind_in columns r) radix columns r
