-- The columns of a table, as its heading names them.
use Rattle.std.specs.Prelude.{Option, Some, codes}
use Rattle.pmb_csv.specs.Columns.{◌>>=◌, count_of, needed_place, optional_place}
use Rattle.pmb_csv.specs.Fields.{Record}
use Rattle.pmb_saleae.specs.declared.columns.Columns.{Columns}

-- A heading is a line that can be read, and names each of these once, and the column of times once at most.
abbrev pub heading_of : Record → Option Columns
heading_of r = do
  name ← needed_place (codes "name") r
  kind ← needed_place (codes "type") r
  ack ← needed_place (codes "ack") r
  address ← needed_place (codes "address") r
  read ← needed_place (codes "read") r
  byte ← needed_place (codes "data") r
  start_time ← optional_place (codes "start_time") r
  count ← count_of r
  Some (record {
    count = count;
    name = name;
    kind = kind;
    start_time = start_time;
    ack = ack;
    address = address;
    read = read;
    byte = byte;
  })
