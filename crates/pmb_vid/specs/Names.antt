-- The names of VID tables.
use Rattle.std.specs.Prelude.{ℕ, Bool, nat_eq, List, codes, Option, Some, None, if◌then◌else◌}
use Rattle.std.specs.Str.{bytes_eq}
use Rattle.pmb_vid.specs.declared.table.VidTable.{VidTable}
use Rattle.pmb_vid.specs.declared.table.VidTable.TheVariants.{Vr11, Vr12, Vr13, Imvp9, Amd625mv, Nvidia195mv}

abbrev pub table_name : VidTable → List ℕ
table_name Vr11 = codes "vr11"
table_name Vr12 = codes "vr12"
table_name Vr13 = codes "vr13"
table_name Imvp9 = codes "imvp9"
table_name Amd625mv = codes "amd625mv"
table_name Nvidia195mv = codes "nvidia195mv"

-- the table that a text names; nothing where it names none
abbrev pub named_table : List ℕ → Option VidTable
named_table text =
    if bytes_eq text (codes "vr11") then Some Vr11
    else if bytes_eq text (codes "vr12") then Some Vr12
    else if bytes_eq text (codes "vr13") then Some Vr13
    else if bytes_eq text (codes "imvp9") then Some Imvp9
    else if bytes_eq text (codes "amd625mv") then Some Amd625mv
    else if bytes_eq text (codes "nvidia195mv") then Some Nvidia195mv
    else None

-- a number of each table, by which tables are told apart
abbrev pub table_number : VidTable → ℕ
table_number Vr11 = 0
table_number Vr12 = 1
table_number Vr13 = 2
table_number Imvp9 = 3
table_number Amd625mv = 4
table_number Nvidia195mv = 5

-- the two tables are one
abbrev pub same_table : VidTable → VidTable → Bool
same_table table other = nat_eq (table_number table) (table_number other)
