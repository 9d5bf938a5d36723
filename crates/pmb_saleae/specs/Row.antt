-- The rows of a table.
use Rattle.std.specs.Prelude.{ℕ, ◌||◌, true, false, Bool, Option, Some, None, if◌then◌else◌, List, [], ◌∷◌, ◌++◌, codes}
use Rattle.std.specs.Str.{bytes_eq}
use Rattle.pmb_csv.specs.Columns.{has_fields, value}
use Rattle.pmb_csv.specs.Fields.{Record, quote}
use Rattle.pmb_saleae.specs.Number.{number_of}
use Rattle.pmb_saleae.specs.declared.columns.Columns.{Columns}
use Rattle.pmb_saleae.specs.declared.number.Number.{Number}
use Rattle.pmb_saleae.specs.declared.row.Kind.{Kind}
use Rattle.pmb_saleae.specs.declared.row.Kind.TheVariants.{Start, Stop, Address, Data, Other}

-- as many fields as columns
abbrev pub is_row : Columns → Record → Bool
is_row columns r = has_fields columns.count r

-- the analyzer's name
abbrev pub name_of : Columns → Record → List ℕ
name_of columns r = value columns.name r

-- Whether a name is the end of another and a quote behind it. So it reads where its row stood in quotes and lost its
-- front: `2C"` of `"I2C"`.
abbrev pub lost_front : List ℕ → List ℕ → Bool
lost_front [] name = bytes_eq name (quote ∷ [])
lost_front (byte ∷ whole) name = bytes_eq name (byte ∷ (whole ++ quote ∷ [])) || lost_front whole name

-- what a row is of
abbrev pub kind_of : List ℕ → Kind
kind_of text =
    if bytes_eq text (codes "start") then Start else
    if bytes_eq text (codes "stop") then Stop else
    if bytes_eq text (codes "address") then Address else
    if bytes_eq text (codes "data") then Data else Other

abbrev pub kind_in : Columns → Record → Kind
kind_in columns r = kind_of (value columns.kind r)

-- its number, where it has one
abbrev pub number_by : Kind → Columns → Record → Option Number
number_by Address columns r = number_of (value columns.address r)
number_by Data columns r = number_of (value columns.byte r)
number_by Start columns r = None
number_by Stop columns r = None
number_by Other columns r = None

abbrev pub number_in : Columns → Record → Option Number
number_in columns r = number_by (kind_in columns r) columns r

abbrev pub truth : List ℕ → Option Bool
truth text = if bytes_eq text (codes "true") then Some true else
    if bytes_eq text (codes "false") then Some false else None

-- when it began
abbrev pub value_if : Option ℕ → Record → List ℕ
value_if (Some place) r = value place r
value_if None r = []
