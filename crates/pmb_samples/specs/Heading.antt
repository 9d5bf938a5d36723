-- The heading of samples: which columns are SCL and SDA, and which has times, by their names. A column is a signal whose
-- ID is its number; one whose number is given for a wire has a name for it that no field has.
use Rattle.std.specs.Prelude.{ℕ, ◌+◌, ◌==◌, ◌||◌, ◌&&◌, nat_le, nat_lt, Bool, Option, Some, None, Result, Ok, Err}
use Rattle.std.specs.Prelude.{if◌then◌else◌, List, [], ◌∷◌, ◌++◌, length, codes}
use Rattle.arrayvec.specs.ArrayVec.{ArrayVec}
use Rattle.pmb_sample_fields.specs.Fields.{record_of, trimmed}
use Rattle.pmb_samples.specs.Columns.{column_of, id_of, number_of}
use Rattle.pmb_samples.specs.declared.heading.Found.{Found}
use Rattle.pmb_samples.specs.declared.heading.Found.TheVariants as found
use Rattle.pmb_samples.specs.declared.heading.Headings.{Headings}
use Rattle.pmb_wire_names.specs.Choosing.{listed}
use Rattle.pmb_wire_names.specs.Kept.{choose, fresh, kept_name, signal_of, taken, vec_of}
use Rattle.pmb_wire_names.specs.declared.found.NamedSignal.{NamedSignal}
use Rattle.pmb_wire_names.specs.declared.names.Names.{Names}
use Rattle.pmb_wire_names.specs.declared.names.OfWire.{OfWire}
use Rattle.pmb_wire_names.specs.declared.names.Wires.{Wires}

-- ---- names that are given

-- the names of columns whose numbers are given
abbrev pub scl_numbered : List ℕ
scl_numbered = 10 ∷ []

abbrev pub sda_numbered : List ℕ
sda_numbered = 10 ∷ 10 ∷ []

abbrev pub number_if : Option (List ℕ) → Option ℕ
number_if (Some name) = number_of name
number_if None = None

-- the name by which a wire is looked for
abbrev pub name_or : Option ℕ → List ℕ → Option (List ℕ) → Option (List ℕ)
name_or (Some column) numbered name = Some numbered
name_or None numbered name = name

abbrev pub start : Option (List ℕ) → Option (List ℕ) → Option (List ℕ) → Headings
start scl sda time = record {
  scl = number_if scl;
  sda = number_if sda;
  names = fresh (name_or (number_if scl) scl_numbered scl) (name_or (number_if sda) sda_numbered sda);
  times = fresh time None;
}

-- ---- the columns of a line

abbrev pub emptied_wire : OfWire → OfWire
emptied_wire w = record {
  wire = w.wire;
  wanted = w.wanted;
  first = record { items = [] };
  second = record { items = [] };
}

abbrev pub emptied : Names → Names
emptied n = record { all = record { items = [] }; scl = emptied_wire n.scl; sda = emptied_wire n.sda }

abbrev pub numbered_by : Names → Option ℕ → List ℕ → Names
numbered_by n (Some column) name = taken n (signal_of (id_of column) name)
numbered_by n None name = n

-- no column came yet but those whose numbers are given
abbrev pub begun : Headings → Headings
begun h = record {
  scl = h.scl;
  sda = h.sda;
  names = numbered_by (numbered_by (emptied h.names) h.scl scl_numbered) h.sda sda_numbered;
  times = emptied h.times;
}

-- A name has a byte at least and at most 255, else it is passed over.
abbrev pub fits : ℕ → List ℕ → Bool
fits place name = nat_lt place 65536 && (nat_lt 0 (length name) && nat_le (length name) 255)

abbrev pub with_column : Headings → NamedSignal → Headings
with_column h s = record { scl = h.scl; sda = h.sda; names = taken h.names s; times = taken h.times s }

abbrev pub offered : Headings → ℕ → List ℕ → Headings
offered h place text =
    if fits place (kept_name text) then with_column h (signal_of (id_of place) (kept_name text)) else h

abbrev pub offered_from : Headings → ℕ → List (List ℕ) → Headings
offered_from h place [] = h
offered_from h place (text ∷ fields) = offered_from (offered h place (trimmed text)) (place + 1) fields

abbrev pub offered_all : Headings → List (List ℕ) → Headings
offered_all h fields = offered_from h 0 fields

-- ---- which they are

abbrev pub is_lacking : OfWire → Bool
is_lacking w = length w.first.items == 0 && length w.second.items == 0

abbrev pub found_with : Result Wires (ArrayVec ℕ) → Found
found_with (Ok wires) = found.Wires (column_of wires.scl.items) (column_of wires.sda.items)
found_with (Err why) = found.Unclear why

-- A line is a heading where each wire may be one of its columns.
abbrev pub found_of : Names → Found
found_of n = if is_lacking n.scl || is_lacking n.sda then found.Nothing else found_with (choose n)

-- what becomes of the names at a line, and what it says
pub record Step : Type 0 where
  pub now : Headings
  pub found : Found

abbrev pub read_by : Headings → Bool → Step
read_by h is_whole = record { now = h; found = if is_whole then found_of h.names else found.Nothing }

abbrev pub read : Headings → ℕ → List ℕ → Step
read h mark line = read_by (offered_all (begun h) (record_of mark line).fields) (record_of mark line).is_whole

-- ---- times by a name

abbrev pub listing : List ℕ → List NamedSignal → ArrayVec ℕ
listing words columns = vec_of (words ++ listed columns)

abbrev pub time_by : List NamedSignal → List NamedSignal → Result ℕ (ArrayVec ℕ)
time_by all [] = Err (listing (codes "the time is none of ") all)
time_by all (s ∷ []) = Ok (column_of s.id.items)
time_by all (s ∷ next ∷ others) = Err (listing (codes "the time may be ") (s ∷ next ∷ others))

abbrev pub named_times : Names → Result ℕ (ArrayVec ℕ)
named_times n = time_by n.all.items n.scl.first.items
