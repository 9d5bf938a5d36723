-- What is kept of the signals of a recording while they come: at most 17 with different IDs of each sort.
use Rattle.std.specs.Prelude.{ℕ, ◌==◌, ◌||◌, Bool, Option, Result, if◌then◌else◌, List, [], ◌∷◌, ◌++◌, length, option_map, take}
use Rattle.arrayvec.specs.ArrayVec.{ArrayVec}
use Rattle.pmb_wire_names.specs.Choosing.{choice}
use Rattle.pmb_wire_names.specs.Matching.{is_blank, without_blanks}
use Rattle.pmb_wire_names.specs.Signals.{first_or, fits_first, fits_second, has_id}
use Rattle.pmb_wire_names.specs.declared.found.NamedSignal.{NamedSignal}
use Rattle.pmb_wire_names.specs.declared.names.Names.{Names}
use Rattle.pmb_wire_names.specs.declared.names.OfWire.{OfWire}
use Rattle.pmb_wire_names.specs.declared.names.Wires.{Wires}
use Rattle.pmb_wires.specs.declared.signal.Wire.{Wire}
use Rattle.pmb_wires.specs.declared.signal.Wire.TheVariants.{Scl, Sda}

abbrev pub signal_of : List ℕ → List ℕ → NamedSignal
signal_of id name = record { id = record { items = id }; name = record { items = name } }

abbrev pub most_found : ℕ
most_found = 17

-- one more signal, if there is room
abbrev pub kept_with : List NamedSignal → NamedSignal → List NamedSignal
kept_with found s = if length found == most_found || has_id s.id.items found then found else found ++ s ∷ []

abbrev pub kept_if : Bool → ArrayVec NamedSignal → NamedSignal → ArrayVec NamedSignal
kept_if fits found s = if fits then record { items = kept_with found.items s } else found

-- ---- a wire

-- A name without its blanks. Of one that is longer than each signal's so much is kept that no signal has it.
abbrev pub kept_name : List ℕ → List ℕ
kept_name name = take 256 (without_blanks name)

-- the same, byte by byte
abbrev pub with_byte : List ℕ → ℕ → List ℕ
with_byte kept byte = if length kept == 256 || is_blank byte then kept else kept ++ byte ∷ []

abbrev pub kept_from : List ℕ → List ℕ → List ℕ
kept_from kept [] = kept
kept_from kept (byte ∷ name) = kept_from (with_byte kept byte) name

abbrev pub vec_of : List ℕ → ArrayVec ℕ
vec_of bytes = record { items = bytes }

abbrev pub items_of : ArrayVec ℕ → List ℕ
items_of v = v.items

abbrev pub wanted_of : OfWire → Option (List ℕ)
wanted_of w = option_map items_of w.wanted

abbrev pub none_yet : Wire → Option (List ℕ) → OfWire
none_yet wire name = record {
  wire = wire;
  wanted = option_map vec_of name;
  first = record { items = [] };
  second = record { items = [] };
}

abbrev pub offered : OfWire → NamedSignal → OfWire
offered w s = record {
  wire = w.wire;
  wanted = w.wanted;
  first = kept_if (fits_first w.wire (wanted_of w) s.name.items) w.first s;
  second = kept_if (fits_second w.wire (wanted_of w) s.name.items) w.second s;
}

abbrev pub found_for : OfWire → List NamedSignal
found_for w = first_or w.first.items w.second.items

-- ---- both wires

abbrev pub fresh : Option (List ℕ) → Option (List ℕ) → Names
fresh scl sda = record {
  all = record { items = [] };
  scl = none_yet Scl (option_map kept_name scl);
  sda = none_yet Sda (option_map kept_name sda);
}

abbrev pub taken : Names → NamedSignal → Names
taken n s = record {
  all = record { items = kept_with n.all.items s };
  scl = offered n.scl s;
  sda = offered n.sda s;
}

abbrev pub choose : Names → Result Wires (ArrayVec ℕ)
choose n = choice n.all.items (found_for n.scl) (found_for n.sda)

-- all signals of a recording, one after the other
abbrev pub all_taken : Names → List NamedSignal → Names
all_taken n [] = n
all_taken n (s ∷ signals) = all_taken (taken n s) signals
