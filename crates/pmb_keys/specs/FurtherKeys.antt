-- What the last keys of a command's table say: the unit of its numbers, the names of its status bits, and
-- whether it has a value for each phase.
use Rattle.std.specs.Prelude.{ℕ, suc, Bool, false, not, if◌then◌else◌, ◌&&◌, ◌||◌, is_some, Option, Some, None}
use Rattle.std.specs.Prelude.{Result, Ok, List, [], ◌∷◌, ◌++◌, codes, map, take}
use Rattle.std.specs.List.{list_all, list_any}
use Rattle.std.specs.Str.{bytes_eq}
use Rattle.toml.specs.Data.{Data, Members, as_bool, as_str, as_table, get_member}
use Rattle.pmb_command.specs.declared.entry.Kind.{Kind}
use Rattle.pmb_command.specs.Entry.{EntryParts}
use Rattle.pmb_command.specs.Fitting.{bit_count, is_number, is_status_kind, value_form}
use Rattle.pmb_command.specs.Names.{is_name, is_unit}
use Rattle.pmb_command.specs.Parts.{NamedBit}
use Rattle.pmb_command.specs.Units.{standard_unit}
use Rattle.pmb_keys.specs.declared.fault.FaultKind.{FaultKind}
use Rattle.pmb_keys.specs.declared.fault.FaultKind.TheVariants as faults
use Rattle.pmb_keys.specs.Rules.{bind, decimals, defaulted, keys_of, typed, unless}

-- ---- the unit

-- the unit that a key gives; its type is looked at first, then that the command's data are numbers
abbrev pub unit_rule : Kind → Data → Result (Option (List ℕ)) FaultKind
unit_rule kind d =
    bind (typed as_str d) (λ unit.
    bind (unless faults.UnknownKey (is_number kind)) (λ _.
    bind (unless faults.BadValue (is_unit unit)) (λ _.
    Ok (Some unit))))

-- A table has no code of its own, so that it has a standard command's name, and no kind of its own.
-- Coefficients go with a kind alone.
abbrev pub has_standard_kind : Members → Bool
has_standard_kind ms = not (is_some (get_member (codes "code") ms) || is_some (get_member (codes "kind") ms))

-- without the key, the unit of numbers is the standard's where the kind is
abbrev pub unit_without_key : EntryParts → Members → Option (List ℕ)
unit_without_key e ms = if has_standard_kind ms && is_number e.kind then standard_unit e.code else None

abbrev pub unit_of : EntryParts → Members → Result (Option (List ℕ)) FaultKind
unit_of e ms = defaulted (unit_rule e.kind) (unit_without_key e ms) (codes "unit") ms

-- ---- the names of bits

-- the name of a bit, which no bit before it has
abbrev pub bit_rule : List NamedBit → Data → Result (List ℕ) FaultKind
bit_rule before d =
    bind (typed as_str d) (λ name.
    bind (unless faults.BadName (is_name name && not (list_any (bytes_eq name) (map (λ b. b.name) before)))) (λ _.
    Ok name))

-- those before it and the bit, where a value names it
abbrev pub with_bit : ℕ → List NamedBit → Option Data → Result (List NamedBit) FaultKind
with_bit bit before None = Ok before
with_bit bit before (Some d) =
    bind (bit_rule before d) (λ name. Ok (before ++ (record { bit = bit; name = name }) ∷ []))

-- those before it, the bit and all after it, whose keys these are
abbrev pub bits_from : ℕ → List (List ℕ) → List NamedBit → Members → Result (List NamedBit) FaultKind
bits_from bit [] before ms = Ok before
bits_from bit (key ∷ keys) before ms =
    bind (with_bit bit before (get_member key ms)) (λ bits. bits_from (suc bit) keys bits ms)

-- the keys of the bits of a command's status register
abbrev pub bit_keys : EntryParts → List (List ℕ)
bit_keys e = take (bit_count (value_form e.shape)) decimals

-- the bits that a table names; its type is looked at first, then that the command's data are status bits,
-- then that each key is one of its bits
abbrev pub bits_rule : EntryParts → Data → Result (List NamedBit) FaultKind
bits_rule e d =
    bind (typed as_table d) (λ ms.
    bind (unless faults.UnknownKey (is_status_kind e.kind)) (λ _.
    bind (unless faults.BadValue (list_all (λ key. list_any (bytes_eq key) (bit_keys e)) (keys_of ms))) (λ _.
    bits_from 0 (bit_keys e) [] ms)))

abbrev pub bits_of : EntryParts → Members → Result (List NamedBit) FaultKind
bits_of e ms = defaulted (bits_rule e) [] (codes "bits") ms

-- ---- the three of them

pub record FurtherKeys : Type 0 where
  pub unit : Option (List ℕ)
  pub bits : List NamedBit
  pub phased : Bool

abbrev pub further_keys : EntryParts → Members → Result FurtherKeys FaultKind
further_keys e ms =
    bind (unit_of e ms) (λ unit.
    bind (bits_of e ms) (λ bits.
    bind (defaulted (typed as_bool) false (codes "phased") ms) (λ phased.
    Ok (record { unit = unit; bits = bits; phased = phased }))))
