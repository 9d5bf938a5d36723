-- What the table of the standard commands is, computed over the whole table and read for each
-- entry. For `standard`, `by_name` and the laws `standard_entries_are_sound` and
-- `names_are_of_entries`. An entry is found by its code, and its name leads back to it, so no two
-- have one name.
use Rattle.std.proofs.Common.{◌≡◌, ℕ, ◌<◌, Bool, true, false, ◌&&◌, cond, nat_eq, nat_lt, Option, Some, None, List, [], ◌∷◌}
use Rattle.std.proofs.Common.{refl, sym, ap, ◌∙◌, subst}
use Rattle.std.specs.Prelude.{IfSome, find, filter_map, option_map}
use Rattle.std.specs.List.{cons_option, list_all}
use Rattle.std.specs.Str.{bytes_eq}
use Rattle.std.proofs.lemmas.Bool.{and_parts, eqb-true, ltb-true}
use Rattle.std.proofs.lemmas.Slice.Eq.{bytes_eq-Decides}
use Rattle.pmb_command.specs.Entry.{EntryParts}
use Rattle.pmb_command.specs.Commands.{code_of_name, from_to, has_name, standard_entries, standard_entry, standard_rows}
use Rattle.pmb_value.specs.NumberFormat.{IsFormat}
use Rattle.pmb_value.specs.declared.number_format.NumberFormat.{NumberFormat}
use Rattle.pmb_value.specs.declared.number_format.NumberFormat.TheVariants as formats
use Rattle.pmb_command.specs.declared.entry.Kind.{Kind}
use Rattle.pmb_command.specs.declared.entry.Kind.TheVariants.{Raw, Number, Vout, VoutSigned, Status, Text}
use Rattle.pmb_command.specs.Bus.{IsFitting, IsUnitOf, KeepsRanges}
use Rattle.pmb_command.specs.Fitting.{is_fitting, is_number}
use Rattle.pmb_command.specs.Names.{IsNameOf, is_name, is_unit}
use Rattle.pmb_command.specs.Standard.{IsNamed, IsStandardAt, is_general, is_linear11}
use Rattle.pmb_command.specs.Units.{standard_unit, unit_rows}
use Rattle.pmb_command.proofs.FittingLemmas.{fitting_parts}
use Rattle.pmb_command.proofs.NameLemmas.{fitting_name, printable_text}
use Rattle.pmb_command.proofs.Finding.{find_among, find_passes, option_map-cond}

-- the entry of a code has that code
pub standard_code : (c : ℕ) (e : EntryParts) → standard_entry c ≡ Some e → e.code ≡ c
unfolding standard_entry
standard_code c e has = eqb-true e.code c (find_passes (λ e. nat_eq e.code c) standard_entries e has)

-- whether the code of an entry is a byte
abbrev is_byte : EntryParts → Bool
is_byte e = nat_lt e.code 256

-- whether the name of an entry fits
abbrev name_fits : EntryParts → Bool
name_fits e = is_name e.name

-- whether a code was found, and which
abbrev is_code : ℕ → Option ℕ → Bool
is_code c None = false
is_code c (Some found) = nat_eq found c

-- whether the table finds an entry by its name
abbrev is_found_by_name : EntryParts → Bool
is_found_by_name e = is_code e.code (option_map (λ x. x.code) (find (λ x. bytes_eq x.name e.name) standard_entries))

-- what a test of the whole table says of each entry
pub of_each : (test : EntryParts → Bool) → list_all test standard_entries ≡ true → (c : ℕ) (e : EntryParts)
    → standard_entry c ≡ Some e → test e ≡ true
unfolding standard_entry
of_each test every c e has = find_among (λ e. nat_eq e.code c) test standard_entries e every has

-- each code of the table is a byte
every_code_is_a_byte : list_all is_byte standard_entries ≡ true
unfolding standard_entries standard_rows
every_code_is_a_byte = refl

-- each name of the table fits
every_name_fits : list_all name_fits standard_entries ≡ true
unfolding standard_entries standard_rows
every_name_fits = refl

-- the parts of each entry of the table go together
every_entry_fits : list_all is_fitting standard_entries ≡ true
unfolding standard_entry standard_entries standard_rows
every_entry_fits = refl

-- no kind of the table needs a device's numbers
every_kind_is_general : list_all (λ e. is_general e.kind) standard_entries ≡ true
unfolding standard_entries standard_rows
every_kind_is_general = refl

-- each name of the table leads to the entry that has it
every_name_is_found : list_all is_found_by_name standard_entries ≡ true
unfolding standard_entries standard_rows
every_name_is_found = refl

-- a code that has an entry is a byte
pub standard_below : (c : ℕ) (e : EntryParts) → standard_entry c ≡ Some e → c < 256
standard_below c e has = subst (λ n. n < 256) (standard_code c e has)
    (ltb-true e.code 256 (of_each is_byte every_code_is_a_byte c e has))

-- the name of an entry is one that fits
standard_name : (c : ℕ) (e : EntryParts) → standard_entry c ≡ Some e → IsNameOf e.code e.name
standard_name c e has = fitting_name e.name (of_each name_fits every_name_fits c e has) e.code

-- no standard command has a kind that needs a device's numbers
pub standard_is_general : (c : ℕ) (e : EntryParts) → standard_entry c ≡ Some e → is_general e.kind ≡ true
standard_is_general c e has = of_each (λ e. is_general e.kind) every_kind_is_general c e has

-- such a kind has no exponent and no coefficients
general_format : (format : NumberFormat) → is_linear11 format ≡ true → IsFormat format
general_format formats.Linear11 is = tt
general_format (formats.Linear11Fixed exponent) is = cc is
general_format (formats.Word format) is = cc is
general_format formats.Half is = tt
general_format (formats.Vid table) is = tt

general_ranges : (kind : Kind) → is_general kind ≡ true → KeepsRanges kind
general_ranges Raw is = tt
general_ranges (Number format) is = general_format format is
general_ranges Vout is = tt
general_ranges VoutSigned is = tt
general_ranges Status is = tt
general_ranges Text is = tt

-- the parts of an entry go together
standard_fits : (c : ℕ) (e : EntryParts) → standard_entry c ≡ Some e → IsFitting e
standard_fits c e has =
    fitting_parts e (of_each is_fitting every_entry_fits c e has) (general_ranges e.kind (standard_is_general c e has))

-- a unit is that of a number, and printable
abbrev unit_fits : Kind → Option (List ℕ) → Bool
unit_fits kind None = true
unit_fits kind (Some unit) = is_number kind && is_unit unit

every_unit_fits : list_all (λ e. unit_fits e.kind (standard_unit e.code)) standard_entries ≡ true
unfolding standard_entries standard_rows unit_rows
every_unit_fits = refl

fitting_unit : (kind : Kind) (unit : Option (List ℕ)) → unit_fits kind unit ≡ true → IfSome unit (IsUnitOf kind)
fitting_unit kind None fits = tt
fitting_unit kind (Some unit) fits =
    let parts = and_parts (is_number kind) (is_unit unit) fits in
    record { number = parts.0; text = printable_text 16 unit parts.1 }

-- the unit of an entry is that of a number
standard_unit_fits : (c : ℕ) (e : EntryParts) → standard_entry c ≡ Some e → IfSome (standard_unit c) (IsUnitOf e.kind)
standard_unit_fits c e has =
    subst (λ n. IfSome (standard_unit n) (IsUnitOf e.kind)) (standard_code c e has)
    (fitting_unit e.kind (standard_unit e.code)
    (of_each (λ e. unit_fits e.kind (standard_unit e.code)) every_unit_fits c e has))

-- the entries of all codes, in order, are those of the table
pub entries_of_all_codes : filter_map standard_entry (from_to 0x00 0xff) ≡ standard_entries
unfolding standard_entry standard_entries standard_rows
entries_of_all_codes = refl

-- the first code with a name, where one more code comes first
one_more : (name : List ℕ) (c : ℕ) (o : Option EntryParts) (later : Option ℕ) (es : List EntryParts)
    → ((e : EntryParts) → o ≡ Some e → e.code ≡ c)
    → later ≡ option_map (λ e. e.code) (find (λ e. bytes_eq e.name name) es) → cond (has_name name o) (Some c) later
    ≡ option_map (λ e. e.code) (find (λ e. bytes_eq e.name name) (cons_option o es))
one_more name c None later es own same = same
one_more name c (Some e) later es own same =
    (ap (λ n. cond (bytes_eq e.name name) (Some n) later) (sym (own e refl))
    ∙ ap (cond (bytes_eq e.name name) (Some e.code)) same)
    ∙ sym (option_map-cond (λ e. e.code) (bytes_eq e.name name) e (find (λ e. bytes_eq e.name name) es))

-- The first of some codes whose entry has a name is the code of the first of their entries that has
-- it.
first_named : (name codes : List ℕ) → find (λ c. has_name name (standard_entry c)) codes
    ≡ option_map (λ e. e.code) (find (λ e. bytes_eq e.name name) (filter_map standard_entry codes))
first_named name [] = refl
first_named name (c ∷ codes) = one_more name c (standard_entry c) _ (filter_map standard_entry codes) (standard_code c)
    (first_named name codes)

-- the code of a name, by the table
pub code_by_table : (name : List ℕ) → code_of_name name
    ≡ option_map (λ e. e.code) (find (λ e. bytes_eq e.name name) standard_entries)
unfolding code_of_name
code_by_table name = first_named name (from_to 0x00 0xff)
    ∙ ap (λ es. option_map (λ e. e.code) (find (λ e. bytes_eq e.name name) es)) entries_of_all_codes

-- an entry that has a name
named : (name : List ℕ) (o : Option EntryParts) → has_name name o ≡ true
    → (e : EntryParts) × (o ≡ Some e) × (e.name ≡ name)
named name None has = cc has
named name (Some e) has = (e, refl, (bytes_eq-Decides e.name name).0 has)

-- the code of a name has a standard entry, with that name
pub code_of_name_names : (name : List ℕ) (c : ℕ) → code_of_name name ≡ Some c
    → (e : EntryParts) × (standard_entry c ≡ Some e) × (e.name ≡ name)
unfolding code_of_name
code_of_name_names name c found = named name (standard_entry c)
    (find_passes (λ c. has_name name (standard_entry c)) (from_to 0x00 0xff) c found)

-- the code of a name is a byte
pub code_of_name_below : (name : List ℕ) (c : ℕ) → code_of_name name ≡ Some c → c < 256
code_of_name_below name c found = let entry = code_of_name_names name c found in standard_below c entry.0 entry.1

-- which code was found
code_found : (c : ℕ) (o : Option ℕ) → is_code c o ≡ true → o ≡ Some c
code_found c None found = cc found
code_found c (Some n) found = ap Some (eqb-true n c found)

-- the name of an entry leads to its code: no other standard command has it
pub standard_by_name : (c : ℕ) (e : EntryParts) → standard_entry c ≡ Some e → code_of_name e.name ≡ Some c
standard_by_name c e has =
    code_by_table e.name
    ∙ code_found e.code (option_map (λ x. x.code) (find (λ x. bytes_eq x.name e.name) standard_entries))
    (of_each is_found_by_name every_name_is_found c e has)
    ∙ ap Some (standard_code c e has)

-- what a standard entry is
pub standard_entry_at : (c : ℕ) (e : EntryParts) → standard_entry c ≡ Some e → IsStandardAt c e
standard_entry_at c e has = record {
  same_code = standard_code c e has;
  byte = standard_below c e has;
  entry = record {
    byte = ltb-true e.code 256 (of_each is_byte every_code_is_a_byte c e has);
    name =
        standard_name c e has;
    fitting = standard_fits c e has;
  };
  general = standard_is_general c e has;
  unit = standard_unit_fits c e has;
  by_name = standard_by_name c e has;
}

-- what the code of a name is
pub code_of_name_at : (name : List ℕ) (c : ℕ) → code_of_name name ≡ Some c → IsNamed name c
code_of_name_at name c found =
    let entry = code_of_name_names name c found in
    record { byte = standard_below c entry.0 entry.1; entry = entry.0; has = entry.1; same_name = entry.2 }
