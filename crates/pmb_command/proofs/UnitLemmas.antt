-- What the rows of the code's table say of the standard's units: for `standard_unit`. A row that is found by its
-- code has the unit of that code, and the units are short and printable, by tests of the whole table.
use Rattle.std.proofs.Common.{◌≡◌, ℕ, ◌≤◌, Bool, true, nat_eq, nat_le, Option, Some, None, List, length, map, refl, sym}
use Rattle.std.proofs.Common.{ap, ◌∙◌}
use Rattle.std.specs.Prelude.{find, option_map}
use Rattle.std.specs.List.{list_all}
use Rattle.std.proofs.lemmas.Bool.{leb-true}
use Rattle.pmb_command.proofs.Finding.{find-map, find_among}
use Rattle.pmb_command.proofs.NameLemmas.{unit_text}
use Rattle.pmb_command.specs.Names.{IsUnit, is_unit}
use Rattle.pmb_command.specs.declared.units.Row.{Row}
use Rattle.pmb_command.specs.Units.{UnitRow, standard_unit, unit_rows}
use Rattle.pmb_command.specs.machine.UnitRows.{row_parts}

-- the row that has a code is the one of the definitions
row_of_code : (rows : List Row) (code : ℕ) (found : Option Row) → map row_parts rows ≡ unit_rows
    → found ≡ find (λ r. nat_eq (row_parts r).code code) rows
    → find (λ r. nat_eq r.code code) unit_rows ≡ option_map row_parts found
row_of_code rows code found same is =
    ap (find (λ r. nat_eq r.code code)) (sym same) ∙ find-map row_parts (λ r. nat_eq r.code code) rows
    ∙ ap (option_map row_parts) (sym is)

unit_of_row : (found : Option Row)
    → option_map (λ r. r.unit) (option_map row_parts found) ≡ option_map (λ r. (row_parts r).unit) found
unit_of_row None = refl
unit_of_row (Some row) = refl

-- its unit is that of the code
pub unit_of_code : (rows : List Row) (code : ℕ) (found : Option Row) → map row_parts rows ≡ unit_rows
    → found ≡ find (λ r. nat_eq (row_parts r).code code) rows
    → standard_unit code ≡ option_map (λ r. (row_parts r).unit) found
unit_of_code rows code found same is =
    ap (option_map (λ r. r.unit)) (row_of_code rows code found same is) ∙ unit_of_row found

-- the unit of a row that is found passes what each of the table does
of_found : (test : UnitRow → Bool) → list_all test unit_rows ≡ true → (rows : List Row) (code : ℕ) (row : Row)
    → map row_parts rows ≡ unit_rows → Some row ≡ find (λ r. nat_eq (row_parts r).code code) rows
    → test (row_parts row) ≡ true
of_found test every rows code row same is =
    find_among (λ r. nat_eq r.code code) test unit_rows (row_parts row) every
    (row_of_code rows code (Some row) same is)

every_unit_is_short : list_all (λ r. nat_le (length r.unit) 5) unit_rows ≡ true
unfolding unit_rows
every_unit_is_short = refl

-- .. and short
pub unit_is_short : (rows : List Row) (code : ℕ) (row : Row) → map row_parts rows ≡ unit_rows
    → Some row ≡ find (λ r. nat_eq (row_parts r).code code) rows → length row.1.now ≤ 5
unit_is_short rows code row same is =
    leb-true (length row.1.now) 5
    (of_found (λ r. nat_le (length r.unit) 5) every_unit_is_short rows code row same is)

every_unit_is_printable : list_all (λ r. is_unit r.unit) unit_rows ≡ true
unfolding unit_rows
every_unit_is_printable = refl

-- .. and printable
pub unit_is_printable : (rows : List Row) (code : ℕ) (row : Row) → map row_parts rows ≡ unit_rows
    → Some row ≡ find (λ r. nat_eq (row_parts r).code code) rows → IsUnit row.1.now
unit_is_printable rows code row same is =
    unit_text row.1.now (of_found (λ r. is_unit r.unit) every_unit_is_printable rows code row same is)
