-- What the rows of the code's table say of the standard commands: for `standard` and `by_name`. A
-- row that is found by its code or its name is the standard's entry, since the rows are its
-- entries one by one.
use Rattle.std.proofs.Common.{◌≡◌, ℕ, nat_eq, Option, Some, None, List, map, refl, sym, ap, ◌∙◌}
use Rattle.std.specs.Prelude.{find, option_map}
use Rattle.std.specs.Str.{bytes_eq}
use Rattle.pmb_command.specs.declared.commands.Row.{Row}
use Rattle.pmb_command.specs.Commands.{code_of_name, standard_entries, standard_entry}
use Rattle.pmb_command.specs.machine.Rows.{row_parts}
use Rattle.pmb_command.proofs.Finding.{find-map}
use Rattle.pmb_command.proofs.StandardLemmas.{code_by_table}

-- the row that has a code is its standard entry
pub row_of_code : (rows : List Row) (code : ℕ) (found : Option Row) → map row_parts rows ≡ standard_entries
    → found ≡ find (λ r. nat_eq (row_parts r).code code) rows → standard_entry code ≡ option_map row_parts found
unfolding standard_entry
row_of_code rows code found same is =
    ap (find (λ e. nat_eq e.code code)) (sym same) ∙ find-map row_parts (λ e. nat_eq e.code code) rows
    ∙ ap (option_map row_parts) (sym is)

-- the code of a row that may be there
code_of_row : (found : Option Row) → option_map (λ e. e.code) (option_map row_parts found)
    ≡ option_map (λ r. (row_parts r).code) found
code_of_row None = refl
code_of_row (Some row) = refl

-- the first row that has a name has its code
pub row_of_name : (rows : List Row) (name : List ℕ) (found : Option Row) → map row_parts rows ≡ standard_entries
    → found ≡ find (λ r. bytes_eq (row_parts r).name name) rows
    → code_of_name name ≡ option_map (λ r. (row_parts r).code) found
row_of_name rows name found same is =
    code_by_table name
    ∙ ap (λ es. option_map (λ e. e.code) (find (λ e. bytes_eq e.name name) es)) (sym same)
    ∙ ap (option_map (λ e. e.code)) (find-map row_parts (λ e. bytes_eq e.name name) rows)
    ∙ ap (λ o. option_map (λ e. e.code) (option_map row_parts o)) (sym is)
    ∙ code_of_row found
