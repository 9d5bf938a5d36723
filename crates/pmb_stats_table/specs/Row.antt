-- Lines of the table, and headings.
use Rattle.std.specs.Prelude.{ℕ, ◌==◌, if◌then◌else◌, List, [], ◌∷◌, ◌++◌, codes}
use Rattle.std.specs.List.{flat_map}
use Rattle.pmb_json_text.specs.declared.item_order.ItemOrder.{ItemOrder}
use Rattle.pmb_json_text.specs.declared.item_order.ItemOrder.TheVariants.{First, Later}
use Rattle.pmb_log_lines.specs.Columns.{gap}

-- ---- texts in a line

abbrev pub after_gap : List ℕ → List ℕ
after_gap text = gap ++ text

-- each after two blanks
abbrev pub after_gaps : List (List ℕ) → List ℕ
after_gaps texts = flat_map after_gap texts

-- a byte before what is left of the text after it: a blank before nothing is nothing
abbrev pub before_rest : ℕ → List ℕ → List ℕ
before_rest byte [] = if byte == 0x20 then [] else byte ∷ []
before_rest byte (next ∷ rest) = byte ∷ next ∷ rest

-- blanks at the end of a text are left out
unfoldable pub without_last_blanks : List ℕ → List ℕ
without_last_blanks [] = []
without_last_blanks (byte ∷ text) = before_rest byte (without_last_blanks text)

-- cells, which have the widths of their columns, each after two blanks
abbrev pub row : List (List ℕ) → List ℕ
row cells = without_last_blanks (after_gaps cells) ++ codes "\n"

-- ---- headings

-- lines, each of one of some values, with a heading before the first of all
abbrev pub headed : {A : Type 0} → List ℕ → (A → List ℕ) → ItemOrder → List A → List ℕ
headed heading line First [] = []
headed heading line First (value ∷ values) = heading ++ flat_map line (value ∷ values)
headed heading line Later values = flat_map line values
