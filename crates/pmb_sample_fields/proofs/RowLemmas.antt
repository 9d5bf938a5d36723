-- A row field by field, beside its fields as a list.
use Rattle.std.proofs.Common.{◌≡◌, ◌<◌, ℕ, zero, suc, ◌+◌, ◌==◌, Bool, true, false, not, Option, Some, None}
use Rattle.std.proofs.Common.{List, [], ◌∷◌, length, map, ap, sym, ◌∙◌, refl, arith, if◌then◌else◌, eq-eqb, ne_eqb, option_map}
use Rattle.pmb_sample_fields.specs.Fields.{comma, fields_of, record_of, trimmed, with_first_field, without_last_empty}
use Rattle.pmb_sample_fields.specs.Row.{RowText, has_quote, plain_of, row_of, value}
use Rattle.pmb_sample_fields.specs.declared.row.Columns.{Columns}
use Rattle.pmb_sample_fields.specs.machine.Columns.{column_from, count_from, count_with, is_used}
use Rattle.pmb_sample_fields.specs.machine.Left.{used_with}
use Rattle.pmb_sample_fields.proofs.WalkLemmas.{not_zero}

-- ---- what stands in a column

passed : (column place : ℕ) (text : Option (List ℕ)) (fields : List (List ℕ)) → column < place
    → column_from column text place fields ≡ text
passed column place text [] less = refl
passed column place text (field ∷ fields) less =
    let other : (place == column) ≡ false = ne_eqb place column (λ is. omega (arith, is, less)) in
    ap (λ (b : Bool). column_from column (if b then plain_of field else text) (place + 1) fields) other
    ∙ passed column (place + 1) text fields (omega arith)

in_column : (column place more : ℕ) (fields : List (List ℕ)) → column ≡ place + more
    → column_from column (Some []) place fields ≡ plain_of (value more fields)
in_column column place more [] is = refl
in_column column place zero (field ∷ fields) is =
    let here : (place == column) ≡ true = eq-eqb place column (omega (arith, is)) in
    ap (λ (b : Bool). column_from column (if b then plain_of field else Some []) (place + 1) fields) here
    ∙ passed column (place + 1) (plain_of field) fields (omega (arith, is))
in_column column place (suc more) (field ∷ fields) is =
    let other : (place == column) ≡ false = ne_eqb place column (λ same. omega (arith, is, same)) in
    ap (λ (b : Bool). column_from column (if b then plain_of field else Some []) (place + 1) fields) other
    ∙ in_column column (place + 1) more fields (omega (arith, is))

value_with : (place : ℕ) (field : List ℕ) (fields : List (List ℕ))
    → value place (with_first_field field fields) ≡ value place (field ∷ fields)
value_with zero [] [] = refl
value_with (suc place) [] [] = refl
value_with zero (byte ∷ field) [] = refl
value_with (suc place) (byte ∷ field) [] = refl
value_with zero [] (next ∷ fields) = refl
value_with (suc place) [] (next ∷ fields) = refl
value_with zero (byte ∷ field) (next ∷ fields) = refl
value_with (suc place) (byte ∷ field) (next ∷ fields) = refl

-- Empty fields at the end have nothing, as those behind them.
value_of_used : (place : ℕ) (fields : List (List ℕ)) → value place (without_last_empty fields) ≡ value place fields
value_of_used place [] = refl
value_of_used zero (field ∷ fields) = value_with zero field (without_last_empty fields)
value_of_used (suc place) (field ∷ fields) =
    value_with (suc place) field (without_last_empty fields) ∙ value_of_used place fields

pub column_is : (column : ℕ) (fields : List (List ℕ))
    → column_from column (Some []) 0 fields ≡ plain_of (value column (without_last_empty fields))
column_is column fields =
    in_column column 0 column fields (omega arith) ∙ ap plain_of (sym (value_of_used column fields))

-- ---- how many fields there are

abbrev has_bytes : List ℕ → Bool
has_bytes [] = false
has_bytes (byte ∷ text) = true

used_if : (has : Bool) (byte : ℕ) (text : List ℕ)
    → is_used (if has then None else Some (byte ∷ text)) ≡ true
used_if true byte text = refl
used_if false byte text = ap not (not_zero (length text))

used_is : (field : List ℕ) → is_used (plain_of field) ≡ has_bytes field
used_is [] = refl
used_is (byte ∷ text) = used_if (has_quote (byte ∷ text)) byte text

more_behind : (a b place more : ℕ) → used_with a (place + 1) (suc more) ≡ used_with b place (suc (suc more))
more_behind a b place more =
    ap (λ (z : Bool). if z then a else place + 1 + suc more) (not_zero more)
    ∙ (let e : place + 1 + suc more ≡ place + suc (suc more) = omega arith in e)
    ∙ sym (ap (λ (z : Bool). if z then b else place + suc (suc more)) (not_zero (suc more)))

none_used : (more : ℕ) → used_with 0 0 more ≡ more
none_used zero = refl
none_used (suc more) =
    ap (λ (z : Bool). if z then 0 else 0 + suc more) (not_zero more) ∙ (let e : 0 + suc more ≡ suc more = omega arith in e)

-- one field more in front
more_used : (count place : ℕ) (field : List ℕ) (rest : List (List ℕ))
    → used_with (count_with count place (has_bytes field)) (place + 1) (length rest)
    ≡ used_with count place (length (with_first_field field rest))
more_used count place [] [] = refl
more_used count place (byte ∷ field) [] = refl
more_used count place [] (next ∷ rest) = more_behind count count place (length rest)
more_used count place (byte ∷ field) (next ∷ rest) = more_behind (place + 1) count place (length rest)

pub counted : (count place : ℕ) (fields : List (List ℕ))
    → count_from count place fields ≡ used_with count place (length (without_last_empty fields))
counted count place [] = refl
counted count place (field ∷ fields) =
    ap (λ (b : Bool). count_from (count_with count place b) (place + 1) fields) (used_is field)
    ∙ counted (count_with count place (has_bytes field)) (place + 1) fields
    ∙ more_used count place field (without_last_empty fields)

pub count_is : (fields : List (List ℕ)) → count_from 0 0 fields ≡ length (without_last_empty fields)
count_is fields = counted 0 0 fields ∙ none_used (length (without_last_empty fields))

-- ---- a line whose fields were all taken

abbrev pub row_at : ℕ → Option (List ℕ) → Option (List ℕ) → Option (List ℕ) → RowText
row_at count scl sda time = record { count = count; scl = scl; sda = sda; time = time }

pub ends_row : (columns : Columns) (raw : List (List ℕ)) (count : ℕ) (scl sda time : Option (List ℕ))
    → count_from 0 0 (map trimmed raw) ≡ count → column_from columns.scl (Some []) 0 (map trimmed raw) ≡ scl
    → column_from columns.sda (Some []) 0 (map trimmed raw) ≡ sda
    → column_from columns.time (Some []) 0 (map trimmed raw) ≡ time
    → row_at count scl sda time ≡ row_of columns (without_last_empty (map trimmed raw))
ends_row columns raw count scl sda time counts first second third =
    let fields = map trimmed raw in
    let used = without_last_empty fields in
    ap (λ (n : ℕ). row_at n scl sda time) (sym counts ∙ count_is fields)
    ∙ ap (λ (t : Option (List ℕ)). row_at (length used) t sda time) (sym first ∙ column_is columns.scl fields)
    ∙ ap (λ (t : Option (List ℕ)). row_at (length used) (plain_of (value columns.scl used)) t time)
    (sym second ∙ column_is columns.sda fields)
    ∙ ap (λ (t : Option (List ℕ)).
    row_at (length used) (plain_of (value columns.scl used)) (plain_of (value columns.sda used)) t)
    (sym third ∙ column_is columns.time fields)

pub whole_row : (columns : Columns) (line : List ℕ) (row : RowText) → (record_of comma line).is_whole ≡ true
    → row ≡ row_of columns (without_last_empty (map trimmed (record_of comma line).fields))
    → Some row ≡ option_map (row_of columns) (fields_of comma line)
whole_row columns line row whole is =
    let used = without_last_empty (map trimmed (record_of comma line).fields) in
    ap Some is ∙ sym (ap (λ (w : Bool). option_map (row_of columns) (if w then Some used else None)) whole)

pub broken_row : (columns : Columns) (line : List ℕ) → (record_of comma line).is_whole ≡ false
    → None ≡ option_map (row_of columns) (fields_of comma line)
broken_row columns line broken =
    let used = without_last_empty (map trimmed (record_of comma line).fields) in
    sym (ap (λ (w : Bool). option_map (row_of columns) (if w then Some used else None)) broken)
