-- The fields of a line, one by one.
-- The loops over the fields of a line keep what is left of it: these say what a field more changes, and that a line has
-- one field more than bytes at most, so that they can be counted.
use Rattle.std.proofs.Common.{◌≡◌, ℕ, zero, suc, ◌+◌, ◌-◌, ◌<◌, ◌≤◌, ◌==◌, ◌&&◌, Bool, true, false, Option, Some}
use Rattle.std.proofs.Common.{None, List, []}
use Rattle.std.proofs.Common.{◌∷◌, length, refl, sym, ◌∙◌, ap, arith, if◌then◌else◌, ne_eqb, nat_lt}
use Rattle.std.proofs.lemmas.Bool.Decides.{nat_tests}
use Rattle.std.specs.Str.{bytes_eq}
use Rattle.pmb_csv.specs.Columns.{column_of, field, named, needed_place, optional_place}
use Rattle.pmb_csv.specs.Columns.{place_of}
use Rattle.pmb_csv.specs.Columns.{times_named}
use Rattle.pmb_csv.specs.Fields.{Begins, Closed, Place, Plain, Quoted, Record, behind_empty, comma, fields_from}
use Rattle.pmb_csv.specs.Fields.{longer, quote}
use Rattle.pmb_csv.specs.Left.{broken, column_from, column_with, with_field}
use Rattle.pmb_csv.specs.declared.columns.Column.{Column}
use Rattle.pmb_csv.specs.declared.columns.Column.TheVariants.{Absent, At, Unclear}

-- ---- by its place

pub field_behind : (place : ℕ) (text : List ℕ) (r : Record) → 0 < place
    → field place (with_field text r).fields ≡ field (place - 1) r.fields
field_behind zero text r some = absurd (omega arith)
field_behind (suc place) text r some = ap (λ (n : ℕ). field n r.fields) (omega arith)

-- ---- how many

either : (test : Bool) (n : ℕ) (a b : Record) → length a.fields ≤ n → length b.fields ≤ n
    → length (if test then a else b).fields ≤ n
either true n a b h k = h
either false n a b h k = k

longer_length : (byte : ℕ) (fields : List (List ℕ)) (whole : Bool)
    → length (longer byte (record { fields = fields; is_whole = whole })).fields ≡ length fields
longer_length byte [] whole = refl
longer_length byte (f ∷ fields) whole = refl

longer_most : (byte n : ℕ) (r : Record) → length r.fields ≤ n + 1 → length (longer byte r).fields ≤ suc n + 1
longer_most byte n r h = omega (arith, longer_length byte r.fields r.is_whole)

comma_most : (byte n : ℕ) (a b : Record) → length a.fields ≤ n + 1 → length b.fields ≤ suc n + 1
    → length (if byte == comma then behind_empty a else b).fields ≤ suc n + 1
comma_most byte n a b h k = either (byte == comma) (suc n + 1) (behind_empty a) b (omega arith) k

pub most_fields : (place : Place) (line : List ℕ) → length (fields_from place line).fields ≤ length line + 1
most_fields Begins [] = omega arith
most_fields Plain [] = omega arith
most_fields Closed [] = omega arith
most_fields Quoted [] = omega arith
most_fields Begins (byte ∷ line) =
    either (byte == quote) (suc (length line) + 1) (fields_from Quoted line)
    (if byte == comma then behind_empty (fields_from Begins line) else longer byte (fields_from Plain line))
    (omega (arith, most_fields Quoted line))
    (comma_most byte (length line) (fields_from Begins line) (longer byte (fields_from Plain line))
    (most_fields Begins line) (longer_most byte (length line) (fields_from Plain line) (most_fields Plain line)))
most_fields Plain (byte ∷ line) =
    comma_most byte (length line) (fields_from Begins line) (longer byte (fields_from Plain line))
    (most_fields Begins line) (longer_most byte (length line) (fields_from Plain line) (most_fields Plain line))
most_fields Quoted (byte ∷ line) =
    either (byte == quote) (suc (length line) + 1) (fields_from Closed line) (longer byte (fields_from Quoted line))
    (omega (arith, most_fields Closed line))
    (longer_most byte (length line) (fields_from Quoted line) (most_fields Quoted line))
most_fields Closed (byte ∷ line) =
    either (byte == quote) (suc (length line) + 1) (longer byte (fields_from Quoted line))
    (if byte == comma then behind_empty (fields_from Begins line) else broken)
    (longer_most byte (length line) (fields_from Quoted line) (most_fields Quoted line))
    (comma_most byte (length line) (fields_from Begins line) broken (most_fields Begins line) (omega arith))

-- ---- by its name

still_unclear : (place : ℕ) (names : Bool) → column_with Unclear place names ≡ Unclear
still_unclear place true = refl
still_unclear place false = refl

unclear : (name : List ℕ) (place : ℕ) (fields : List (List ℕ)) → column_from name Unclear place fields ≡ Unclear
unclear name place [] = refl
unclear name place (f ∷ fields) =
    ap (λ (column : Column). column_from name column (place + 1) fields) (still_unclear place (bytes_eq f name))
    ∙ unclear name (place + 1) fields

once_if : (name : List ℕ) (at place : ℕ) (fields : List (List ℕ)) (names : Bool)
    → column_from name (At at) (place + 1) fields ≡ named (suc (times_named name fields)) at
    → column_from name (column_with (At at) place names) (place + 1) fields
    ≡ named (suc (if names then suc (times_named name fields) else times_named name fields)) at
once_if name at place fields true later = unclear name (place + 1) fields
once_if name at place fields false later = later

once_more : (name : List ℕ) (at place : ℕ) (fields : List (List ℕ))
    → column_from name (At at) place fields ≡ named (suc (times_named name fields)) at
once_more name at place [] = refl
once_more name at place (f ∷ fields) =
    once_if name at place fields (bytes_eq f name) (once_more name at (place + 1) fields)

absent_if : (name : List ℕ) (place : ℕ) (fields : List (List ℕ)) (names : Bool)
    → column_from name Absent (place + 1) fields ≡ named (times_named name fields) (place + 1 + place_of name fields)
    → column_from name (column_with Absent place names) (place + 1) fields
    ≡ named (if names then suc (times_named name fields) else times_named name fields)
    (place + (if names then 0 else place_of name fields + 1))
absent_if name place fields true later =
    once_more name place (place + 1) fields ∙ ap (named (suc (times_named name fields))) (omega arith)
absent_if name place fields false later = later ∙ ap (named (times_named name fields)) (omega arith)

absent : (name : List ℕ) (place : ℕ) (fields : List (List ℕ))
    → column_from name Absent place fields ≡ named (times_named name fields) (place + place_of name fields)
absent name place [] = refl
absent name place (f ∷ fields) = absent_if name place fields (bytes_eq f name) (absent name (place + 1) fields)

-- where all fields were compared
pub column_is : (name : List ℕ) (r : Record) (column : Column) → r.is_whole ≡ true
    → column_from name Absent 0 r.fields ≡ column → column ≡ column_of name r
column_is name r column whole same =
    sym same ∙ absent name 0 r.fields ∙ ap (named (times_named name r.fields)) (omega arith)
    ∙ ap (λ (w : Bool). if w then named (times_named name r.fields) (place_of name r.fields) else Unclear) (sym whole)

-- ---- columns that are needed, and those that may be missing

abbrev pub needed_by : Column → Option ℕ
needed_by (At place) = Some place
needed_by Absent = None
needed_by Unclear = None

abbrev pub optional_by : Column → Option (Option ℕ)
optional_by (At place) = Some (Some place)
optional_by Absent = Some None
optional_by Unclear = None

several : (n : ℕ) → (suc (suc n) == 1) ≡ false
several n = ne_eqb (suc (suc n)) 1 (λ is. omega (arith, is))

several_lt : (n : ℕ) → nat_lt (suc (suc n)) 2 ≡ false
several_lt n = grind (arith, nat_tests)

needed_if : (whole : Bool) (times place : ℕ) → needed_by (if whole then named times place else Unclear)
    ≡ (if whole && (times == 1) then Some place else None)
needed_if false times place = refl
needed_if true zero place = refl
needed_if true (suc zero) place = refl
needed_if true (suc (suc n)) place = simp (several n)

optional_if : (whole : Bool) (times place : ℕ) → optional_by (if whole then named times place else Unclear)
    ≡ (if whole && nat_lt times 2 then Some (if times == 0 then None else Some place) else None)
optional_if false times place = refl
optional_if true zero place = refl
optional_if true (suc zero) place = refl
optional_if true (suc (suc n)) place = simp (several_lt n)

pub needed_is : (name : List ℕ) (r : Record) → needed_by (column_of name r) ≡ needed_place name r
needed_is name r = needed_if r.is_whole (times_named name r.fields) (place_of name r.fields)

pub optional_is : (name : List ℕ) (r : Record) → optional_by (column_of name r) ≡ optional_place name r
optional_is name r = optional_if r.is_whole (times_named name r.fields) (place_of name r.fields)
