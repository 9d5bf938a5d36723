-- How long fields are.
-- A field is not longer than its line, so that the name of an analyzer and a time have room where they are kept.
use Rattle.std.proofs.Common.{ℕ, zero, suc, ◌≤◌, ◌==◌, Bool, true, false, Option, Some, None, List, []}
use Rattle.std.proofs.Common.{◌∷◌, length, arith, if◌then◌else◌}
use Rattle.pmb_csv.specs.Columns.{field, or_none, value}
use Rattle.pmb_csv.specs.Fields.{Begins, Closed, Place, Plain, Quoted, Record, behind_empty, comma, fields_from, longer}
use Rattle.pmb_csv.specs.Fields.{longer_first, quote, record_of}
use Rattle.pmb_saleae.specs.Row.{value_if}

-- the field at a place has so many bytes at most
abbrev Short : ℕ → ℕ → List (List ℕ) → Type 0
Short k n fields = length (or_none (field k fields)) ≤ n

longer_short : (k byte n : ℕ) (fields : List (List ℕ)) → Short k n fields → Short k (suc n) (longer_first byte fields)
longer_short k byte n [] short = omega arith
longer_short zero byte n (f ∷ fields) short = omega arith
longer_short (suc k) byte n (f ∷ fields) short = omega arith

behind_short : (k n : ℕ) (fields : List (List ℕ)) → ((j : ℕ) → Short j n fields) → Short k (suc n) ([] ∷ fields)
behind_short zero n fields short = omega arith
behind_short (suc k) n fields short = omega (arith, short k)

either : (test : Bool) (k n : ℕ) (a b : Record) → Short k n a.fields → Short k n b.fields
    → Short k n (if test then a else b).fields
either true k n a b h g = h
either false k n a b h g = g

more : (k n : ℕ) (fields : List (List ℕ)) → Short k n fields → Short k (suc n) fields
more k n fields short = omega arith

none : (k n : ℕ) → Short k n []
none k n = omega arith

short_field : (at : Place) (line : List ℕ) (k : ℕ) → Short k (length line) (fields_from at line).fields
short_field Begins [] zero = omega arith
short_field Begins [] (suc k) = omega arith
short_field Plain [] zero = omega arith
short_field Plain [] (suc k) = omega arith
short_field Closed [] zero = omega arith
short_field Closed [] (suc k) = omega arith
short_field Quoted [] k = omega arith
short_field Begins (byte ∷ line) k =
    let n = length line in
    either (byte == quote) k (suc n) (fields_from Quoted line)
    (if byte == comma then behind_empty (fields_from Begins line) else longer byte (fields_from Plain line))
    (more k n (fields_from Quoted line).fields (short_field Quoted line k))
    (either (byte == comma) k (suc n) (behind_empty (fields_from Begins line)) (longer byte (fields_from Plain line))
    (behind_short k n (fields_from Begins line).fields (short_field Begins line))
    (longer_short k byte n (fields_from Plain line).fields (short_field Plain line k)))
short_field Plain (byte ∷ line) k =
    let n = length line in
    either (byte == comma) k (suc n) (behind_empty (fields_from Begins line)) (longer byte (fields_from Plain line))
    (behind_short k n (fields_from Begins line).fields (short_field Begins line))
    (longer_short k byte n (fields_from Plain line).fields (short_field Plain line k))
short_field Quoted (byte ∷ line) k =
    let n = length line in
    either (byte == quote) k (suc n) (fields_from Closed line) (longer byte (fields_from Quoted line))
    (more k n (fields_from Closed line).fields (short_field Closed line k))
    (longer_short k byte n (fields_from Quoted line).fields (short_field Quoted line k))
short_field Closed (byte ∷ line) k =
    let n = length line in
    let broken : Record = record { fields = []; is_whole = false } in
    either (byte == quote) k (suc n) (longer byte (fields_from Quoted line))
    (if byte == comma then behind_empty (fields_from Begins line) else broken)
    (longer_short k byte n (fields_from Quoted line).fields (short_field Quoted line k))
    (either (byte == comma) k (suc n) (behind_empty (fields_from Begins line)) broken
    (behind_short k n (fields_from Begins line).fields (short_field Begins line)) (none k (suc n)))

-- a value, as the analyzer's name
pub short_value : (place : ℕ) (line : List ℕ) → length (value place (record_of line)) ≤ length line
short_value place line = short_field Begins line place

pub short_value_if : (place : Option ℕ) (line : List ℕ) → length (value_if place (record_of line)) ≤ length line
short_value_if (Some place) line = short_value place line
short_value_if None line = omega arith
