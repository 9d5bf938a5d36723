-- A line has one field more than bytes at most, so that they can be counted.
use Rattle.std.proofs.Common.{◌≡◌, ℕ, suc, ◌+◌, ◌≤◌, ◌==◌, Bool, true, false, List, [], ◌∷◌, length, refl, arith}
use Rattle.std.proofs.Common.{if◌then◌else◌}
use Rattle.pmb_sample_fields.specs.Fields.{Begins, Behind, Closed, Place, Plain, Quoted, Record, broken, ends}
use Rattle.pmb_sample_fields.specs.Fields.{fields_from, is_blank, longer, quote, with_field}

either : (test : Bool) (n : ℕ) (a b : Record) → length a.fields ≤ n → length b.fields ≤ n
    → length (if test then a else b).fields ≤ n
either true n a b h k = h
either false n a b h k = k

longer_length : (byte : ℕ) (fields : List (List ℕ)) (whole : Bool)
    → length (longer byte (record { fields = fields; is_whole = whole })).fields ≡ length fields
longer_length byte [] whole = refl
longer_length byte (f ∷ fields) whole = refl

longer_most : (byte n : ℕ) (r : Record) → length r.fields ≤ n + 1 → length (longer byte r).fields ≤ suc n + 1
longer_most byte n r h = omega (arith, longer_length byte r.fields r.is_whole)

more : (n : ℕ) (r : Record) → length r.fields ≤ n + 1 → length r.fields ≤ suc n + 1
more n r h = omega arith

-- behind the end of a field
end_most : (test : Bool) (n : ℕ) (a b : Record) → length a.fields ≤ n + 1 → length b.fields ≤ suc n + 1
    → length (if test then with_field [] a else b).fields ≤ suc n + 1
end_most test n a b h k = either test (suc n + 1) (with_field [] a) b (omega arith) k

pub most_fields : (mark : ℕ) (place : Place) (line : List ℕ)
    → length (fields_from mark place line).fields ≤ length line + 1
most_fields mark Begins [] = omega arith
most_fields mark Plain [] = omega arith
most_fields mark Quoted [] = omega arith
most_fields mark Closed [] = omega arith
most_fields mark Behind [] = omega arith
most_fields mark Begins (byte ∷ line) =
    let n = length line in
    let plain = longer byte (fields_from mark Plain line) in
    let skipped = if is_blank byte then fields_from mark Begins line else plain in
    either (byte == quote) (suc n + 1) (fields_from mark Quoted line)
    (if ends mark byte then with_field [] (fields_from mark Begins line) else skipped)
    (more n (fields_from mark Quoted line) (most_fields mark Quoted line))
    (end_most (ends mark byte) n (fields_from mark Begins line) skipped (most_fields mark Begins line)
    (either (is_blank byte) (suc n + 1) (fields_from mark Begins line) plain
    (more n (fields_from mark Begins line) (most_fields mark Begins line))
    (longer_most byte n (fields_from mark Plain line) (most_fields mark Plain line))))
most_fields mark Plain (byte ∷ line) =
    let n = length line in
    end_most (ends mark byte) n (fields_from mark Begins line) (longer byte (fields_from mark Plain line))
    (most_fields mark Begins line) (longer_most byte n (fields_from mark Plain line) (most_fields mark Plain line))
most_fields mark Quoted (byte ∷ line) =
    let n = length line in
    either (byte == quote) (suc n + 1) (fields_from mark Closed line) (longer byte (fields_from mark Quoted line))
    (more n (fields_from mark Closed line) (most_fields mark Closed line))
    (longer_most byte n (fields_from mark Quoted line) (most_fields mark Quoted line))
most_fields mark Closed (byte ∷ line) =
    let n = length line in
    let skipped = if is_blank byte then fields_from mark Behind line else broken in
    either (byte == quote) (suc n + 1) (longer byte (fields_from mark Quoted line))
    (if ends mark byte then with_field [] (fields_from mark Begins line) else skipped)
    (longer_most byte n (fields_from mark Quoted line) (most_fields mark Quoted line))
    (end_most (ends mark byte) n (fields_from mark Begins line) skipped (most_fields mark Begins line)
    (either (is_blank byte) (suc n + 1) (fields_from mark Behind line) broken
    (more n (fields_from mark Behind line) (most_fields mark Behind line)) (omega arith)))
most_fields mark Behind (byte ∷ line) =
    let n = length line in
    let skipped = if is_blank byte then fields_from mark Behind line else broken in
    end_most (ends mark byte) n (fields_from mark Begins line) skipped (most_fields mark Begins line)
    (either (is_blank byte) (suc n + 1) (fields_from mark Behind line) broken
    (more n (fields_from mark Behind line) (most_fields mark Behind line)) (omega arith))
