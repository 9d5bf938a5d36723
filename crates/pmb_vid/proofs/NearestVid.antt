-- The nearest of all codes is a table's nearest code, where the quantity is in the table's range: for
-- `encode`. A code before the first one is farther than some code of the table, which lies between
-- it and the quantity; and among fewer codes the nearest stays nearest.
use Rattle.std.proofs.Common.{ℕ, ◌<◌, ◌≤◌, inl, inr, ℤ, ◌-ℤ◌, ◌<ℤ◌, ◌≤ℤ◌, unsigned_abs, arith}
use Rattle.std.proofs.lemmas.Int.{ints}
use Rattle.std.proofs.lemmas.Bool.{cases_lt}
use Rattle.pmb_quantity.specs.Fraction.{Fraction}
use Rattle.pmb_format.specs.Coding.{IsNearest, IsInRange, scaled, scaled_code, distance}
use Rattle.pmb_format.proofs.Nearest.{scale_lt}
use Rattle.pmb_vid.specs.declared.table.VidTable.{VidTable}
use Rattle.pmb_vid.specs.Vid.{first_code, numerator, vid}
use Rattle.pmb_vid.specs.machine.AllCodes.{all_codes}
use Rattle.pmb_vid.proofs.Tables.{rise_or_fall}

-- a number between the quantity and another is nearer
nearer_above : (a x z : ℤ) → z <ℤ x → x ≤ℤ a → unsigned_abs (a -ℤ x) < unsigned_abs (a -ℤ z)
nearer_above a x z low order = grind (arith, ints)

nearer_below : (a x z : ℤ) → x <ℤ z → a ≤ℤ x → unsigned_abs (a -ℤ x) < unsigned_abs (a -ℤ z)
nearer_below a x z high order = grind (arith, ints)

-- a table's range is within that of all codes
pub in_range_of_all : (table : VidTable) (q : Fraction) → IsInRange (vid table) q → IsInRange (all_codes table) q
in_range_of_all table q range =
    let least = range.from_least in
    let greatest = range.to_greatest in
    record {
      from_least = (least.0, least.1.1, least.2);
      to_greatest = (greatest.0, greatest.1.1, greatest.2);
    }

module _ (table : VidTable) (q : Fraction) (positive : 0 < q.denominator) (range : IsInRange (vid table) q) where
  -- a code before the first is farther than some code of the table
  some_nearer : (c : ℕ) → c < first_code table
      → (k : ℕ) × (vid table).IsCode k × (distance (vid table) q k < distance (vid table) q c)
  some_nearer c before =
      elim (rise_or_fall table) [
        | inl rise ↦
            let least = range.from_least in
            let order = rise c least.0 (omega (arith, before, least.1.0)) in (
              least.0,
              least.1,
              nearer_above (scaled (vid table) q) (scaled_code (vid table) q least.0) (scaled_code (vid table) q c)
                  (scale_lt q.denominator (numerator table c) (numerator table least.0) positive order)
                  least.2,
            )
        | inr fall ↦
            let greatest = range.to_greatest in
            let order = fall c greatest.0 (omega (arith, before, greatest.1.0)) in (
              greatest.0,
              greatest.1,
              nearer_below (scaled (vid table) q) (scaled_code (vid table) q greatest.0)
                  (scaled_code (vid table) q c)
                  (scale_lt q.denominator (numerator table greatest.0) (numerator table c) positive order)
                  greatest.2,
            )
      ]

  from_first : (c : ℕ) → IsNearest (all_codes table) q c → first_code table ≤ c
  from_first c nearest =
      elim (cases_lt c (first_code table)) [
        | inl before ↦
            let nearer = some_nearer c before in
            absurd (omega (arith, nearer.2, nearest.none_nearer nearer.0 nearer.1.1))
        | inr inside ↦ inside
      ]

  pub nearest_of_all : (c : ℕ) → IsNearest (all_codes table) q c → IsNearest (vid table) q c
  nearest_of_all c nearest = record {
    is_code = (from_first c nearest, nearest.is_code);
    canonical = tt;
    none_nearer = λ k code. nearest.none_nearer k code.1;
    even_at_tie = λ k code other tie. nearest.even_at_tie k code.1 other tie;
  }
