use Rattle.std.proofs.Common.{◌≡◌, ◌+◌, ◌*◌, ◌^◌, ◌<◌, ◌≤◌, ℕ, List, ◌++◌, length}
use Rattle.pmb_quantity.specs.QuantityText.{padded}
use Rattle.pmb_quantity.proofs.text.push_halves.Given as goal

pub record Halved (written whole : List ℕ) (places left : ℕ) : Type 0 where
  pub is : written ++ padded places (left * 5 ^ places) ≡ whole
  pub below : left < 2 ^ places
  pub few : places ≤ 24
  pub room : length written + places ≤ 45

abbrev pub invariant-loop-places : goal.invariant-loop-places
invariant-loop-places l = Halved l.text.bytes (l.fn.text.bytes ++ padded l.fn.places (l.fn.numerator * 5 ^ l.fn.places))
    l.places l.left

abbrev pub decreases-loop-places : goal.decreases-loop-places
decreases-loop-places l = l.places
