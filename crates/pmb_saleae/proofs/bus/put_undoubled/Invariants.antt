use Rattle.std.proofs.Common.{◌≡◌, ◌++◌, length}
use Rattle.pmb_csv.specs.Left.{undoubled, undoubled_from}
use Rattle.pmb_saleae.proofs.bus.put_undoubled.Given as goal

-- what is put out, and what is left, make the text
abbrev pub invariant-loop-left : goal.invariant-loop-left
invariant-loop-left l = l.name.items ++ undoubled_from l.was_quote l.left ≡ undoubled l.fn.raw

abbrev pub decreases-loop-left : goal.decreases-loop-left
decreases-loop-left l = length l.left
