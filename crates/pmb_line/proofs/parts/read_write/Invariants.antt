use Rattle.std.proofs.Common.{◌≡◌, ◌+◌, ◌≤◌, List, length, map, take, Bool, true, false, ℕ, []}
use Rattle.pmb_transaction.specs.Transaction.{part_data}
use Rattle.pmb_line.specs.declared.words.Located.{Located}
use Rattle.pmb_line.specs.machine.Left.{left, end}
use Rattle.pmb_line.specs.machine.Pieces.{WritesOn}
use Rattle.pmb_line.specs.machine.Reading.{LineStandsAt, write_next}
use Rattle.pmb_line.proofs.parts.read_write.Given as goal

-- a part comes, or all of them have come
abbrev pub invariant-loop-goes_on : goal.invariant-loop-goes_on
invariant-loop-goes_on l = record {
  stands : (all : List Located) → LineStandsAt all (write_next []) (left l.fn.words)
      → WritesOn all (map part_data (take l.count l.parts.items)) l.goes_on (left l.words);
  there : l.count ≤ length l.parts.items;
  few : l.count ≤ 16;
  ends : end l.words ≡ end l.fn.words;
}

abbrev measure : Bool → List Located → ℕ
measure true left = length left + 1
measure false left = 0

abbrev pub decreases-loop-goes_on : goal.decreases-loop-goes_on
decreases-loop-goes_on l = measure l.goes_on (left l.words)
