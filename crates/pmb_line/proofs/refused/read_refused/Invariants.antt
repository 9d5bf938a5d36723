use Rattle.std.proofs.Common.{◌≡◌, ◌+◌, List, [], length, map, Bool, true, false, ℕ}
use Rattle.pmb_transaction.specs.Transaction.{part_data}
use Rattle.pmb_transaction.specs.Transaction as says
use Rattle.pmb_line.specs.declared.words.Located.{Located}
use Rattle.pmb_line.specs.machine.Left.{left, end}
use Rattle.pmb_line.specs.machine.Pieces.{RefusesOn}
use Rattle.pmb_line.specs.machine.Reading.{LineStandsAt, refused_next}
use Rattle.pmb_line.proofs.refused.read_refused.Given as goal

-- an address comes, or all has come
abbrev pub invariant-loop-goes_on : goal.invariant-loop-goes_on
invariant-loop-goes_on l = record {
  stands : (all : List Located) → LineStandsAt all (refused_next []) (left l.fn.words)
      → RefusesOn all (says.Refused (record {
        parts = map part_data l.parts.items;
        addr = l.addr;
        sent =
            l.sent.items;
        at_read = l.at_read;
      })) (map part_data l.parts.items) l.goes_on (left l.words);
  ends : end l.words ≡ end l.fn.words;
}

abbrev measure : Bool → List Located → ℕ
measure true left = length left + 1
measure false left = 0

abbrev pub decreases-loop-goes_on : goal.decreases-loop-goes_on
decreases-loop-goes_on l = measure l.goes_on (left l.words)
