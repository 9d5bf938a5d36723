use Rattle.std.proofs.Common.{◌≡◌, ◌+◌, ◌++◌, length}
use Rattle.pmb_progress.specs.Over.{blanks}
use Rattle.pmb_progress.proofs.number.append_blanks.Given as goal

-- as many blanks as turns
abbrev pub invariant-loop : goal.invariant-loop
invariant-loop g l = record {
  text : l.out.items ≡ l.fn.out.items ++ blanks l.counter;
  len : length l.out.items ≡ length l.fn.out.items + l.counter;
}
