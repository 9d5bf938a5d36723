use Rattle.std.proofs.Common.{◌≡◌, ◌+◌, ◌++◌, length, replicate}
use Rattle.pmb_corrections.specs.Marked.{blank}
use Rattle.pmb_corrections.proofs.caret.append_blanks.Given as goal

-- as many blanks as turns
abbrev pub invariant-loop : goal.invariant-loop
invariant-loop l = record {
  text : l.text.items ≡ l.fn.text.items ++ replicate l.counter blank;
  len : length l.text.items ≡ length l.fn.text.items + l.counter;
}
