use Rattle.std.proofs.Common.{◌≡◌, ◌+◌, ◌++◌, length, replicate}
use Rattle.pmb_profile_text.specs.Table.{space}
use Rattle.pmb_profile_text.proofs.row.append_spaces.Given as goal

-- as many spaces as turns
abbrev pub invariant-loop : goal.invariant-loop
invariant-loop l = record {
  text : l.row.items ≡ l.fn.row.items ++ replicate l.counter space;
  len : length l.row.items ≡ length l.fn.row.items + l.counter;
}
