use Rattle.std.proofs.Common.{◌≡◌, replicate}
use Rattle.pmb_keys.proofs.vid.same_table.Given as goal

-- the pages so far
abbrev pub invariant-loop : goal.invariant-loop
invariant-loop l = l.tables.items ≡ replicate l.counter l.table
