use Rattle.std.proofs.Common.{◌≡◌}
use Rattle.pmb_io.proofs.Writing.{WritesUpTo}
use Rattle.pmb_io.proofs.io.IoSink.write_all.Given as goal

-- a front of the bytes went out, and no call has failed
abbrev pub invariant-loop : goal.invariant-loop
invariant-loop g l = record {
  failures : l.self.failures ≡ l.fn.self.failures;
  idle : l.self.idle ≡ l.fn.self.idle;
  so_far : WritesUpTo (g.T.Write.contents l.fn.self.inner) (g.T.Write.contents l.self.inner) l.fn.bytes l.rest;
}
