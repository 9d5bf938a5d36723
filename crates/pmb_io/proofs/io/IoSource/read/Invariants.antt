use Rattle.std.proofs.Common.{◌≡◌}
use Rattle.std.specs.Io.KnownBytes.{Keeps}
use Rattle.pmb_io.proofs.io.IoSource.read.Given as goal

-- every read so far was interrupted, and changed nothing
abbrev pub invariant-loop : goal.invariant-loop
invariant-loop g l = record {
  kept : Keeps (g.T.Read.remaining l.fn.self.inner) (g.T.Read.remaining l.self.inner);
  given : l.self.given ≡ l.fn.self.given;
  reads : l.self.reads ≡ l.fn.self.reads;
  failures : l.self.failures ≡ l.fn.self.failures;
  ended : l.self.ended ≡ l.fn.self.ended;
}
