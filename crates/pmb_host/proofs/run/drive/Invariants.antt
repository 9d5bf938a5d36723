use Rattle.pmb_host.specs.Host.{HostStandsAt, Job}
use Rattle.pmb_host.specs.Run.{beginning}
use Rattle.pmb_host.proofs.Runs.{IsUnderWay}
use Rattle.pmb_host.proofs.run.drive.Given as goal

-- a new host is under way
abbrev pub invariant-loop : goal.invariant-loop
invariant-loop g l = (job : Job) → HostStandsAt l.fn.host (beginning job)
    → IsUnderWay job l.host l.answer l.counter (g.W.Wire.StandsAt l.fn.wire) (g.W.Wire.StandsAt l.wire)
