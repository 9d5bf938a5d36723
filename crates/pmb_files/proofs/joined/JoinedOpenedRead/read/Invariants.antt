use Rattle.std.proofs.Common.{◌<◌, length}
use Rattle.std.specs.Io.KnownBytes.{Keeps}
use Rattle.pmb_files.specs.Joined.{joined_left}
use Rattle.pmb_files.proofs.joined.JoinedOpenedRead.read.Given as goal

-- nothing was given yet
abbrev pub invariant-loop-count : goal.invariant-loop-count
invariant-loop-count g l =
    Keeps (joined_left g.F.Opener.known g.F.Opened.Read.remaining l.initial.self)
    (joined_left g.F.Opener.known g.F.Opened.Read.remaining l.self) × (0 < length l.buffer)

-- each file is opened once
abbrev pub decreases-loop-count : goal.decreases-loop-count
decreases-loop-count g l = length l.self.names.now
