use Rattle.std.proofs.Common.{◌-◌, length}
use Rattle.std.specs.Io.KnownBytes.{Consumes}
use Rattle.pmb_files.proofs.head.read_text.Given as goal

-- the bytes are what was read
abbrev pub invariant-loop-piece : goal.invariant-loop-piece
invariant-loop-piece g l =
    Consumes (g.R.Source.told l.initial.reader).left (g.R.Source.told l.reader).left l.bytes.items

-- each read gives a byte or more
abbrev pub decreases-loop-piece : goal.decreases-loop-piece
decreases-loop-piece g l = 1048581 - length l.bytes.items
