use Rattle.std.proofs.Common.{map, take}
use Rattle.std.specs.List.{All}
use Rattle.pmb_files.specs.Program.{MayBeFine}
use Rattle.pmb_files.proofs.program.look_at.Given as goal

-- the files so far may be fine
abbrev pub invariant-loop-name : goal.invariant-loop-name
invariant-loop-name g l =
    All (λ name. MayBeFine (g.F.Opener.known l.files name)) (map (λ name. name.now) (take l.name-index l.names))
