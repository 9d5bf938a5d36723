use Rattle.std.proofs.Common.{ap}
use Rattle.pmb_files.proofs.Joining.{starts_after_last}
use Rattle.pmb_files.proofs.joined.Joined+F+F+Opened.note.Goals as goal

-- The last byte says it.
pub returns-in-len1-up : goal.returns-in-len1-up
returns-in-len1-up g c =
    ap (λ starts. record c.args.self.now { starts_line = starts })
    (starts_after_last c.args.bytes.now c.args.self.now.starts_line c.in-len1-up.len_at_least)
