use Rattle.std.proofs.Common.{true}
use Rattle.pmb_files.proofs.Joining.{starts_after_last}
use Rattle.pmb_files.proofs.head.starts_line.Goals as goal

-- The last byte says it.
pub returns-in-len1-up : goal.returns-in-len1-up
returns-in-len1-up c = starts_after_last c.args.text.now true c.in-len1-up.len_at_least
