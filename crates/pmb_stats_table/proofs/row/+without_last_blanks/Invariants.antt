use Rattle.std.proofs.Common.{length}
use Rattle.pmb_stats_table.proofs.row.+without_last_blanks.Given as goal

-- a shorter text
abbrev pub decreases-without_last_blanks : goal.decreases-without_last_blanks
decreases-without_last_blanks l = length l.text.now
