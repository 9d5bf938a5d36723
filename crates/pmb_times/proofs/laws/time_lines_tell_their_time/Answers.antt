use Rattle.pmb_times.proofs.TimeLines.{told_exactly}
use Rattle.pmb_times.proofs.laws.time_lines_tell_their_time.Goals as goal

pub returns : goal.returns
returns c = told_exactly
