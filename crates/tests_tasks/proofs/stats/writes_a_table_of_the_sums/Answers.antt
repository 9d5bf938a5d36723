-- No fact came to the statistics.
use Rattle.std.proofs.Common.{refl}
use Rattle.tests_tasks.proofs.stats.writes_a_table_of_the_sums.Goals as goal

pub write_table-requires : goal.write_table-requires
write_table-requires g c = record { begins = c.in_ok-stats.ensures _ refl }
