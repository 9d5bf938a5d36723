-- No fact came to the statistics.
use Rattle.std.proofs.Common.{refl}
use Rattle.tests_tasks.proofs.stats.says_that_it_could_not_write.Goals as goal

pub write_table-told-requires : goal.write_table-told-requires
write_table-told-requires g c = record { begins = c.in_ok-stats.ensures _ refl }
