-- No fact came to the statistics.
use Rattle.std.proofs.Common.{refl}
use Rattle.tests_tasks.proofs.stats.writes_objects_of_the_sums.Goals as goal

pub write_objects-requires : goal.write_objects-requires
write_objects-requires g c = record { begins = c.in_ok-stats.ensures _ refl }
