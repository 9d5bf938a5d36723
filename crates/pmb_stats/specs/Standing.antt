-- What statistics were given: `StatsStand stats setting facts` says that they were made for the profile of a
-- setting, and were given these facts since. What that says of their own fields is in `machine`, and nothing else
-- needs it to be understood.
pub use Rattle.pmb_stats.specs.machine.Standing.{StatsStand}
