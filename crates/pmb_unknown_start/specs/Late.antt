-- What a `Late` was given.
--
-- `HasSeen late profile start past` says that since `new` with that start the `Late` of the profile was
-- given what went before, transactions and dropped lines in order. What that says of its own fields is
-- in `machine`, and nothing else needs it to be understood.
pub use Rattle.pmb_unknown_start.specs.machine.Standing.{HasSeen}
pub use Rattle.pmb_unknown_start.specs.Known.{page, mode, is_assumed}
pub use Rattle.pmb_unknown_start.specs.Phase.{phase}
