-- What a context was given.
--
-- `HasSeen context profile ts` says that since `new` the context of the profile was given the
-- transactions, in order. What that says of a context's own fields is in `machine`, and nothing else
-- needs it to be understood.
pub use Rattle.pmb_note.specs.machine.Standing.{HasSeen}
pub use Rattle.pmb_note.specs.Paging.{page, mode}
