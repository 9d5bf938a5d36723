-- What is asked of a session by its one call.
use Rattle.std.specs.Prelude.{◌≡◌}
use Rattle.pmb_bus_session.specs.Session.{MovesText, Opens, Requests, SendsMessage}
use Rattle.pmb_bus_session.specs.declared.session.BusSession.{BusSession}
use Rattle.pmb_bus_session.specs.declared.work.BusTask.{BusTask}
use Rattle.pmb_bus_session.specs.declared.work.BusTask.TheVariants as task
use Rattle.pmb_bus_session.specs.declared.work.BusWork.{BusWork}

-- what is asked, and what comes of it
abbrev pub ActsFor : BusTask → BusSession → BusSession → BusWork → BusWork → Type 0
ActsFor task.Open old new work done = Opens old new done.answer × (done.room ≡ work.room)
ActsFor (task.Message message) old new work done =
    SendsMessage message work.room.now done.room.now old new done.answer
ActsFor task.Request old new work done = Requests work.line.now old new done.answer × (done.room ≡ work.room)
ActsFor task.Take old new work done = MovesText work.room.now done.room.now old new done.answer

pub record Acts (old new : BusSession) (work done : BusWork) : Type 0 where
  pub acts : ActsFor work.task old new work done
  -- the room is the one that was lent
  pub same : done.room.ghost_name ≡ work.room.ghost_name
