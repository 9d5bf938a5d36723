use Rattle.pmb_bus_session.proofs.Standing as standing
use Rattle.pmb_bus_session.proofs.laws.sessions_stand.Goals as goal

pub returns-clause-fresh : goal.returns-clause-fresh
returns-clause-fresh c = standing.fresh

pub returns-clause-opened : goal.returns-clause-opened
returns-clause-opened c = standing.opened

pub returns-clause-sent : goal.returns-clause-sent
returns-clause-sent c = standing.sent

pub returns-clause-requested : goal.returns-clause-requested
returns-clause-requested c = standing.requested

pub returns-clause-taken : goal.returns-clause-taken
returns-clause-taken c = standing.taken
