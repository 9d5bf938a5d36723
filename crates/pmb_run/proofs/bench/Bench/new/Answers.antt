use Rattle.std.proofs.Common.{List, [], sym, subst}
use Rattle.std.proofs.lemmas.List.{map-id}
use Rattle.pmb_devices.specs.Runs.{first_members}
use Rattle.pmb_devices.specs.Signal.{BusStandsAt}
use Rattle.pmb_registers.specs.State.{InState}
use Rattle.pmb_run.proofs.Hosts.{devices_after}
use Rattle.pmb_run.proofs.bench.Bench.new.Goals as goal

-- No transaction was recorded, so each device is in its first state.
pub returns-clause-begins : goal.returns-clause-begins
returns-clause-begins c = record {
  devices_are = devices_after [] c.args.profile.now;
  past = [];
  bus = subst (λ (members : List InState). BusStandsAt c.args.bus (record { past = []; members = members; history = [] }))
      (sym (map-id (first_members c.args.profile.now))) c.requires;
  n = 0;
  reader = c.new.ensures;
  context = c.new-2.ensures;
}

-- No event was read.
pub returns-clause-read : goal.returns-clause-read
returns-clause-read c = record {
  read = c.reading_begins.ensures c.args.profile.now c.new.result c.new.ensures;
  seen = c.new-2.ensures;
}
