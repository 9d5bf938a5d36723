use Rattle.std.proofs.Common.{◌≤◌, arith, length}
use Rattle.pmb_recording.specs.Content.{most_content}
use Rattle.pmb_trace.specs.Line.{event_seconds}
use Rattle.pmb_smbus.proofs.Short.{seconds_are_short}
use Rattle.pmb_smbus.proofs.transfers.Transfers.take_own.Goals as goal

pub take_of_bus-requires-clause-time : goal.take_of_bus-requires-clause-time
take_of_bus-requires-clause-time g c =
    let front : length c.args.event.front.now ≤ most_content = c.requires.short.0 in
    let short : length (event_seconds c.args.event.front.now) ≤ length c.args.event.front.now =
    seconds_are_short c.args.event.front.now in
    rw c.event_time-time.ensures (omega arith)
