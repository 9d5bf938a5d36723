use Rattle.pmb_recording.proofs.recording.put_no_packets.Goals as goal

pub returns-then-packets-eq0-clause-puts : goal.returns-then-packets-eq0-clause-puts
returns-then-packets-eq0-clause-puts g c = rw c.if-packets-eq0.true c.put.ensures.ok
