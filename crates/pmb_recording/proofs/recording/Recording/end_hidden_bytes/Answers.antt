use Rattle.pmb_recording.proofs.recording.Recording.end_hidden_bytes.Goals as goal

pub returns-clause-puts : goal.returns-clause-puts
returns-clause-puts g c = rw c.first_line-first.ensures at c.put_of.ensures.ok
