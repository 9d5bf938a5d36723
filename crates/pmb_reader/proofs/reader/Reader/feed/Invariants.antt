use Rattle.pmb_reader.proofs.Feeding.{FedTo}
use Rattle.pmb_reader.proofs.reader.Reader.feed.Given as goal

abbrev pub invariant-loop-i : goal.invariant-loop-i
invariant-loop-i l = FedTo l.initial.self l.events l.i l.self
