use Rattle.pmb_bus.proofs.Feeds.{FedTo}
use Rattle.pmb_bus.proofs.lexer.Lexer.feed_bytes.Given as goal

abbrev pub invariant-loop-i : goal.invariant-loop-i
invariant-loop-i l = FedTo l.initial.self l.bytes l.i l.self
