use Rattle.pmb_bus.proofs.FrontTokens.{front_acked_feeds}
use Rattle.pmb_bus.proofs.lexer.Lexer.feed_acked.Goals as goal

pub returns-clause-feeds : goal.returns-clause-feeds
returns-clause-feeds c = λ n text events stands.
    front_acked_feeds c.args.self.now _ n text events c.args.bytes.now c.in_ok-byte.byte stands c.in-Between.is
    c.in_ok-byte.ensures.tokens
    (cc (c.in-Between.is, c.saturating_add-self.ensures))
