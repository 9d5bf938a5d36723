use Rattle.pmb_bus.proofs.FrontTokens.{front_token_ends}
use Rattle.pmb_bus.proofs.lexer.Lexer.feed.Goals as goal

pub returns-in-Some-clause-stands : goal.returns-in-Some-clause-stands
returns-in-Some-clause-stands c = λ n text events stands.
    front_token_ends c.args.self.now _ n text events c.args.bytes.now c.in-Some.token.used c.in-Some.token.event stands
    c.in-Between.is
    c.in-Some.ensures.token (cc (c.in-Between.is, c.saturating_add-self.ensures))
