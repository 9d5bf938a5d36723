use Rattle.std.proofs.Common.{sym, subst, ◌∙◌}
use Rattle.pmb_bus.specs.declared.lexer.LexerState.{LexerState}
use Rattle.pmb_bus.specs.machine.Standing.{IsPlace}
use Rattle.pmb_bus.proofs.Lengthens.{opens_none, lengthens_first, lengthens_no_first, lengthens_digit}
use Rattle.pmb_bus.proofs.lexer.LexerState.lengthened.Goals as goal

pub returns-then-starts_token-clause-lengthens : goal.returns-then-starts_token-clause-lengthens
returns-then-starts_token-clause-lengthens c = λ n text counted is outside goes_on.
    lengthens_first n text c.args.byte c.args.used counted (opens_none c.args.self n text c.in-Between.is is) outside
    goes_on
    (sym c.starts_token.ensures ∙ c.if-starts_token.true)

pub returns-else-starts_token-clause-lengthens : goal.returns-else-starts_token-clause-lengthens
returns-else-starts_token-clause-lengthens c = λ n text counted is outside goes_on.
    lengthens_no_first n text c.args.byte c.args.used counted (opens_none c.args.self n text c.in-Between.is is)
    (sym c.starts_token.ensures ∙ c.if-starts_token.false)

pub returns-in-Some-clause-lengthens : goal.returns-in-Some-clause-lengthens
returns-in-Some-clause-lengthens c = λ n text counted is outside goes_on.
    lengthens_digit n text c.args.byte c.in-One.at c.in-One.first c.in-Some.byte
    (subst (λ (place : LexerState). IsPlace place n text) c.in-One.is is) outside goes_on c.in-Some.ensures
