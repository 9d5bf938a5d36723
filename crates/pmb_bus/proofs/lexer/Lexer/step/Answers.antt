use Rattle.std.proofs.Common.{◌∙◌}
use Rattle.pmb_bus.specs.declared.lexer.LexerState.TheVariants as places
use Rattle.pmb_bus.proofs.Words.{in_comment_from_in}
use Rattle.pmb_bus.proofs.Stands.{stands_in_comment}
use Rattle.pmb_bus.proofs.lexer.Lexer.step.Goals as goal

pub returns-then-byte-eq10-clause-stands : goal.returns-then-byte-eq10-clause-stands
returns-then-byte-eq10-clause-stands c = λ n text events stands.
    stands_in_comment c.args.self.now c.advance.new.self n text c.args.byte events places.Between stands c.in-Comment.is
    c.advance.ensures
    (λ opened inside. (opened, inside ∙ (in_comment_from_in c.args.byte).0 c.if-byte-eq10.true))

pub returns-else-byte-eq10-clause-stands : goal.returns-else-byte-eq10-clause-stands
returns-else-byte-eq10-clause-stands c = λ n text events stands.
    stands_in_comment c.args.self.now c.advance-else-byte-eq10.new.self n text c.args.byte events places.Comment stands
    c.in-Comment.is
    c.advance-else-byte-eq10.ensures
    (λ opened inside. (opened, inside ∙ (in_comment_from_in c.args.byte).1 c.if-byte-eq10.false))
