use Rattle.pmb_bus.proofs.Joins.{stands_behind_skipped}
use Rattle.pmb_bus.proofs.lexer.Lexer.skip.Goals as goal

pub returns-clause-stands : goal.returns-clause-stands
returns-clause-stands c = λ n text events more stands between ends spells.
    stands_behind_skipped c.args.self.now _ n text c.args.bytes.now events more stands
    (cc c.saturating_add-self.ensures) between ends spells
