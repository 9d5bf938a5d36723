use Rattle.pmb_bus.proofs.Stands.{stands_longer, stops_longer}
use Rattle.pmb_bus.proofs.lexer.Lexer.step_word.Goals as goal

pub returns-in-Ok-clause-stands : goal.returns-in-Ok-clause-stands
returns-in-Ok-clause-stands c = λ n text events stands outside goes_on.
    stands_longer c.args.self.now c.advance.new.self n text c.args.byte events c.in-Ok.place stands c.advance.ensures
    outside goes_on
    (c.in-Ok.ensures.lengthens n text stands.counted stands.place outside goes_on)

pub returns-in-Err-clause-stands : goal.returns-in-Err-clause-stands
returns-in-Err-clause-stands c = λ n text events stands outside goes_on.
    rw c.fail.ensures.answer
    (
    stops_longer c.args.self.now c.fail.new.self n text c.args.byte events c.in-Err.fault stands c.fail.ensures.faulted
    outside goes_on
    (c.in-Err.ensures.lengthens n text stands.counted stands.place outside goes_on)
    )
