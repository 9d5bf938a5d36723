use Rattle.std.proofs.Common.{◌≡◌, [], Some}
use Rattle.pmb_bus.specs.Event.{event_of}
use Rattle.pmb_bus.specs.Text.{open_word}
use Rattle.pmb_bus.proofs.Finishes.{finishes_between, finishes_word, finish_refuses}
use Rattle.pmb_bus.proofs.lexer.Lexer.finish.Goals as goal

pub returns-in-Ok-None-clause-stands : goal.returns-in-Ok-None-clause-stands
returns-in-Ok-None-clause-stands c = λ n text events stands.
    let none : open_word text ≡ [] = rw c.in-Ok-None.field-0-is at (c.in-Ok-None.ensures.ends n text stands.place) in
    finishes_between c.args.self.now n text events stands none

pub returns-in-Ok-Some-clause-stands : goal.returns-in-Ok-Some-clause-stands
returns-in-Ok-Some-clause-stands c = λ n text events stands.
    let token : event_of (open_word text) ≡ Some c.in-Ok-Some.event =
    rw c.in-Ok-Some.field-0-is at (c.in-Ok-Some.ensures.ends n text stands.place) in
    finishes_word c.args.self.now n text events c.in-Ok-Some.event stands token

pub returns-in-Err-clause-stands : goal.returns-in-Err-clause-stands
returns-in-Err-clause-stands c = λ n text events stands.
    finish_refuses c.args.self.now n text events c.in-Err.fault stands (c.in-Err.ensures.ends n text stands.place)
