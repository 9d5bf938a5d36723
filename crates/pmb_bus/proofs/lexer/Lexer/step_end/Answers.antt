use Rattle.std.proofs.Common.{◌≡◌, ◌+◌, List, [], ◌∷◌, ◌++◌, Some, ap, subst, ◌∙◌}
use Rattle.std.proofs.lemmas.List.{append-nil}
use Rattle.pmb_bus.specs.declared.event.Event.{Event}
use Rattle.pmb_bus.specs.Event.{event_of}
use Rattle.pmb_bus.specs.Text.{open_word}
use Rattle.pmb_bus.specs.machine.Standing.{LexerStandsAt}
use Rattle.pmb_bus.proofs.Spelling.{no_word, one_word}
use Rattle.pmb_bus.proofs.Stands.{advanced, stands_end, stops_behind}
use Rattle.pmb_bus.proofs.lexer.Lexer.step_end.Goals as goal

pub returns-in-Ok-None-clause-stands : goal.returns-in-Ok-None-clause-stands
returns-in-Ok-None-clause-stands c = λ n text events stands outside ends.
    let none : open_word text ≡ [] = rw c.in-Ok-None.field-0-is at (c.in-Ok-None.ensures.ends n text stands.place) in
    subst (λ (all : List Event). LexerStandsAt c.advance.new.self (n + 1) (text ++ c.args.byte ∷ []) all)
    (append-nil events)
    (
    stands_end c.args.self.now c.advance.new.self n text c.args.byte events [] stands
    (c.advance.ensures ∙ ap (advanced c.args.self.now) c.behind.ensures) outside ends (no_word text none)
    )

pub returns-in-Ok-Some-clause-stands : goal.returns-in-Ok-Some-clause-stands
returns-in-Ok-Some-clause-stands c = λ n text events stands outside ends.
    let event = c.in-Ok-Some.event in
    let token : event_of (open_word text) ≡ Some event =
    rw c.in-Ok-Some.field-0-is at (c.in-Ok-Some.ensures.ends n text stands.place) in
    stands_end c.args.self.now c.advance-in-Ok-Some.new.self n text c.args.byte events (event ∷ []) stands
    (c.advance-in-Ok-Some.ensures ∙ ap (advanced c.args.self.now) c.behind-in-Ok-Some.ensures) outside ends
    (one_word text event token)

pub returns-in-Err-clause-stands : goal.returns-in-Err-clause-stands
returns-in-Err-clause-stands c = λ n text events stands outside ends.
    rw c.fail.ensures.answer
    (
    stops_behind c.args.self.now c.fail.new.self n text c.args.byte events c.in-Err.fault stands c.fail.ensures.faulted
    outside ends
    (c.in-Err.ensures.ends n text stands.place)
    )
