use Rattle.std.proofs.Common.{Ok, Option, length, refl, subst}
use Rattle.pmb_bus.specs.Lexer.{Finishes}
use Rattle.pmb_bus.specs.declared.event.Event.{Event}
use Rattle.pmb_draft.proofs.Taking.{ends_between, ends_in_bad, ends_in_word}
use Rattle.pmb_draft.proofs.draft.Draft.take_end.Goals as goal

pub returns-in-Ok-None : goal.returns-in-Ok-None
returns-in-Ok-None c bytes events stands =
    ends_between c.args.self.now _ bytes events stands
    (subst (λ (o : Option Event). Finishes (length bytes) bytes events (Ok o) c.finish.new.self) c.in-Ok-None.field-0-is
    (c.in-Ok-None.ensures.stands (length bytes) bytes events stands.lexer))
    refl refl

pub returns-in-Ok-Some : goal.returns-in-Ok-Some
returns-in-Ok-Some c bytes events stands =
    ends_in_word c.args.self.now c.take_event.new.self c.finish.new.self bytes events c.in-Ok-Some.event stands
    (subst (λ (o : Option Event). Finishes (length bytes) bytes events (Ok o) c.finish.new.self) c.in-Ok-Some.field-0-is
    (c.in-Ok-Some.ensures.stands (length bytes) bytes events stands.lexer))
    c.take_event.ensures.bad
    (c.take_event.ensures.seen events stands.seen)

pub returns-in-Err : goal.returns-in-Err
returns-in-Err c bytes events stands =
    ends_in_bad c.args.self.now c.take_fault.new.self c.finish.new.self bytes events c.in-Err.fault stands
    (c.in-Err.ensures.stands (length bytes) bytes events stands.lexer) c.take_fault.ensures.bad c.take_fault.ensures.seen
