use Rattle.std.proofs.Common.{◌≡◌, ◌∷◌, [], ◌++◌, ◌+◌, ◌∙◌, List, ℕ, ap, append_assoc, append-nil, arith, get_or, sym, take}
use Rattle.std.proofs.lemmas.Grind.{flat_map-append}
use Rattle.std.proofs.lemmas.List.{take_all, take_more}
use Rattle.pmb_bus.specs.Event.{canonical_text, text_of}
use Rattle.pmb_bus.specs.declared.event.Event.{Event}
use Rattle.pmb_bus.specs.declared.event.Event.TheVariants.{Start}
use Rattle.pmb_bus_session.proofs.log.Log.push_events.Goals as goal

-- There is room for each event that is left.
pub push_event-requires : goal.push_event-requires
push_event-requires c = omega (arith, c.requires, c.loop-event.invariant.room, c.loop-event-test.true)

-- Its text comes after the others.
pub loop-event-preserved : goal.loop-event-preserved
loop-event-preserved c =
    let i = c.loop-event.event-index in
    let events = c.args.events.now in
    let event = get_or events i Start in
    let more : take (i + 1) events ≡ take i events ++ event ∷ [] = take_more events i Start c.loop-event-test.true in
    let text : canonical_text (take i events) ++ text_of event ≡ canonical_text (take (i + 1) events) =
    ap (λ (last : List ℕ). canonical_text (take i events) ++ last) (sym (append-nil (text_of event)))
    ∙ (sym (flat_map-append text_of (take i events) (event ∷ [])) ∙ ap canonical_text (sym more)) in
    record {
      left = c.push_event.ensures.left
          ∙ (ap (λ (front : List ℕ). front ++ text_of event) c.loop-event.invariant.left
          ∙ (append_assoc c.args.self.now.left (canonical_text (take i events)) (text_of event)
          ∙ ap (λ (last : List ℕ). c.args.self.now.left ++ last) text));
      taken = c.push_event.ensures.taken ∙ c.loop-event.invariant.taken;
      room = omega (arith, c.push_event.ensures.room, c.loop-event.invariant.room);
    }

-- They are all of them.
pub returns-clause-left : goal.returns-clause-left
returns-clause-left c =
    c.loop-event.invariant.left
    ∙ ap (λ (es : List Event). c.args.self.now.left ++ canonical_text es)
    (take_all c.loop-event.event-index c.args.events.now c.loop-event-test.false)
