use Rattle.std.proofs.Common.{◌≡◌, ◌∷◌, [], ◌++◌, List, ℕ, ◌+◌, ◌∙◌, sym, ap, subst, append-nil, take}
use Rattle.std.proofs.lemmas.Grind.{flat_map-append}
use Rattle.std.proofs.lemmas.List.{take_more}
use Rattle.pmb_bus.specs.Event.{canonical_text, text_of}
use Rattle.pmb_bus.specs.declared.event.Event.TheVariants.{Start}
use Rattle.pmb_io.specs.Outgoing.{PutsText}
use Rattle.pmb_run.proofs.Hearing.{event_at}
use Rattle.pmb_run.proofs.bench.put_events.Goals as goal

-- The event's text is put out after the others.
pub loop-event-preserved : goal.loop-event-preserved
loop-event-preserved g c =
    let i = c.loop-event.event-index in
    let events = c.args.events.now in
    let event = event_at events i in
    let more : take (i + 1) events ≡ take i events ++ event ∷ [] = take_more events i Start c.loop-event-test.true in
    let text : canonical_text (take i events) ++ text_of event ≡ canonical_text (take (i + 1) events) =
    ap (λ (last : List ℕ). canonical_text (take i events) ++ last) (sym (append-nil (text_of event)))
    ∙ (sym (flat_map-append text_of (take i events) (event ∷ [])) ∙ ap canonical_text (sym more)) in
    record {
      put = subst (λ (put : List ℕ). PutsText (g.W.Sink.told c.args.writer.now).held c.args.waiting.now.items
          (g.W.Sink.told c.put_event.new.writer).held c.put_event.new.waiting.items put) text
          (c.texts_add_up.ensures.both _ _ _ _ _ _ (canonical_text (take i events))
          (text_of event) c.loop-event.invariant.put c.in_ok-put_event.ensures.writes);
      failures = c.in_ok-put_event.ensures.failed ∙ c.loop-event.invariant.failures;
    }
