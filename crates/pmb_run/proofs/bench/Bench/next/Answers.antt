use Rattle.std.proofs.Common.{List, ◌++◌, ◌+◌, ◌∙◌, sym, ap, subst}
use Rattle.pmb_bus.specs.Event.{canonical_text}
use Rattle.pmb_bus.specs.declared.event.Event.{Event}
use Rattle.pmb_devices.specs.declared.bus.Bus.{Bus}
use Rattle.pmb_exchange.specs.Steps.{ExchangeStandsAt}
use Rattle.pmb_io.specs.Outgoing.{PutsText}
use Rattle.pmb_run.proofs.Hearing.{heard_as, heard_beside}
use Rattle.pmb_run.proofs.bench.Bench.next.Goals as goal

-- What was recorded was put out and heard.
pub returns-in_ok-put_events-in-Recorded-clause-runs : goal.returns-in_ok-put_events-in-Recorded-clause-runs
returns-in_ok-put_events-in-Recorded-clause-runs g c = λ members ts standing runs.
    let stepped = c.in-Recorded.ensures standing runs.stands in
    let events = c.in-Recorded.recorded.events in
    let same_profile = ap (λ p. p.now) (sym c.hear.ensures.profile) in
    let heard_so_far = heard_beside c.args.self.now c.next.new.bus ts runs.n standing.events runs.heard in
    record {
      few = stepped.0;
      events = events;
      writes = subst (λ (es : List Event). PutsText (g.W.Sink.told c.args.writer.now).held c.args.waiting.now.items
          (g.W.Sink.told c.put_events.new.writer).held c.put_events.new.waiting.items (canonical_text es))
          c.events.ensures c.in_ok-put_events-in-Recorded.ensures.writes;
      runs = record {
        stands = subst (λ (bus : Bus). ExchangeStandsAt c.next.new.self bus
            (record standing { events = standing.events ++ events; sent = standing.sent + 1 }))
            (sym c.hear.ensures.bus) stepped.1;
        profile_is = runs.profile_is ∙ same_profile;
        devices_are = runs.devices_are ∙ same_profile;
        members_are = runs.members_are;
        n = runs.n;
        heard = heard_as c.hear.new.self ts runs.n _ _
            (ap (λ (es : List Event). standing.events ++ es) c.events-in-Recorded.ensures)
            (c.hear.ensures.heard ts runs.n standing.events heard_so_far);
      };
    }

-- The bus alone has changed.
pub returns-in-End-clause-runs : goal.returns-in-End-clause-runs
returns-in-End-clause-runs g c = λ members ts standing runs.
    let stepped = c.in-End.ensures standing runs.stands in record {
      over = stepped.0;
      writes = c.texts_add_up.ensures.nothing _ _;
      runs = record {
        stands = stepped.1;
        profile_is = runs.profile_is;
        devices_are = runs.devices_are;
        members_are = runs.members_are;
        n = runs.n;
        heard = heard_beside c.args.self.now c.next.new.bus ts runs.n standing.events runs.heard;
      };
    }
