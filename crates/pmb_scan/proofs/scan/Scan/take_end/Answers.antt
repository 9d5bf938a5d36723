use Rattle.std.proofs.Common.{[], refl, sym, subst, append-nil, length, Ok}
use Rattle.pmb_bus.specs.Lexer.{Finishes}
use Rattle.pmb_bus.specs.Text.{Spells}
use Rattle.pmb_io.proofs.Writing.{writes_nothing}
use Rattle.pmb_scan.proofs.scan.Scan.take_end.Goals as goal

-- the word under way is no token
pub returns-in-Err-clause-takes : goal.returns-in-Err-clause-takes
returns-in-Err-clause-takes g c start reached text stands visited =
    let finish = c.in-Err.ensures.stands (length reached.text) reached.text reached.events stands.lexer in record {
      text = [];
      writes = writes_nothing _ _;
      holds = record {
        spells_none = finish.spells_none;
        at = finish.at;
        bad = finish.bad;
        reads = stands.reader;
        visited = subst (λ t. g.V.Visitor.Stands start c.args.visitor.now reached t) (sym (append-nil text)) visited;
      };
    }

-- no word is under way
pub returns-in-Ok-None-clause-takes : goal.returns-in-Ok-None-clause-takes
returns-in-Ok-None-clause-takes g c start reached text stands visited =
    let finish = subst (λ o. Finishes (length reached.text) reached.text reached.events (Ok o) c.finish.new.self)
    c.in-Ok-None.field-0-is
    (c.in-Ok-None.ensures.stands (length reached.text) reached.text reached.events stands.lexer) in record {
      text = [];
      writes = writes_nothing _ _;
      holds = record {
        there = reached;
        profile = refl;
        same_text = refl;
        spells = finish.spells;
        reads = stands.reader;
        visited = subst (λ t. g.V.Visitor.Stands start c.args.visitor.now reached t) (sym (append-nil text)) visited;
      };
    }

-- the word under way is the last event's
pub returns-in_ok-take_event-in-Ok-Some-clause-takes : goal.returns-in_ok-take_event-in-Ok-Some-clause-takes
returns-in_ok-take_event-in-Ok-Some-clause-takes g c start reached text stands visited =
    let finish = subst (λ o. Finishes (length reached.text) reached.text reached.events (Ok o) c.finish.new.self)
    c.in-Ok-Some.field-0-is
    (c.in-Ok-Some.ensures.stands (length reached.text) reached.text reached.events stands.lexer) in
    let taken = c.in_ok-take_event-in-Ok-Some.ensures.takes start reached text stands.reader visited finish.spells in
    record {
      text = taken.text;
      writes = taken.writes;
      holds = record {
        there = taken.holds.there;
        profile = taken.holds.profile;
        same_text = taken.holds.same_text;
        spells = subst (λ es. Spells reached.text es) (sym taken.holds.events) finish.spells;
        reads = taken.holds.reads;
        visited = taken.holds.visited;
      };
    }
