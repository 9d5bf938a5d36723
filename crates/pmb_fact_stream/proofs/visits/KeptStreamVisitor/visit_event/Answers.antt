use Rattle.std.proofs.Common.{[], append-nil, subst, sym, ◌∙◌}
use Rattle.pmb_io.proofs.Writing.{writes_nothing}
use Rattle.pmb_scan.specs.Reached.{behind_event}
use Rattle.pmb_fact_stream.specs.Stream.{StreamStands}
use Rattle.pmb_fact_stream.proofs.Told.{begins_where}
use Rattle.pmb_fact_stream.proofs.visits.KeptStreamVisitor.visit_event.Goals as goal

-- no text goes out
pub returns-in-None-clause-visits : goal.returns-in-None-clause-visits
returns-in-None-clause-visits g c start reached text stands spells may =
    let first = (stands.told stands.begins.0 stands.begins.1).at in
    let none = begins_where stands.begins.0 c.args.self.now.stream reached first c.args.event may
    ∙ (sym c.in-None.ensures) in record {
      text = [];
      writes = writes_nothing _ _;
      holds = subst (λ t. StreamStands g.K.Keeper.Keeps start c.take_next.new.self (behind_event reached c.args.event)
          t)
          (sym (append-nil text)) (c.take_next.ensures start reached text stands spells may none);
    }

-- the address byte of an other
pub returns-in-Some-clause-visits : goal.returns-in-Some-clause-visits
returns-in-Some-clause-visits g c start reached text stands spells may =
    let first = (stands.told stands.begins.0 stands.begins.1).at in
    c.take_other.ensures.visits start reached text stands spells may
    (begins_where stands.begins.0 c.args.self.now.stream reached first c.args.event may ∙ (sym c.in-Some.ensures))
