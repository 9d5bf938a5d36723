-- no text goes out
use Rattle.std.proofs.Common.{[], append-nil, map, subst, sym}
use Rattle.pmb_io.proofs.Writing.{writes_nothing}
use Rattle.pmb_spans.specs.Spans.{outcome}
use Rattle.pmb_capture.specs.machine.Account.{AccountStands}
use Rattle.pmb_capture.proofs.account.AccountVisitor.visit_event.Goals as goal

pub returns-clause-visits : goal.returns-clause-visits
returns-clause-visits g c start reached text stands spells may = record {
  text = [];
  writes = writes_nothing _ _;
  holds = subst (λ t. AccountStands g.O.Output.text g.O.Output.Stands start c.args.self.now (map outcome reached.spans)
      t) (sym (append-nil text)) stands;
}
