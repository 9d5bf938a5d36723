use Rattle.std.proofs.Common.{ap, append-nil, map, subst, sym}
use Rattle.std.proofs.lemmas.Result.{on_ok_weaker}
use Rattle.pmb_reader.specs.Refusal.{refusal_data}
use Rattle.pmb_spans.specs.Spans.{RefusedSpan, outcome}
use Rattle.pmb_capture.specs.Output.{accepted_in}
use Rattle.pmb_capture.proofs.Outcomes.{adds_refusal, puts_more}
use Rattle.pmb_capture.proofs.account.AccountVisitor.visit_refusal.Goals as goal

pub returns-clause-visits : goal.returns-clause-visits
returns-clause-visits g c start reached text n front stands spells standing refused =
    let refusal = refusal_data c.args.refusal in
    let before = accepted_in (map outcome reached.spans) in
    let taken = c.take_refusal.ensures in
    on_ok_weaker c.take_refusal.result (λ puts.
    puts_more g.O.Output.text g.O.Output.Stands start c.args.self.now c.take_refusal.new.self reached.spans
    (RefusedSpan n front c.args._event refusal) text _ _ _ _ _
    stands (adds_refusal _ _ refusal taken.counted) (ap g.O.Output.text taken.output)
    (subst (λ ts. g.O.Output.Stands c.take_refusal.new.self.output ts) (sym (append-nil before))
    (subst (λ o. g.O.Output.Stands o before) (sym taken.output) stands.behind))
    puts (sym (append-nil _))) taken.puts
