use Rattle.std.proofs.Common.{[], ◌∷◌, ◌++◌, ap, append-nil, map, sym, ◌∙◌}
use Rattle.pmb_io.proofs.Writing.{on_ok_both}
use Rattle.pmb_spans.specs.Spans.{ReadSpan, outcome}
use Rattle.pmb_transaction.specs.Transaction.{transaction_data}
use Rattle.pmb_capture.specs.Output.{accepted_in}
use Rattle.pmb_capture.proofs.Outcomes.{adds_packet, puts_more}
use Rattle.pmb_capture.proofs.account.AccountVisitor.visit_packet.Goals as goal

pub returns-clause-visits : goal.returns-clause-visits
returns-clause-visits g c start reached text n front event stands spells standing packet =
    let t = transaction_data c.args.transaction.now in
    let before = accepted_in (map outcome reached.spans) in
    on_ok_both c.put_packet.result (λ behind puts.
    puts_more g.O.Output.text g.O.Output.Stands start c.args.self.now
    (record { tally = c.count_packet.new.self; output = c.put_packet.new.self }) reached.spans
    (ReadSpan n (front ++ event ∷ []) t) text _ _ _ _ _
    stands (adds_packet _ _ t c.count_packet.ensures) c.put_packet.ensures.same behind puts
    (ap (λ o. o.of_packet before t) stands.same ∙ sym (append-nil _)))
    (c.put_packet.ensures.stands before stands.behind) (c.put_packet.ensures.puts before stands.behind)
