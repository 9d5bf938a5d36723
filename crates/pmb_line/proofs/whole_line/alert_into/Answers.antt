use Rattle.std.proofs.Common.{Some, refl, ap, sym, subst, ◌∙◌}
use Rattle.pmb_transaction.specs.Transaction.{PartData, part_data, transaction_data}
use Rattle.pmb_transaction.specs.Transaction as says
use Rattle.pmb_line.specs.declared.token.Token.TheVariants.{Pec}
use Rattle.pmb_line.specs.machine.Left.{left, end}
use Rattle.pmb_line.specs.machine.Pieces.{ReadsLine}
use Rattle.pmb_line.specs.machine.Reading.{LineStandsAt, step, alert_next, alert_byte, alert_pec, alert_none}
use Rattle.pmb_line.proofs.Standing.{next_of, no_pec}
use Rattle.pmb_line.proofs.Endings.{ends, tail}
use Rattle.pmb_line.proofs.whole_line.alert_into.Goals as goal

pub returns-in-Byte : goal.returns-in-Byte
returns-in-Byte c all stands =
    let b = c.in-Byte.byte in
    let at_byte : LineStandsAt all (alert_byte b) (left c.next.new.self) =
    next_of all alert_next (alert_byte b) c.in-Some.word _ _ stands c.in-Some.ensures.some
    (ap (step alert_next) (c.in-Some-token.is ∙ ap Some c.in-Byte.is)) tt in
    subst (λ t. ReadsLine all (end c.args.words.now) t c.take_end.result) (sym c.keep_alert.ensures)
    (tail all (end c.args.words.now) Pec (alert_byte b) (alert_pec b)
    (λ pec. says.Alert (record { byte = b; pec = pec })) _ _ c.take_pec-pec.result c.take_end.result
    at_byte refl (λ room. tt) refl refl (λ word rest same not. no_pec _ word.token not)
    (λ word. refl) c.take_pec-pec.ensures.takes c.take_end.ensures.takes)

pub returns-in-Nobody : goal.returns-in-Nobody
returns-in-Nobody c all stands =
    let at_none : LineStandsAt all alert_none (left c.next.new.self) =
    next_of all alert_next alert_none c.in-Some.word _ _ stands c.in-Some.ensures.some
    (ap (step alert_next) (c.in-Some-token.is ∙ ap Some c.in-Nobody.is)) tt in
    subst (λ t. ReadsLine all (end c.args.words.now) (transaction_data t) c.take_end-in-Nobody.result)
    (sym c.make_no_alert.ensures)
    (ends all (end c.args.words.now) alert_none says.NoAlert _ c.take_end-in-Nobody.result at_none refl
    (λ word rest same. refl) c.take_end-in-Nobody.ensures.takes)
