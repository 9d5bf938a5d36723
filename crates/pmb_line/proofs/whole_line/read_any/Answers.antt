use Rattle.std.proofs.Common.{Some, [], refl, ap, ◌∙◌, arith}
use Rattle.pmb_transaction.specs.Transaction.{transaction_data}
use Rattle.pmb_line.specs.declared.token.Token.TheVariants.{Write, Read, Call, Refused, Alert}
use Rattle.pmb_line.specs.machine.Left.{left, end}
use Rattle.pmb_line.specs.machine.Reading.{step, nothing, refused_next, alert_next, write_next, read_next, call_next}
use Rattle.pmb_line.proofs.Standing.{unfit_word}
use Rattle.pmb_line.proofs.Firsts.{begin, no_keyword, reads_after}
use Rattle.pmb_line.proofs.whole_line.read_any.Goals as goal

pub returns-in-Write : goal.returns-in-Write
returns-in-Write c =
    reads_after _ _ _ _ c.in-Some.word Write (write_next []) (transaction_data c.write_into.new.into)
    c.write_into.result c.in-Some.ensures.some (c.in-Some-token.is ∙ ap Some c.in-Write.is) refl
    (record { few = omega arith; each = tt }) c.in-Some.ensures.end c.write_into.ensures

pub returns-in-Read : goal.returns-in-Read
returns-in-Read c =
    reads_after _ _ _ _ c.in-Some.word Read read_next (transaction_data c.read_into.new.into) c.read_into.result
    c.in-Some.ensures.some (c.in-Some-token.is ∙ ap Some c.in-Read.is) refl tt c.in-Some.ensures.end
    c.read_into.ensures

pub returns-in-Call : goal.returns-in-Call
returns-in-Call c =
    reads_after _ _ _ _ c.in-Some.word Call call_next (transaction_data c.call_into.new.into) c.call_into.result
    c.in-Some.ensures.some (c.in-Some-token.is ∙ ap Some c.in-Call.is) refl tt c.in-Some.ensures.end
    c.call_into.ensures

pub returns-in-Refused : goal.returns-in-Refused
returns-in-Refused c =
    reads_after _ _ _ _ c.in-Some.word Refused (refused_next []) (transaction_data c.refused_into.new.into)
    c.refused_into.result c.in-Some.ensures.some (c.in-Some-token.is ∙ ap Some c.in-Refused.is) refl
    (record { few = omega arith; each = tt }) c.in-Some.ensures.end c.refused_into.ensures

pub returns-in-Alert : goal.returns-in-Alert
returns-in-Alert c =
    reads_after _ _ _ _ c.in-Some.word Alert alert_next (transaction_data c.alert_into.new.into) c.alert_into.result
    c.in-Some.ensures.some (c.in-Some-token.is ∙ ap Some c.in-Alert.is) refl tt c.in-Some.ensures.end
    c.alert_into.ensures

pub returns-in_default-token : goal.returns-in_default-token
returns-in_default-token c = unfit_word (left c.args.words.now) (end c.args.words.now) nothing c.in-Some.word _ _ _
    (begin (left c.args.words.now)) c.in-Some.ensures.some (ap (step nothing) c.in_default-token.is) refl

pub returns-in_default-token-2 : goal.returns-in_default-token-2
returns-in_default-token-2 c =
    let no = c.in_default-token-2 in
    unfit_word (left c.args.words.now) (end c.args.words.now) nothing c.in-Some.word _ _ _
    (begin (left c.args.words.now)) c.in-Some.ensures.some
    (ap (step nothing) c.in-Some-token.is ∙ no_keyword c.in-Some-token.token no.not-Write no.not-Read no.not-Call
    no.not-Refused no.not-Alert) refl
