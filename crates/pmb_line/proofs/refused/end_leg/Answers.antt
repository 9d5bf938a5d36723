use Rattle.std.proofs.Common.{Some, List, map, refl, ap, ◌∙◌}
use Rattle.std.proofs.lemmas.Result.{err_from_is_err_and}
use Rattle.pmb_transaction.specs.Transaction.{PartData, part_data}
use Rattle.pmb_line.specs.machine.Left.{left, end}
use Rattle.pmb_line.specs.machine.Reading.{step, refused_sent, refused_pec, refused_read}
use Rattle.pmb_line.proofs.Standing.{misses_of, no_plus, says_so, unfit_word}
use Rattle.pmb_line.proofs.Legs.{no_sent, not_pushed_pec, not_pushed_plus, pushed_pec, pushed_plus, pushed_both}
use Rattle.pmb_line.proofs.Legs.{sent_read}
use Rattle.pmb_line.proofs.refused.end_leg.Goals as goal

pub returns-in_default-clause-reads : goal.returns-in_default-clause-reads
returns-in_default-clause-reads c all stands no_byte =
    let ps : List PartData = map part_data c.args.parts.now.items in
    says_so all (refused_sent ps c.args.addr c.args.sent.now) (left c.args.words.now) _ stands
    (c.next.ensures.none c.in_default.is) refl

pub returns-in_default-token-clause-reads : goal.returns-in_default-token-clause-reads
returns-in_default-token-clause-reads c all stands no_byte =
    let s = refused_sent (map part_data c.args.parts.now.items) c.args.addr c.args.sent.now in
    unfit_word all (end c.args.words.now) s c.in-Some.word _ _ _ stands c.in-Some.ensures.some
    (ap (step s) c.in_default-token.is) refl

pub returns-in_err-take_end-in-Read-clause-reads : goal.returns-in_err-take_end-in-Read-clause-reads
returns-in_err-take_end-in-Read-clause-reads c all stands no_byte =
    let ps : List PartData = map part_data c.args.parts.now.items in
    let at_read = sent_read all ps c.args.addr c.args.sent.now c.in-Some.word _ _ stands c.in-Some.ensures.some
    (c.in-Some-token.is ∙ ap Some c.in-Read.is) in
    let e = c.in_err-take_end-in-Read.ensures.takes in
    let p = err_from_is_err_and c.from_residual.result c.from_residual.ensures.1 in
    rw (p.1, p.2) (unfit_word all (end c.args.words.now) (refused_read ps c.args.addr c.args.sent.now) e.0 _ e.1 _
    at_read e.2 refl e.3)

pub returns-in_err-push_part-in-Pec-clause-reads : goal.returns-in_err-push_part-in-Pec-clause-reads
returns-in_err-push_part-in-Pec-clause-reads c all stands no_byte =
    let ps : List PartData = map part_data c.args.parts.now.items in
    let p = err_from_is_err_and c.from_residual-in_err-push_part-in-Pec.result
    c.from_residual-in_err-push_part-in-Pec.ensures.1 in
    rw (p.1, p.2) (not_pushed_pec all (end c.args.words.now) ps c.args.addr c.args.sent.now c.in-Some.word _ _ _ stands
    c.in-Some.ensures.some (c.in-Some-token.is ∙ ap Some c.in-Pec.is) c.in_err-push_part-in-Pec.ensures)

pub returns-in_err-take_wanted_plus-in-Pec-clause-reads : goal.returns-in_err-take_wanted_plus-in-Pec-clause-reads
returns-in_err-take_wanted_plus-in-Pec-clause-reads c all stands no_byte =
    let ps : List PartData = map part_data c.args.parts.now.items in
    let done = c.in_ok-push_part-in-Pec.ensures in
    let marked = pushed_pec all ps c.args.addr c.args.sent.now _ c.in-Some.word _ _ stands c.in-Some.ensures.some
    (c.in-Some-token.is ∙ ap Some c.in-Pec.is) done in
    let p = err_from_is_err_and c.from_residual-in_err-take_wanted_plus-in-Pec.result
    c.from_residual-in_err-take_wanted_plus-in-Pec.ensures.1 in
    rw (p.1, p.2) (misses_of all (end c.args.words.now) _ (refused_pec ps c.args.addr done.code done.bs) _ _ _
    c.next.ensures.end marked (λ e. cc e) refl (λ word rest same not. no_plus _ word.token not)
    c.in_err-take_wanted_plus-in-Pec.ensures.takes)

pub returns-in_err-push_part-in-Plus-clause-reads : goal.returns-in_err-push_part-in-Plus-clause-reads
returns-in_err-push_part-in-Plus-clause-reads c all stands no_byte =
    let ps : List PartData = map part_data c.args.parts.now.items in
    let p = err_from_is_err_and c.from_residual-in_err-push_part-in-Plus.result
    c.from_residual-in_err-push_part-in-Plus.ensures.1 in
    rw (p.1, p.2) (not_pushed_plus all (end c.args.words.now) ps c.args.addr c.args.sent.now c.in-Some.word _ _ _ stands
    c.in-Some.ensures.some (c.in-Some-token.is ∙ ap Some c.in-Plus.is) c.in_err-push_part-in-Plus.ensures)

pub returns-in_ok-take_end-in-Read-clause-reads : goal.returns-in_ok-take_end-in-Read-clause-reads
returns-in_ok-take_end-in-Read-clause-reads c all stands no_byte =
    let ps : List PartData = map part_data c.args.parts.now.items in
    let at_read = sent_read all ps c.args.addr c.args.sent.now c.in-Some.word _ _ stands c.in-Some.ensures.some
    (c.in-Some-token.is ∙ ap Some c.in-Read.is) in
    says_so all (refused_read ps c.args.addr c.args.sent.now) _ _ at_read c.in_ok-take_end-in-Read.ensures.takes refl

pub returns-in_ok-take_wanted_plus-in-Pec-clause-reads : goal.returns-in_ok-take_wanted_plus-in-Pec-clause-reads
returns-in_ok-take_wanted_plus-in-Pec-clause-reads c all stands no_byte =
    pushed_both all _ c.args.addr c.args.sent.now _ c.in-Some.word _ _ _ stands c.in-Some.ensures.some
    (c.in-Some-token.is ∙ ap Some c.in-Pec.is) c.in_ok-push_part-in-Pec.ensures
    c.in_ok-take_wanted_plus-in-Pec.ensures.takes

pub returns-in_ok-push_part-in-Plus-clause-reads : goal.returns-in_ok-push_part-in-Plus-clause-reads
returns-in_ok-push_part-in-Plus-clause-reads c all stands no_byte =
    pushed_plus all _ c.args.addr c.args.sent.now _ c.in-Some.word _ _ stands c.in-Some.ensures.some
    (c.in-Some-token.is ∙ ap Some c.in-Plus.is) c.in_ok-push_part-in-Plus.ensures

pub returns-in_default-token-2-clause-reads : goal.returns-in_default-token-2-clause-reads
returns-in_default-token-2-clause-reads c all stands no_byte =
    let ps : List PartData = map part_data c.args.parts.now.items in
    let s = refused_sent ps c.args.addr c.args.sent.now in
    let no = c.in_default-token-2 in
    unfit_word all (end c.args.words.now) s c.in-Some.word _ _ _ stands c.in-Some.ensures.some
    (ap (step s) c.in-Some-token.is ∙ no_sent (Some c.in-Some-token.token) ps c.args.addr c.args.sent.now
    (λ b is. no_byte c.in-Some.word _ b c.in-Some.ensures.some (c.in-Some-token.is ∙ is)) (λ is. no.not-Read (cc is))
    (λ is. no.not-Pec (cc is)) (λ is. no.not-Plus (cc is))) refl
